-- What a place that is taken out of its thread, put into one, or added does to the links.
--
-- Throughout there are n places and t numbers, V is the number at a place, and a and b are `after` and `before`; V', a'
-- and b' are the same afterwards. The place that changes is x, its number v, the node before it p and the stop behind
-- it y; u, q, s and z are any number, node, stop and place.
use Rattle.std.proofs.Common.{◌≡◌, ℕ, ◌+◌, ◌-◌, ◌<◌, ◌≤◌, refl, sym, ◌∙◌, inl, inr, subst, arith}
use Rattle.std.specs.Prelude.{◌≢◌}
use Rattle.std.proofs.lemmas.Bool.{cases_eq, cases_order}
use Rattle.rw_column.specs.Threads.{nothing}
use Rattle.rw_column.specs.inner.Links.{IsNode, IsStop, IsFirstFrom, AreLinks, IsLed, IsBacked}

-- the node of a place that has the number
pub node_of : (n : ℕ) (V : ℕ → ℕ) (v x : ℕ) → x < n → V x ≡ v → IsNode n V v (x + 1)
node_of n V v x within is place e =
    let same : x ≡ place = omega (arith, e) in
    (omega (arith, within, same), subst (λ (k : ℕ). V k ≡ v) same is)

-- of two nodes the lesser does not lead where the other one does
lesser_leads : (n : ℕ) (V : ℕ → ℕ) (v p q s : ℕ) → n ≤ nothing → IsNode n V v q → IsFirstFrom n V v p s → IsFirstFrom n V v q s → p < q → ⊥
lesser_leads n V v p q s few node first second less =
    let w : ℕ = q - 1 in
    let at : (w < n) × (V w ≡ v) = node w (omega arith) in
    let below : s ≤ w = first.least w (omega arith) at.0 at.1 in
    let above : (q ≤ s) × (s < n) × (V s ≡ v) = second.there (λ (e : s ≡ nothing). omega (arith, at.0)) in
    omega (arith, above.0)

-- two nodes of one number that lead to the same are one
one_leads : (n : ℕ) (V : ℕ → ℕ) (v p q s : ℕ) → n ≤ nothing → IsNode n V v p → IsNode n V v q → IsFirstFrom n V v p s → IsFirstFrom n V v q s → p ≡ q
one_leads n V v p q s few node other first second =
    elim (cases_order p q) [
      | inl same ↦ same
      | inr (inl less) ↦ absurd (lesser_leads n V v p q s few other first second less)
      | inr (inr more) ↦ absurd (lesser_leads n V v q p s few node second first more)
    ]

-- a node that is led elsewhere is no node of another number, so what the other number's nodes lead to stays
elsewhere : (n : ℕ) (V : ℕ → ℕ) (a a' : ℕ → ℕ → ℕ) (v p y u q : ℕ) → IsLed a a' v p y → IsNode n V v p → IsNode n V u q → u ≢ v → a' u q ≡ a u q
elsewhere n V a a' v p y u q led node other apart =
    elim (cases_eq q p) [
      | inr differ ↦ led.others u q differ
      | inl same ↦ elim (cases_eq q 0) [
        | inl head ↦ subst (λ (k : ℕ). a' u k ≡ a u k) (sym head) (led.heads u apart)
        | inr place ↦
            let w : ℕ = q - 1 in
            let here : (w < n) × (V w ≡ v) = node w (omega arith) in
            let there : (w < n) × (V w ≡ u) = other w (omega arith) in
            absurd (apart (sym there.1 ∙ here.1))
      ]
    ]

-- likewise for the nodes that lead to places
elsewhere_back : (n : ℕ) (V : ℕ → ℕ) (b b' : ℕ → ℕ → ℕ) (v p y u s : ℕ) → IsBacked b b' v y p → IsStop n V v y → IsStop n V u s → u ≢ v → b' u s ≡ b u s
elsewhere_back n V b b' v p y u s backed stop other apart =
    elim (cases_eq s y) [
      | inr differ ↦ backed.others u s differ
      | inl same ↦ elim (cases_eq s nothing) [
        | inl end ↦ subst (λ (k : ℕ). b' u k ≡ b u k) (sym end) (backed.tails u apart)
        | inr place ↦
            let there : (s < n) × (V s ≡ u) = other place in
            let here : (y < n) × (V y ≡ v) = stop (λ e. place (same ∙ e)) in
            absurd (apart (sym there.1 ∙ (subst (λ (k : ℕ). V k ≡ v) (sym same) here.1)))
      ]
    ]

-- ---- taking a place out

module _ (n t : ℕ) (V V' : ℕ → ℕ) (x : ℕ) (few : n ≤ nothing) (few_targets : t ≤ nothing) (within : x < n)
    (gone : V' x ≡ nothing) (others : (z : ℕ) → z ≢ x → V' z ≡ V z) where
  -- a place that is left with a number had it before
  had : (u z : ℕ) → u < t → V' z ≡ u → (z ≢ x) × (V z ≡ u)
  had u z known is =
      let apart : z ≢ x = λ e. omega (arith, sym is ∙ subst (λ (k : ℕ). V' k ≡ nothing) (sym e) gone) in
      (apart, sym (others z apart) ∙ is)

  -- a node afterwards was a node before, and is not that of the place taken out
  node_before : (u q : ℕ) → u < t → IsNode n V' u q → IsNode n V u q × (q ≢ x + 1)
  node_before u q known node = (
    λ place is. ((node place is).0, (had u place known (node place is).1).1),
    λ e. (had u x known (node x e).1).0 refl,
  )

  -- each other node is left
  node_after : (u q : ℕ) → IsNode n V u q → q ≢ x + 1 → IsNode n V' u q
  node_after u q node apart place is =
      ((node place is).0, others place (λ e. apart (is ∙ subst (λ (k : ℕ). place + 1 ≡ k + 1) e refl)) ∙ (node place is).1)

  -- each other stop stays the first from where it was
  first_after : (u q s : ℕ) → u < t → s ≢ x → IsFirstFrom n V u q s → IsFirstFrom n V' u q s
  first_after u q s known apart first = record {
    least = λ z from in_range is. first.least z from in_range (had u z known is).1;
    there = λ some. let at = first.there some in (at.0, at.1, others s apart ∙ at.2);
  }

  -- each node leads to the first place behind it once x is out
  first_unlinked : (a b a' : ℕ → ℕ → ℕ) (v p y : ℕ) → AreLinks n t V a b → v < t → V x ≡ v → IsNode n V v p → a v p ≡ x → IsFirstFrom n V v (x + 1) y
      → IsLed a a' v p y → (u q : ℕ) → u < t → IsNode n V' u q → IsFirstFrom n V' u q (a' u q)
  first_unlinked a b a' v p y links known is p_node p_leads y_first led u q in_range q_node =
      let q_before : IsNode n V u q × (q ≢ x + 1) = node_before u q in_range q_node in
      let q_first : IsFirstFrom n V u q (a u q) = links.leads u q in_range q_before.0 in
      elim (cases_eq u v) [
        | inr apart ↦
            let stays : a' u q ≡ a u q = elsewhere n V a a' v p y u q led p_node q_before.0 apart in
            let kept : IsFirstFrom n V' u q (a u q) = first_after u q (a u q) in_range
            (λ e. apart (sym (subst (λ (k : ℕ). V k ≡ u) e (q_first.there (λ none. omega (arith, none, e))).2) ∙ is)) q_first in
            subst (IsFirstFrom n V' u q) (sym stays) kept
        | inl same ↦ elim (cases_eq q p) [
          | inr other ↦
              let stays : a' u q ≡ a u q = led.others u q other in
              let apart : a u q ≢ x = λ e. other (one_leads n V v q p x few (subst (λ (k : ℕ). IsNode n V k q) same q_before.0) p_node
              (subst (λ (k : ℕ). IsFirstFrom n V k q x) same (subst (IsFirstFrom n V u q) e q_first))
              (subst (IsFirstFrom n V v p) p_leads (links.leads v p known p_node))) in
              subst (IsFirstFrom n V' u q) (sym stays) (first_after u q (a u q) in_range apart q_first)
          | inl here ↦
              let x_first : IsFirstFrom n V v p x = subst (IsFirstFrom n V v p) p_leads (links.leads v p known p_node) in
              let x_found : (p ≤ x) × (x < n) × (V x ≡ v) = x_first.there (λ e. omega (arith, e)) in
              let from_p : IsFirstFrom n V' v p y = record {
                least = λ z from in_z z_is.
                    let old : (z ≢ x) × (V z ≡ v) = had v z known z_is in
                    elim (cases_order z x) [
                      | inl e ↦ absurd (old.0 e)
                      | inr (inl less) ↦ let behind : x ≤ z = x_first.least z from in_z old.1 in omega arith
                      | inr (inr more) ↦ y_first.least z (omega arith) in_z old.1
                    ];
                there = λ some. let at = y_first.there some in (omega (arith, at.0, x_found.0), at.1, others y (λ e. omega (arith, at.0, e)) ∙ at.2);
              } in
              subst (λ (k : ℕ). IsFirstFrom n V' u q k) (sym (subst (λ (k : ℕ). a' k q ≡ y) (sym same) (subst (λ (k : ℕ). a' v k ≡ y) (sym here) led.here)))
              (subst (λ (k : ℕ). IsFirstFrom n V' k q y) (sym same) (subst (λ (k : ℕ). IsFirstFrom n V' v k y) (sym here) from_p))
        ]
      ]

  -- each stop knows the node that leads to it once x is out
  back_unlinked : (a b a' b' : ℕ → ℕ → ℕ) (v p y : ℕ) → AreLinks n t V a b → v < t → V x ≡ v → IsNode n V v p → a v p ≡ x → a v (x + 1) ≡ y
      → IsLed a a' v p y → IsBacked b b' v y p → (u s : ℕ) → u < t → IsStop n V' u s → IsNode n V' u (b' u s) × (a' u (b' u s) ≡ s)
  back_unlinked a b a' b' v p y links known is p_node p_leads x_leads led backed u s in_range stop =
      let apart_x : s ≢ x = λ e. let e' : V' s ≡ u = (stop (λ none. omega (arith, none, e))).1 in (had u s in_range e').0 e in
      let s_stop : IsStop n V u s = λ some. ((stop some).0, sym (others s apart_x) ∙ (stop some).1) in
      let old : IsNode n V u (b u s) × (a u (b u s) ≡ s) = links.back u s in_range s_stop in
      let x_node : IsNode n V v (x + 1) = node_of n V v x within is in
      let y_first : IsFirstFrom n V v (x + 1) y = subst (IsFirstFrom n V v (x + 1)) x_leads (links.leads v (x + 1) known x_node) in
      let y_stop : IsStop n V v y = λ some. let at = y_first.there some in (at.1, at.2) in
      elim (cases_eq u v) [
        | inr apart ↦
            let stays : b' u s ≡ b u s = elsewhere_back n V b b' v p y u s backed y_stop s_stop apart in
            let not_x : b u s ≢ x + 1 = λ e. apart (sym (old.0 x e).1 ∙ is) in
            let s_led : a' u (b u s) ≡ s = elsewhere n V a a' v p y u (b u s) led p_node old.0 apart ∙ old.1 in
            subst (λ (q : ℕ). IsNode n V' u q × (a' u q ≡ s)) (sym stays) (node_after u (b u s) old.0 not_x, s_led)
        | inl same ↦ elim (cases_eq s y) [
          | inl here ↦
              let x_first : IsFirstFrom n V v p x = subst (IsFirstFrom n V v p) p_leads (links.leads v p known p_node) in
              let x_found : (p ≤ x) × (x < n) × (V x ≡ v) = x_first.there (λ e. omega (arith, e)) in
              let p_node' : IsNode n V' v p = node_after v p p_node (λ e. omega (arith, x_found.0, e)) in
              let goes : b' u s ≡ p = subst (λ (k : ℕ). b' k s ≡ p) (sym same) (subst (λ (k : ℕ). b' v k ≡ p) (sym here) backed.here) in
              let s_led : a' u p ≡ s = subst (λ (k : ℕ). a' k p ≡ s) (sym same) (led.here ∙ sym here) in
              subst (λ (q : ℕ). IsNode n V' u q × (a' u q ≡ s)) (sym goes) (subst (λ (k : ℕ). IsNode n V' k p) (sym same) p_node', s_led)
          | inr other ↦
              let stays : b' u s ≡ b u s = backed.others u s other in
              let not_x : b u s ≢ x + 1 = λ e. other (sym old.1 ∙ subst (λ (k : ℕ). a k (b u s) ≡ y) (sym same) (subst (λ (k : ℕ). a v k ≡ y) (sym e) x_leads)) in
              let not_p : b u s ≢ p = λ e. apart_x (sym old.1 ∙ subst (λ (k : ℕ). a k (b u s) ≡ x) (sym same) (subst (λ (k : ℕ). a v k ≡ x) (sym e) p_leads)) in
              subst (λ (q : ℕ). IsNode n V' u q × (a' u q ≡ s)) (sym stays)
              (node_after u (b u s) old.0 not_x, led.others u (b u s) not_p ∙ old.1)
        ]
      ]

  -- a place is taken out of its thread
  pub unlinked : (a b a' b' : ℕ → ℕ → ℕ) (v p y : ℕ) → AreLinks n t V a b → v < t → V x ≡ v → b v x ≡ p → a v (x + 1) ≡ y
      → IsLed a a' v p y → IsBacked b b' v y p → AreLinks n t V' a' b'
  unlinked a b a' b' v p y links known is back x_leads led backed =
      let x_stop : IsStop n V v x = λ some. (within, is) in
      let at : IsNode n V v (b v x) × (a v (b v x) ≡ x) = links.back v x known x_stop in
      let p_node : IsNode n V v p = subst (IsNode n V v) back at.0 in
      let p_leads : a v p ≡ x = subst (λ (q : ℕ). a v q ≡ x) back at.1 in
      let x_node : IsNode n V v (x + 1) = node_of n V v x within is in
      let y_first : IsFirstFrom n V v (x + 1) y = subst (IsFirstFrom n V v (x + 1)) x_leads (links.leads v (x + 1) known x_node) in
      record {
        leads = first_unlinked a b a' v p y links known is p_node p_leads y_first led;
        back = back_unlinked a b a' b' v p y links known is p_node p_leads x_leads led backed;
      }

-- ---- putting a place in: first V alone is changed, then x has its own links (a₁ and b₁), then p and y are led to x

module _ (n t : ℕ) (V V' : ℕ → ℕ) (x v p y : ℕ) (few : n ≤ nothing) (few_targets : t ≤ nothing) (within : x < n) (known : v < t)
    (free : V x ≡ nothing) (put : V' x ≡ v) (others : (z : ℕ) → z ≢ x → V' z ≡ V z)
    (p_node : IsNode n V v p) (y_first : IsFirstFrom n V v p y) (before_x : p ≤ x) (after_x : x < y) where
  -- the place was no place of a number
  not_x : (u z : ℕ) → u < t → V z ≡ u → z ≢ x
  not_x u z in_range is e = omega (arith, sym is ∙ subst (λ (k : ℕ). V k ≡ nothing) (sym e) free)

  -- each node is still one once x is put in
  node_more : (u q : ℕ) → u < t → IsNode n V u q → IsNode n V' u q
  node_more u q in_range old place is = ((old place is).0, others place (not_x u place in_range (old place is).1) ∙ (old place is).1)

  -- each node but that of x was one before
  node_less : (u q : ℕ) → q ≢ x + 1 → IsNode n V' u q → IsNode n V u q
  node_less u q apart new place is =
      ((new place is).0, sym (others place (λ e. apart (is ∙ subst (λ (k : ℕ). place + 1 ≡ k + 1) e refl))) ∙ (new place is).1)

  -- no node was that of x
  not_behind : (u q : ℕ) → u < t → IsNode n V u q → q ≢ x + 1
  not_behind u q in_range old e = not_x u x in_range (old x e).1 refl

  -- the stop behind x is one of v
  y_stop : IsStop n V v y
  y_stop some = let at = y_first.there some in (at.1, at.2)

  module _ (a b a₁ b₁ a' b' : ℕ → ℕ → ℕ) (links : AreLinks n t V a b)
      (a_here : (u : ℕ) → a₁ u (x + 1) ≡ y) (a_others : (u q : ℕ) → q ≢ x + 1 → a₁ u q ≡ a u q)
      (b_here : (u : ℕ) → b₁ u x ≡ p) (b_others : (u s : ℕ) → s ≢ x → b₁ u s ≡ b u s)
      (p_leads : a v p ≡ y) (led : IsLed a₁ a' v p x) (backed : IsBacked b₁ b' v y (x + 1)) where
    -- x leads to the stop behind it
    leads_on : (u : ℕ) → a' u (x + 1) ≡ y
    leads_on u = led.others u (x + 1) (λ e. omega (arith, e, before_x)) ∙ a_here u

    -- a node that is neither the one before x nor that of x leads where it led
    stays : (u q : ℕ) → q ≢ p → q ≢ x + 1 → a' u q ≡ a u q
    stays u q apart apart_x = led.others u q apart ∙ a_others u q apart_x

    -- a node of another number leads where it led
    stays_elsewhere : (u q : ℕ) → u < t → IsNode n V u q → u ≢ v → a' u q ≡ a u q
    stays_elsewhere u q in_range old apart = elsewhere n V a₁ a' v p x u q led p_node old apart ∙ a_others u q (not_behind u q in_range old)

    -- each older node of v leads to the first place behind it once x is in
    first_here : (q : ℕ) → IsNode n V v q → IsFirstFrom n V' v q (a' v q)
    first_here q old =
        elim (cases_eq q p) [
          | inl same ↦ subst (λ (k : ℕ). IsFirstFrom n V' v k (a' v k)) (sym same) (subst (IsFirstFrom n V' v p) (sym led.here) (record {
            least = λ z from in_z is. elim (cases_eq z x) [
              | inl e ↦ omega (arith, e)
              | inr apart ↦ let far : y ≤ z = y_first.least z from in_z (sym (others z apart) ∙ is) in omega (arith, far, after_x)
            ];
            there = λ some. (before_x, within, put);
          }))
          | inr apart ↦
              let first : IsFirstFrom n V v q (a v q) = links.leads v q known old in
              subst (IsFirstFrom n V' v q) (sym (stays v q apart (not_behind v q known old))) (record {
                least = λ z from in_z is. elim (cases_eq z x) [
                  | inr other ↦ first.least z from in_z (sym (others z other) ∙ is)
                  | inl e ↦ elim (cases_order q p) [
                    | inl same ↦ absurd (apart same)
                    | inr (inl less) ↦
                        let w : ℕ = p - 1 in
                        let at : (w < n) × (V w ≡ v) = p_node w (omega arith) in
                        let near : a v q ≤ w = first.least w (omega arith) at.0 at.1 in
                        omega (arith, near, before_x, e)
                    | inr (inr more) ↦
                        let w : ℕ = q - 1 in
                        let at : (w < n) × (V w ≡ v) = old w (omega arith) in
                        let far : y ≤ w = y_first.least w (omega arith) at.0 at.1 in
                        omega (arith, far, after_x, e, from)
                  ]
                ];
                there = λ some. let at = first.there some in (at.0, at.1, others (a v q) (not_x v (a v q) known at.2) ∙ at.2);
              })
        ]

    -- each node leads to the first place behind it once x is in
    first_linked : (u q : ℕ) → u < t → IsNode n V' u q → IsFirstFrom n V' u q (a' u q)
    first_linked u q in_range new =
        elim (cases_eq q (x + 1)) [
          | inl here ↦
              let same : u ≡ v = sym (new x here).1 ∙ put in
              let first : IsFirstFrom n V' v (x + 1) y = record {
                least = λ z from in_z is. y_first.least z (omega (arith, from, before_x)) in_z (sym (others z (λ e. omega (arith, e, from))) ∙ is);
                there = λ some. let at = y_first.there some in (omega (arith, after_x), at.1, others y (λ e. omega (arith, e, after_x)) ∙ at.2);
              } in
              subst (λ (k : ℕ). IsFirstFrom n V' k q (a' k q)) (sym same)
              (subst (λ (k : ℕ). IsFirstFrom n V' v k (a' v k)) (sym here) (subst (IsFirstFrom n V' v (x + 1)) (sym (leads_on v)) first))
          | inr behind ↦
              let old : IsNode n V u q = node_less u q behind new in
              elim (cases_eq u v) [
                | inl same ↦ subst (λ (k : ℕ). IsFirstFrom n V' k q (a' k q)) (sym same) (first_here q (subst (λ (k : ℕ). IsNode n V k q) same old))
                | inr apart ↦
                    let first : IsFirstFrom n V u q (a u q) = links.leads u q in_range old in
                    subst (IsFirstFrom n V' u q) (sym (stays_elsewhere u q in_range old apart)) (record {
                      least = λ z from in_z is. first.least z from in_z
                          (sym (others z (λ e. apart (sym is ∙ subst (λ (k : ℕ). V' k ≡ v) (sym e) put))) ∙ is);
                      there = λ some. let at = first.there some in (at.0, at.1, others (a u q) (not_x u (a u q) in_range at.2) ∙ at.2);
                    })
              ]
        ]

    -- each stop knows the node that leads to it once x is in
    back_linked : (u s : ℕ) → u < t → IsStop n V' u s → IsNode n V' u (b' u s) × (a' u (b' u s) ≡ s)
    back_linked u s in_range new =
        elim (cases_eq s x) [
          | inl here ↦
              let at : (s < n) × (V' s ≡ u) = new (λ e. omega (arith, e, here)) in
              let same : u ≡ v = sym at.1 ∙ subst (λ (k : ℕ). V' k ≡ v) (sym here) put in
              let goes : b' u s ≡ p = backed.others u s (λ e. omega (arith, e, here, after_x)) ∙ subst (λ (k : ℕ). b₁ u k ≡ p) (sym here) (b_here u) in
              subst (λ (q : ℕ). IsNode n V' u q × (a' u q ≡ s)) (sym goes)
              (subst (λ (k : ℕ). IsNode n V' k p × (a' k p ≡ s)) (sym same) (node_more v p known p_node, led.here ∙ sym here))
          | inr apart_x ↦
              let was : IsStop n V u s = λ some. ((new some).0, sym (others s apart_x) ∙ (new some).1) in
              let old : IsNode n V u (b u s) × (a u (b u s) ≡ s) = links.back u s in_range was in
              elim (cases_eq u v) [
                | inr apart ↦
                    let goes : b' u s ≡ b u s = elsewhere_back n V b₁ b' v (x + 1) y u s backed y_stop was apart ∙ b_others u s apart_x in
                    subst (λ (q : ℕ). IsNode n V' u q × (a' u q ≡ s)) (sym goes)
                    (node_more u (b u s) in_range old.0, stays_elsewhere u (b u s) in_range old.0 apart ∙ old.1)
                | inl same ↦ elim (cases_eq s y) [
                  | inl at_y ↦
                      let goes : b' u s ≡ x + 1 = subst (λ (k : ℕ). b' k s ≡ x + 1) (sym same) (subst (λ (k : ℕ). b' v k ≡ x + 1) (sym at_y) backed.here) in
                      let x_node : IsNode n V' v (x + 1) = node_of n V' v x within put in
                      subst (λ (q : ℕ). IsNode n V' u q × (a' u q ≡ s)) (sym goes)
                      (subst (λ (k : ℕ). IsNode n V' k (x + 1)) (sym same) x_node, leads_on u ∙ sym at_y)
                  | inr other ↦
                      let goes : b' u s ≡ b u s = backed.others u s other ∙ b_others u s apart_x in
                      let not_p : b u s ≢ p = λ e. other (sym old.1 ∙ subst (λ (k : ℕ). a k (b u s) ≡ y) (sym same) (subst (λ (k : ℕ). a v k ≡ y) (sym e) p_leads)) in
                      subst (λ (q : ℕ). IsNode n V' u q × (a' u q ≡ s)) (sym goes)
                      (node_more u (b u s) in_range old.0, stays u (b u s) not_p (not_behind u (b u s) in_range old.0) ∙ old.1)
                ]
              ]
        ]

    -- a place is put into the thread of a number
    pub linked : AreLinks n t V' a' b'
    linked = record { leads = first_linked; back = back_linked }

-- a place more, which has no number
pub grown : (n t : ℕ) (V V' : ℕ → ℕ) (a b a' b' : ℕ → ℕ → ℕ) → t ≤ nothing → AreLinks n t V a b → V' n ≡ nothing → ((z : ℕ) → z < n → V' z ≡ V z)
    → ((v q : ℕ) → IsNode n V v q → a' v q ≡ a v q) → ((v s : ℕ) → IsStop n V v s → b' v s ≡ b v s) → AreLinks (n + 1) t V' a' b'
grown n t V V' a b a' b' few_targets links none others a_stays b_stays =
    record {
      leads = λ v q known new.
          let old : IsNode n V v q = node_back v q known new in
          let first : IsFirstFrom n V v q (a v q) = links.leads v q known old in
          subst (IsFirstFrom (n + 1) V' v q) (sym (a_stays v q old)) (record {
            least = λ z from in_range is.
                let at : (z < n) × (V z ≡ v) = old_place v z known in_range is in
                first.least z from at.0 at.1;
            there = λ some. let at = first.there some in (at.0, omega (arith, at.1), others (a v q) at.1 ∙ at.2);
          });
      back = λ v s known new.
          let old : IsStop n V v s = λ some. let at = new some in old_place v s known at.0 at.1 in
          let at : IsNode n V v (b v s) × (a v (b v s) ≡ s) = links.back v s known old in
          subst (λ (q : ℕ). IsNode (n + 1) V' v q × (a' v q ≡ s)) (sym (b_stays v s old))
          ((λ place is. let here = at.0 place is in (omega (arith, here.0), others place here.0 ∙ here.1)), a_stays v (b v s) at.0 ∙ at.1);
    }
  where
    -- a place that has a number was there before
    old_place : (v z : ℕ) → v < t → z < n + 1 → V' z ≡ v → (z < n) × (V z ≡ v)
    old_place v z known in_range is =
        elim (cases_eq z n) [
          | inl last ↦ absurd (omega (arith, sym is ∙ subst (λ (k : ℕ). V' k ≡ nothing) (sym last) none))
          | inr before ↦ let less : z < n = omega (arith, before) in (less, sym (others z less) ∙ is)
        ]

    -- a node was one before
    node_back : (v q : ℕ) → v < t → IsNode (n + 1) V' v q → IsNode n V v q
    node_back v q known new place is = let at = new place is in old_place v place known at.0 at.1

-- a number more, which stands at no place
pub widened : (n t : ℕ) (V : ℕ → ℕ) (a b a' b' : ℕ → ℕ → ℕ) → n ≤ nothing → AreLinks n t V a b → ((z : ℕ) → z < n → V z ≢ nothing → V z < t) → t < nothing
    → ((v q : ℕ) → v < t → a' v q ≡ a v q) → ((v s : ℕ) → v < t → b' v s ≡ b v s) → a' t 0 ≡ nothing → b' t nothing ≡ 0 → AreLinks n (t + 1) V a' b'
widened n t V a b a' b' few links within few_targets a_stays b_stays a_none b_none =
    record {
      leads = λ v q known node.
          elim (cases_eq v t) [
            | inr old ↦
                let less : v < t = omega (arith, old) in
                subst (IsFirstFrom n V v q) (sym (a_stays v q less)) (links.leads v q less node)
            | inl new ↦
                let none : (z : ℕ) → z < n → V z ≡ v → ⊥ =
                λ z in_range is. omega (arith, is, new, within z in_range (λ e. omega (arith, is, new, e))) in
                let zero : q ≡ 0 = elim (cases_eq q 0) [ inl e ↦ e | inr more ↦ let at = node (q - 1) (omega (arith, more)) in absurd (none (q - 1) at.0 at.1) ] in
                let stops : a' v q ≡ nothing = subst (λ (k : ℕ). a' k q ≡ nothing) (sym new) (subst (λ (k : ℕ). a' t k ≡ nothing) (sym zero) a_none) in
                subst (IsFirstFrom n V v q) (sym stops) (record {
                  least = λ z from in_range is. absurd (none z in_range is);
                  there = λ some. absurd (some refl);
                })
          ];
      back = λ v s known stop.
          elim (cases_eq v t) [
            | inr old ↦
                let less : v < t = omega (arith, old) in
                let at = links.back v s less stop in
                subst (λ (q : ℕ). IsNode n V v q × (a' v q ≡ s)) (sym (b_stays v s less)) (at.0, a_stays v (b v s) less ∙ at.1)
            | inl new ↦
                let ends : s ≡ nothing = elim (cases_eq s nothing) [
                  | inl e ↦ e
                  | inr some ↦ let at = stop some in
                      absurd (omega (arith, at.1, new, within s at.0 (λ e. omega (arith, at.1, new, e))))
                ] in
                let zero : b' v s ≡ 0 = subst (λ (k : ℕ). b' k s ≡ 0) (sym new) (subst (λ (k : ℕ). b' t k ≡ 0) (sym ends) b_none) in
                subst (λ (q : ℕ). IsNode n V v q × (a' v q ≡ s)) (sym zero)
                ((λ place is. absurd (omega (arith, is))), subst (λ (k : ℕ). a' k 0 ≡ s) (sym new) (a_none ∙ sym ends))
          ];
    }
