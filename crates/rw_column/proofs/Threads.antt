-- Threads as a column keeps them, in lists: V the values, N and P the next and the previous ones, F and L the first and
-- the last ones. What changes at one place is proved of links in general (Links), and brought to the lists here.
use Rattle.std.proofs.Common.{◌≡◌, ℕ, ◌+◌, ◌-◌, ◌<◌, ◌≤◌, List, [], ◌∷◌, ◌++◌, length, length-append, get_or, set, refl, sym, ap, ◌∙◌, inl, inr, subst, arith, eq-eqb, ne_eqb, length-set, get_or-set_other, get_or-set_same}
use Rattle.std.specs.Prelude.{◌≢◌}
use Rattle.std.proofs.lemmas.Bool.{cases_eq}
use Rattle.std.proofs.lemmas.List.{get_or_append_left, get_or-append_right}
use Rattle.rw_column.specs.Threads.{nothing}
use Rattle.rw_column.specs.inner.Links.{IsNode, IsStop, IsFirstFrom, AreLinks, IsLed, IsBacked, IsAhead, IsGap}
use Rattle.rw_column.specs.inner.Threads.{IsThreaded, after, before}
use Rattle.rw_column.proofs.Links.{node_of, unlinked, linked, grown, widened}

-- what follows a place
after_place : (N F : List ℕ) (v x : ℕ) → after N F v (x + 1) ≡ get_or N x 0
after_place N F v x = let e : x + 1 - 1 ≡ x = omega arith in rw (ne_eqb (x + 1) 0 (omega arith), e) refl

-- the node before a place
before_place : (P L : List ℕ) (v x : ℕ) → x < nothing → before P L v x ≡ get_or P x 0
before_place P L v x within = rw (ne_eqb x nothing (omega arith)) refl

-- an entry that is set at a place changes nothing at another node
after_other : (N F : List ℕ) (v q x y : ℕ) → q ≢ x + 1 → after (set N x y) F v q ≡ after N F v q
after_other N F v q x y apart =
    elim (cases_eq q 0) [
      | inl head ↦ rw (eq-eqb q 0 head) refl
      | inr place ↦ rw (ne_eqb q 0 place) (get_or-set_other N x (q - 1) y 0 (λ e. apart (omega (arith, e, place))))
    ]

-- and nothing at another stop
before_other : (P L : List ℕ) (v s x y : ℕ) → s ≢ x → before (set P x y) L v s ≡ before P L v s
before_other P L v s x y apart =
    elim (cases_eq s nothing) [
      | inl end ↦ rw (eq-eqb s nothing end) refl
      | inr place ↦ rw (ne_eqb s nothing place) (get_or-set_other P x s y 0 apart)
    ]

-- there is one first place from a node on
same_first : (n : ℕ) (V : ℕ → ℕ) (v from s s' : ℕ) → n ≤ nothing → IsFirstFrom n V v from s → IsFirstFrom n V v from s' → s ≡ s'
same_first n V v from s s' few first second =
    elim (cases_eq s nothing) [
      | inl none ↦ elim (cases_eq s' nothing) [
        | inl none' ↦ none ∙ sym none'
        | inr some' ↦ let at = second.there some' in let far : s ≤ s' = first.least s' at.0 at.1 at.2 in omega (arith, none, at.1, far)
      ]
      | inr some ↦
          let at = first.there some in
          let far : s' ≤ s = second.least s at.0 at.1 at.2 in
          elim (cases_eq s' nothing) [
            | inl none' ↦ omega (arith, none', at.1, far)
            | inr some' ↦ let at' = second.there some' in let near : s ≤ s' = first.least s' at'.0 at'.1 at'.2 in omega (arith, far, near)
          ]
    ]

-- ---- what a walk reads

module _ (V N P F L : List ℕ) (threaded : IsThreaded V N P F L) (v : ℕ) (known : v < length F) where
  -- the first place of a number
  pub first_of : IsFirstFrom (length V) (λ z. get_or V z 0) v 0 (get_or F v 0)
  first_of = threaded.links.leads v 0 known (λ place e. absurd (omega (arith, e)))

  -- the next place of a number
  pub next_of : (x : ℕ) → x < length V → get_or V x 0 ≡ v → IsFirstFrom (length V) (λ z. get_or V z 0) v (x + 1) (get_or N x 0)
  next_of x within is =
      subst (IsFirstFrom (length V) (λ z. get_or V z 0) v (x + 1)) (after_place N F v x)
      (threaded.links.leads v (x + 1) known (node_of (length V) (λ z. get_or V z 0) v x within is))

-- ---- lists in which one value is set

-- the values stay numbers of the column
within_set : (V : List ℕ) (t x w : ℕ) → x < length V → (w ≢ nothing → w < t)
    → ((z : ℕ) → z < length V → get_or V z 0 ≢ nothing → get_or V z 0 < t)
    → (z : ℕ) → z < length V → get_or (set V x w) z 0 ≢ nothing → get_or (set V x w) z 0 < t
within_set V t x w x_within w_within within z in_range some =
    elim (cases_eq z x) [
      | inl here ↦
          let put : get_or (set V x w) z 0 ≡ w = ap (λ k. get_or (set V x w) k 0) here ∙ get_or-set_same V x w 0 x_within in
          rw put (w_within (λ e. some (put ∙ e)))
      | inr other ↦
          let stays : get_or (set V x w) z 0 ≡ get_or V z 0 = get_or-set_other V x z w 0 other in
          rw stays (within z in_range (λ e. some (stays ∙ e)))
    ]

-- the lists fit one another as before, and so thread the values where their links do
thread_set : (V N P F L N' P' F' L' : List ℕ) (x w : ℕ) → IsThreaded V N P F L → x < length V → (w ≢ nothing → w < length F)
    → length N' ≡ length N → length P' ≡ length P → length F' ≡ length F → length L' ≡ length L
    → AreLinks (length V) (length F) (λ z. get_or (set V x w) z 0) (after N' F') (before P' L') → IsThreaded (set V x w) N' P' F' L'
thread_set V N P F L N' P' F' L' x w threaded x_within w_within n_long p_long f_long l_long links =
    let long : length (set V x w) ≡ length V = length-set V x w in
    record {
      few = rw long threaded.few;
      few_targets = rw f_long threaded.few_targets;
      nexts = n_long ∙ threaded.nexts ∙ sym long;
      previouses = p_long ∙ threaded.previouses ∙ sym long;
      lasts = l_long ∙ threaded.lasts ∙ sym f_long;
      within = rw f_long (λ z in_range. within_set V (length F) x w x_within w_within threaded.within z (omega (arith, in_range, long)));
      links = subst (λ (t : ℕ). AreLinks (length (set V x w)) t (λ z. get_or (set V x w) z 0) (after N' F') (before P' L')) (sym f_long)
          (subst (λ (n : ℕ). AreLinks n (length F) (λ z. get_or (set V x w) z 0) (after N' F') (before P' L')) (sym long) links);
    }

-- ---- taking a place out of its thread

module _ (V N P F L : List ℕ) (threaded : IsThreaded V N P F L) (x : ℕ) (within : x < length V) (some : get_or V x 0 ≢ nothing) where
  -- the number at the place is one of the column's
  known : get_or V x 0 < length F
  known = threaded.within x within some

  -- the node before the place is one of its number
  at_node : IsNode (length V) (λ z. get_or V z 0) (get_or V x 0) (get_or P x 0)
  at_node =
      let few = threaded.few in
      subst (IsNode (length V) (λ z. get_or V z 0) (get_or V x 0)) (before_place P L (get_or V x 0) x (omega arith))
      (threaded.links.back (get_or V x 0) x known (λ there. (within, refl))).0

  -- the node before the place is in range
  pub node_within : get_or P x 0 < length N + 1
  node_within =
      elim (cases_eq (get_or P x 0) 0) [
        | inl none ↦ omega (arith, none)
        | inr place ↦ let at = at_node (get_or P x 0 - 1) (omega arith) in omega (arith, at.0, threaded.nexts)
      ]

  -- the place behind the place is in range
  pub stop_within : get_or N x 0 ≢ nothing → get_or N x 0 < length P
  stop_within more =
      let first = next_of V N P F L threaded (get_or V x 0) known x within refl in
      omega (arith, (first.there more).1, threaded.previouses)

  -- the lists once the place is taken out of its thread
  pub thread_unlinked : (N' P' F' L' : List ℕ) (v p y : ℕ) → v ≡ get_or V x 0 → p ≡ get_or P x 0 → y ≡ get_or N x 0
      → length N' ≡ length N → length F' ≡ length F → IsLed (after N F) (after N' F') v p y
      → length P' ≡ length P → length L' ≡ length L → IsBacked (before P L) (before P' L') v y p → IsThreaded (set V x nothing) N' P' F' L'
  thread_unlinked N' P' F' L' v p y v_is p_is y_is n_long f_long led p_long l_long backed =
      let few = threaded.few in
      let x_back : before P L v x ≡ p = before_place P L v x (omega arith) ∙ sym p_is in
      let x_leads : after N F v (x + 1) ≡ y = after_place N F v x ∙ sym y_is in
      thread_set V N P F L N' P' F' L' x nothing threaded within (λ none. absurd (none refl)) n_long p_long f_long l_long
      (unlinked (length V) (length F) (λ z. get_or V z 0) (λ z. get_or (set V x nothing) z 0) x threaded.few threaded.few_targets within
      (get_or-set_same V x nothing 0 within) (λ z apart. get_or-set_other V x z nothing 0 apart)
      (after N F) (before P L) (after N' F') (before P' L') v p y threaded.links (subst (λ (k : ℕ). k < length F) (sym v_is) known) (sym v_is) x_back x_leads led backed)

-- ---- putting a place without a number into the thread of one

module _ (V N P F L : List ℕ) (threaded : IsThreaded V N P F L) (x v : ℕ) (known : v < length F) where
  -- a place before a stop of the number is ahead of it, and of the node that leads there
  ahead_of : (node stop : ℕ) → IsStop (length V) (λ z. get_or V z 0) v stop → x < stop → before P L v stop ≡ node → IsAhead (length V) (λ z. get_or V z 0) v x node stop
  ahead_of node stop is_stop less last =
      let at = threaded.links.back v stop known is_stop in
      let is_node : IsNode (length V) (λ z. get_or V z 0) v node = subst (IsNode (length V) (λ z. get_or V z 0) v) last at.0 in
      let leads : after N F v node ≡ stop = subst (λ (q : ℕ). after N F v q ≡ stop) last at.1 in
      record {
        is_node = is_node;
        leads = subst (IsFirstFrom (length V) (λ z. get_or V z 0) v node) leads (threaded.links.leads v node known is_node);
        ahead = less;
      }

  -- the last node leads to the end
  pub ahead_end : (node stop : ℕ) → IsStop (length V) (λ z. get_or V z 0) v stop → x < length V → stop ≡ nothing → node ≡ get_or L v 0
      → IsAhead (length V) (λ z. get_or V z 0) v x node stop
  ahead_end node stop is_stop within end is = ahead_of node stop is_stop (omega (arith, within, end, threaded.few)) (rw (eq-eqb stop nothing end) (sym is))

  -- and the node before a place leads to the place
  pub ahead_place : (node stop : ℕ) → IsStop (length V) (λ z. get_or V z 0) v stop → x < stop → stop ≢ nothing → node ≡ get_or P stop 0
      → IsAhead (length V) (λ z. get_or V z 0) v x node stop
  ahead_place node stop is_stop less some is =
      let few = threaded.few in
      let at = is_stop some in
      ahead_of node stop is_stop less (before_place P L v stop (omega (arith, at.0)) ∙ sym is)

module _ (V N P F L : List ℕ) (threaded : IsThreaded V N P F L) (x v : ℕ) (within : x < length V) (known : v < length F) (free : get_or V x 0 ≡ nothing) where
  -- the node that stands behind the place is in range
  pub ahead_within : (node stop : ℕ) → IsAhead (length V) (λ z. get_or V z 0) v x node stop → x < node → node - 1 < length P
  ahead_within node stop ahead more = omega (arith, threaded.previouses, (ahead.is_node (node - 1) (omega arith)).0)

  -- a place ahead of a node's stop and before the node is ahead of the stop that the node is
  pub ahead_next : (node stop node' : ℕ) → IsAhead (length V) (λ z. get_or V z 0) v x node stop → x < node → node' ≡ get_or P (node - 1) 0
      → IsAhead (length V) (λ z. get_or V z 0) v x node' (node - 1)
  ahead_next node stop node' ahead more is =
      let few = threaded.few in
      let w : ℕ = node - 1 in
      let here : (w < length V) × (get_or V w 0 ≡ v) = ahead.is_node w (omega arith) in
      let apart : x ≢ w = λ e. omega (arith, threaded.few_targets, sym here.1 ∙ subst (λ (z : ℕ). get_or V z 0 ≡ nothing) e free) in
      ahead_place V N P F L threaded x v known node' w (λ some. here) (omega (arith, apart)) (λ e. omega (arith, here.0, e)) is

  -- the node before a place is less than the place's own
  pub ahead_less : (node stop node' : ℕ) → IsAhead (length V) (λ z. get_or V z 0) v x node stop → x < node → node' ≡ get_or P (node - 1) 0 → node' < node
  ahead_less node stop node' ahead more is =
      let few = threaded.few in
      let here : node - 1 < length V = (ahead.is_node (node - 1) (omega arith)).0 in
      let behind : node' ≤ node - 1 = ((ahead_next node stop node' ahead more is).leads.there (λ e. omega (arith, here, e))).0 in
      omega (arith, behind)

  -- the lists once the place is put into the thread
  pub thread_linked : (node stop : ℕ) → IsGap (length V) (λ z. get_or V z 0) v x node stop → (N' P' F' L' : List ℕ)
      → length N' ≡ length (set N x stop) → length F' ≡ length F → IsLed (after (set N x stop) F) (after N' F') v node x
      → length P' ≡ length (set P x node) → length L' ≡ length L → IsBacked (before (set P x node) L) (before P' L') v stop (x + 1)
      → IsThreaded (set V x v) N' P' F' L'
  thread_linked node stop gap N' P' F' L' n_long f_long led p_long l_long backed =
      let few = threaded.few in
      let ahead = gap.is_ahead in
      let node_leads : after N F v node ≡ stop = same_first (length V) (λ z. get_or V z 0) v node (after N F v node) stop threaded.few (threaded.links.leads v node known ahead.is_node) ahead.leads in
      let x_next : x < length N = omega (arith, threaded.nexts) in
      let x_previous : x < length P = omega (arith, threaded.previouses) in
      thread_set V N P F L N' P' F' L' x v threaded within (λ some. known) (n_long ∙ length-set N x stop) (p_long ∙ length-set P x node) f_long l_long
      (linked (length V) (length F) (λ z. get_or V z 0) (λ z. get_or (set V x v) z 0) x v node stop threaded.few threaded.few_targets within known free
      (get_or-set_same V x v 0 within) (λ z apart. get_or-set_other V x z v 0 apart) ahead.is_node ahead.leads gap.behind ahead.ahead
      (after N F) (before P L) (after (set N x stop) F) (before (set P x node) L) (after N' F') (before P' L') threaded.links
      (λ u. after_place (set N x stop) F u x ∙ get_or-set_same N x stop 0 x_next)
      (λ u q apart. after_other N F u q x stop apart)
      (λ u. before_place (set P x node) L u x (omega arith) ∙ get_or-set_same P x node 0 x_previous)
      (λ u s apart. before_other P L u s x node apart)
      node_leads led backed)

-- ---- a place more, and a number more

-- what is appended stands last
put_last : (xs : List ℕ) (y : ℕ) → get_or (xs ++ y ∷ []) (length xs) 0 ≡ y
put_last xs y = get_or-append_right xs (y ∷ []) (length xs) (length xs) 0 refl (omega arith) ∙ (let e : length xs - length xs ≡ 0 = omega arith in rw e refl)

-- what stood there stays
stays_before : (xs : List ℕ) (y k : ℕ) → k < length xs → get_or (xs ++ y ∷ []) k 0 ≡ get_or xs k 0
stays_before xs y k within = get_or_append_left xs (y ∷ []) 0 k within

-- and the list is longer by one
longer : (xs : List ℕ) (y : ℕ) → length (xs ++ y ∷ []) ≡ length xs + 1
longer xs y = length-append xs (y ∷ [])

-- the lists with a place more, which has no number
pub thread_grown : (V N P F L : List ℕ) → IsThreaded V N P F L → length V < nothing
    → IsThreaded (V ++ nothing ∷ []) (N ++ nothing ∷ []) (P ++ 0 ∷ []) F L
thread_grown V N P F L threaded few =
    let nexts = threaded.nexts in
    let previouses = threaded.previouses in
    record {
      few = omega (arith, longer V nothing);
      few_targets = threaded.few_targets;
      nexts = omega (arith, longer V nothing, longer N nothing);
      previouses = omega (arith, longer V nothing, longer P 0);
      lasts = threaded.lasts;
      within = λ place in_range some.
          elim (cases_eq place (length V)) [
            | inl last ↦ absurd (some (ap (λ z. get_or (V ++ nothing ∷ []) z 0) last ∙ put_last V nothing))
            | inr before ↦
                let less : place < length V = omega (arith, in_range, longer V nothing, before) in
                rw (stays_before V nothing place less) (threaded.within place less (λ e. some (stays_before V nothing place less ∙ e)))
          ];
      links = subst (λ (n : ℕ). AreLinks n (length F) (λ z. get_or (V ++ nothing ∷ []) z 0) (after (N ++ nothing ∷ []) F) (before (P ++ 0 ∷ []) L)) (sym (longer V nothing))
          (grown (length V) (length F) (λ z. get_or V z 0) (λ z. get_or (V ++ nothing ∷ []) z 0) (after N F) (before P L) (after (N ++ nothing ∷ []) F) (before (P ++ 0 ∷ []) L)
          threaded.few_targets threaded.links (put_last V nothing) (λ z less. stays_before V nothing z less)
          (λ v q node. elim (cases_eq q 0) [
            | inl head ↦ rw (eq-eqb q 0 head) refl
            | inr place ↦ let at = node (q - 1) (omega (arith, place)) in rw (ne_eqb q 0 place) (stays_before N nothing (q - 1) (omega (arith, at.0, nexts)))
          ])
          (λ v s stop. elim (cases_eq s nothing) [
            | inl end ↦ rw (eq-eqb s nothing end) refl
            | inr place ↦ let at = stop place in rw (ne_eqb s nothing place) (stays_before P 0 s (omega (arith, at.0, previouses)))
          ]));
    }

-- the lists with a number more, which stands at no place
pub thread_widened : (V N P F L : List ℕ) → IsThreaded V N P F L → length F < nothing → IsThreaded V N P (F ++ nothing ∷ []) (L ++ 0 ∷ [])
thread_widened V N P F L threaded few =
    let lasts = threaded.lasts in
    record {
      few = threaded.few;
      few_targets = omega (arith, longer F nothing);
      nexts = threaded.nexts;
      previouses = threaded.previouses;
      lasts = omega (arith, longer F nothing, longer L 0);
      within = λ place in_range some. omega (arith, longer F nothing, threaded.within place in_range some);
      links = subst (λ (t : ℕ). AreLinks (length V) t (λ z. get_or V z 0) (after N (F ++ nothing ∷ [])) (before P (L ++ 0 ∷ []))) (sym (longer F nothing))
          (widened (length V) (length F) (λ z. get_or V z 0) (after N F) (before P L) (after N (F ++ nothing ∷ [])) (before P (L ++ 0 ∷ []))
          threaded.few threaded.links threaded.within few
          (λ v q known. elim (cases_eq q 0) [
            | inl head ↦ rw (eq-eqb q 0 head) (stays_before F nothing v known)
            | inr place ↦ rw (ne_eqb q 0 place) refl
          ])
          (λ v s known. elim (cases_eq s nothing) [
            | inl end ↦ rw (eq-eqb s nothing end) (stays_before L 0 v (omega (arith, known, lasts)))
            | inr place ↦ rw (ne_eqb s nothing place) refl
          ])
          (put_last F nothing) (subst (λ (k : ℕ). get_or (L ++ 0 ∷ []) k 0 ≡ 0) lasts (put_last L 0)));
    }
