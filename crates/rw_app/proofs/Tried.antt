-- The tuples of a list are tried in order, and the first that fits is taken: that is done in one way.
use Rattle.std.proofs.Common.{◌≡◌, ◌⊎◌, ℕ, Contains, List, [], ◌∷◌, ◌++◌, Option, Some, None, inl, inr, refl, sym, ap, ◌∙◌, subst, arith}
use Rattle.std.specs.List.{All}
use Rattle.std.proofs.lemmas.List.Elements.{All-nil, All-cons, All-head, All-tail}
use Rattle.rw_spec.proofs.Sequences.{contains_here, contains_later}
use Rattle.rw_rule.specs.declared.refusal.Refusal.{Refusal}
use Rattle.rw_app.specs.Runs.{tuples_of, TakesFirst}

-- what is refused, and what is taken
abbrev pub Tried : Type 0
Tried = List (List ℕ × Refusal) × Option (List ℕ)

-- a tuple that is refused comes before those that are tried later
abbrev after_refused : List ℕ × Refusal → Tried → Tried
after_refused entry others = (entry ∷ others.0, others.1)

-- lists with these first items and the same rest begin with the same item
heads_same : {X : Type 0} (x y : X) (xs ys : List X) → x ∷ xs ≡ y ∷ ys → x ≡ y
heads_same x y xs ys same = cc

-- and go on with the same items
tails_same : {X : Type 0} (x y : X) (xs ys : List X) → x ∷ xs ≡ y ∷ ys → xs ≡ ys
tails_same x y xs ys same = cc

-- no item comes before an empty list
none_is : {X : Type 0} (x : X) (xs : List X) → [] ≡ x ∷ xs → ⊥
none_is x xs same = cc

module _ (Fits : List ℕ → Type 0) (Fails : List ℕ → Refusal → Type 0) where
  -- the entry fails for its reason
  abbrev FailsSo : List ℕ × Refusal → Type 0
  FailsSo entry = Fails entry.0 entry.1

  -- a refused tuple is put before what is tried later
  pub taken_later : (entry : List ℕ × Refusal) (found : List (List ℕ)) (refused : List (List ℕ × Refusal)) (applied : Option (List ℕ)) → FailsSo entry
      → TakesFirst Fits Fails found refused applied → TakesFirst Fits Fails (entry.0 ∷ found) (entry ∷ refused) applied
  taken_later entry found refused None fails takes = (ap (λ more. entry.0 ∷ more) takes.0, All-cons FailsSo entry refused fails takes.1)
  taken_later entry found refused (Some tuple) fails takes =
      ((takes.0.0, ap (λ more. entry.0 ∷ more) takes.0.1), All-cons FailsSo entry refused fails takes.1, takes.2)

  -- what is tried behind a refused tuple
  tried_behind : (entry : List ℕ × Refusal) (tuple : List ℕ) (found : List (List ℕ)) (refused : List (List ℕ × Refusal)) (applied : Option (List ℕ))
      → TakesFirst Fits Fails (tuple ∷ found) (entry ∷ refused) applied → (tuple ≡ entry.0) × FailsSo entry × TakesFirst Fits Fails found refused applied
  tried_behind entry tuple found refused None takes = (
    heads_same tuple entry.0 found (tuples_of refused) takes.0,
    All-head FailsSo entry refused takes.1,
    (tails_same tuple entry.0 found (tuples_of refused) takes.0, All-tail FailsSo entry refused takes.1),
  )
  tried_behind entry tuple found refused (Some last) takes =
      let rest : List (List ℕ) = tuples_of refused ++ last ∷ takes.0.0 in (
        heads_same tuple entry.0 found rest takes.0.1,
        All-head FailsSo entry refused takes.1,
        ((takes.0.0, tails_same tuple entry.0 found rest takes.0.1), All-tail FailsSo entry refused takes.1, takes.2),
      )

  -- of a list without tuples none is taken
  none_taken : (tried : Tried) → TakesFirst Fits Fails [] tried.0 tried.1 → tried ≡ ([], None)
  none_taken ([], None) takes = refl
  none_taken (entry ∷ refused, None) takes = absurd (none_is entry.0 (tuples_of refused) takes.0)
  none_taken ([], Some tuple) takes = absurd (none_is tuple takes.0.0 takes.0.1)
  none_taken (entry ∷ refused, Some tuple) takes = absurd (none_is entry.0 (tuples_of refused ++ tuple ∷ takes.0.0) takes.0.1)

  -- the first tuple of a list is taken, or it is refused and others are tried
  first_tried : (tuple : List ℕ) (found : List (List ℕ)) (tried : Tried) → TakesFirst Fits Fails (tuple ∷ found) tried.0 tried.1
      → (Fits tuple × (tried ≡ ([], Some tuple)))
      ⊎ ((refusal : Refusal) × (later : Tried) × Fails tuple refusal × TakesFirst Fits Fails found later.0 later.1 × (tried ≡ after_refused (tuple, refusal) later))
  first_tried tuple found ([], None) takes = absurd (none_is tuple found (sym takes.0))
  first_tried tuple found ([], Some last) takes =
      let same : last ≡ tuple = sym (heads_same tuple last found takes.0.0 takes.0.1) in
      inl (subst Fits same takes.2, ap (λ (other : List ℕ). ([], Some other)) same)
  first_tried tuple found (entry ∷ refused, applied) takes =
      let behind = tried_behind entry tuple found refused applied takes in
      let same : entry.0 ≡ tuple = sym behind.0 in
      inr (entry.1, (refused, applied), subst (λ (other : List ℕ). Fails other entry.1) same behind.1, behind.2, ap (λ (other : List ℕ). ((other, entry.1) ∷ refused, applied)) same)

  -- where no tuple of a list both fits and fails, and each fails for one reason, the same are refused and the same is taken
  pub takes_same : (found : List (List ℕ))
      → ((tuple : List ℕ) (refusal : Refusal) → Contains found tuple → Fits tuple → Fails tuple refusal → ⊥)
      → ((tuple : List ℕ) (refusal other : Refusal) → Contains found tuple → Fails tuple refusal → Fails tuple other → refusal ≡ other)
      → (one other : Tried) → TakesFirst Fits Fails found one.0 one.1 → TakesFirst Fits Fails found other.0 other.1 → one ≡ other
  takes_same [] never only one other takes also = none_taken one takes ∙ sym (none_taken other also)
  takes_same (tuple ∷ found) never only one other takes also =
      let here : Contains (tuple ∷ found) tuple = contains_here tuple found in
      elim (first_tried tuple found one takes) [
        | inl (fits, is) ↦
            elim (first_tried tuple found other also) [
              | inl (fits_also, is_also) ↦ is ∙ sym is_also
              | inr (refusal, later, fails, takes_later, is_also) ↦ absurd (never tuple refusal here fits fails)
            ]
        | inr (refusal, later, fails, takes_later, is) ↦
            elim (first_tried tuple found other also) [
              | inl (fits, is_also) ↦ absurd (never tuple refusal here fits fails)
              | inr (refusal_also, later_also, fails_also, takes_also, is_also) ↦
                  let same : refusal ≡ refusal_also = only tuple refusal refusal_also here fails fails_also in
                  let rest : later ≡ later_also = takes_same found (λ item reason there. never item reason (contains_later tuple found item there))
                  (λ item reason reason_also there. only item reason reason_also (contains_later tuple found item there)) later later_also takes_later takes_also in
                  is ∙ ap (λ (reason : Refusal). after_refused (tuple, reason) later) same ∙ ap (after_refused (tuple, refusal_also)) rest ∙ sym is_also
            ]
      ]

  -- where each tuple of a list fits or fails, one is taken or all are refused
  pub takes_some : (found : List (List ℕ)) → ((tuple : List ℕ) → Contains found tuple → Fits tuple ⊎ ((refusal : Refusal) × Fails tuple refusal))
      → (tried : Tried) × TakesFirst Fits Fails found tried.0 tried.1
  takes_some [] each = (([], None), (refl, All-nil FailsSo))
  takes_some (tuple ∷ found) each =
      elim (each tuple (contains_here tuple found)) [
        | inl fits ↦ (([], Some tuple), ((found, refl), All-nil FailsSo, fits))
        | inr (refusal, fails) ↦
            let later = takes_some found (λ other there. each other (contains_later tuple found other there)) in
            (((tuple, refusal) ∷ later.0.0, later.0.1), taken_later (tuple, refusal) found later.0.0 later.0.1 fails later.1)
      ]
