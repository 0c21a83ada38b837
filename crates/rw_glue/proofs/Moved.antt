-- The names of a list that a function gives another name.
use Rattle.std.proofs.Common.{◌≡◌, ◌≢◌, ◌∙◌, ◌⊎◌, ◌==◌, ◌<◌, ℕ, Bool, not, cond, filter, List, [], ◌∷◌, Contains, Option, Some, None, option_and_then, refl, sym, ap, inl, inr, eqb-true}
use Rattle.std.proofs.lemmas.Bool.{both_ways, cases_Bool, cases_eq, eq-eqb, ne_eqb, not-true}
use Rattle.rw_schema.specs.declared.atom.Atom.{Atom}
use Rattle.rw_spec.proofs.Look.{contains_found, found_contained, look_missing}
use Rattle.rw_spec.proofs.Sequences.{contained_in_filter, contains_filter, contains_here, contains_later}
use Rattle.rw_columns.specs.Changes.{beside, differences, entry_names, entry_values}
use Rattle.rw_columns.proofs.Differences.{written}
use Rattle.rw_delta.specs.ContextLists.{is_in}
use Rattle.rw_local.specs.inner.ChangeTo.{other_values}
use Rattle.rw_glue.specs.inner.Changed.{unmoved}

-- they are those of the entries
names_moved : (d : ℕ → ℕ) (xs : List ℕ) → entry_names (other_values (λ y. y) d xs) ≡ filter (λ x. not (x == d x)) xs
names_moved d [] = refl
names_moved d (x ∷ xs) =
    let rest : entry_names (other_values (λ y. y) d xs) ≡ filter (λ x. not (x == d x)) xs = names_moved d xs in
    elim (cases_Bool (x == d x)) [
      | inl one ↦ rw one rest
      | inr differs ↦ rw (differs, rest) refl
    ]

module _ (d : ℕ → ℕ) (xs : List ℕ) (x : ℕ) where
  -- a name with an entry is one of the list and gets another name
  pub moves_from : Contains (entry_names (other_values (λ y. y) d xs)) x → Contains xs x × (d x ≢ x)
  moves_from there =
      let kept = contained_in_filter (λ x. not (x == d x)) xs x (rw (names_moved d xs) at there) in
      (kept.0, λ same. both_ways (x == d x) (not-true (x == d x) kept.1) (eq-eqb x (d x) (sym same)))

  -- a name of the list that gets another name has an entry
  pub moves_to : Contains xs x → d x ≢ x → Contains (entry_names (other_values (λ y. y) d xs)) x
  moves_to has away =
      rw (names_moved d xs) (contains_filter (λ x. not (x == d x)) xs x has (ap not (ne_eqb x (d x) (λ same. away (sym same)))))

  -- beside a name that is one of the list, or that keeps its name, its name is found
  pub moved_beside : Contains xs x ⊎ (d x ≡ x) → beside x (other_values (λ y. y) d xs) x ≡ d x
  moved_beside (inl there) = written (λ one other. one == other) (λ a b one. eqb-true a b one) (λ y. y) d xs x there
  moved_beside (inr stays) =
      look_missing x (entry_names (other_values (λ y. y) d xs)) (entry_values (other_values (λ y. y) d xs)) x (λ there. (moves_from there).1 stays)
      ∙ sym stays

  -- a name of the list that stays keeps its name
  pub unmoved_from : Contains (unmoved (other_values (λ y. y) d xs) xs) x → Contains xs x × (d x ≡ x)
  unmoved_from there =
      let names : List ℕ = entry_names (other_values (λ y. y) d xs) in
      let kept = contained_in_filter (λ x. not (is_in names x)) xs x there in (
        kept.0,
        elim (cases_eq (d x) x) [
          | inl same ↦ same
          | inr away ↦ absurd (both_ways (is_in names x) (not-true (is_in names x) kept.1) (found_contained names x (moves_to kept.0 away)))
        ],
      )

  -- a name of the list that keeps its name stays
  pub unmoved_to : Contains xs x → d x ≡ x → Contains (unmoved (other_values (λ y. y) d xs) xs) x
  unmoved_to has stays =
      let names : List ℕ = entry_names (other_values (λ y. y) d xs) in
      contains_filter (λ x. not (is_in names x)) xs x has
      (elim (cases_Bool (is_in names x)) [
        | inl found ↦ absurd ((moves_from (contains_found names x found)).1 stays)
        | inr none ↦ ap not none
      ])

-- differences are the same where the new entries are
pub other_same : {A : Type 0} (same : A → A → Bool) (old first second : ℕ → A) (xs : List ℕ) → ((x : ℕ) → Contains xs x → first x ≡ second x)
    → differences same old first xs ≡ differences same old second xs
other_same same old first second [] each = refl
other_same {A} same old first second (x ∷ xs) each =
    let rest : differences same old first xs ≡ differences same old second xs = other_same same old first second xs (λ y there. each y (contains_later x xs y there)) in
    ap (λ (a : A). cond (same (old x) a) (differences same old first xs) ((x, a) ∷ differences same old first xs)) (each x (contains_here x xs))
    ∙ ap (λ (more : List (ℕ × A)). cond (same (old x) (second x)) more ((x, second x) ∷ more)) rest

-- two functions that agree below a bound give the same of what is found below it
pub and_then_same : (first second : ℕ → Option Atom) (n : ℕ) (found : Option ℕ) → ((place : ℕ) → found ≡ Some place → place < n)
    → ((place : ℕ) → place < n → first place ≡ second place) → option_and_then first found ≡ option_and_then second found
and_then_same first second n None below same = refl
and_then_same first second n (Some place) below same = same place (below place refl)
