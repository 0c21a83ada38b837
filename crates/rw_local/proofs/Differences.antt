-- Lists of differences.
use Rattle.std.proofs.Common.{◌≡◌, ◌≢◌, ℕ, Bool, true, false, not, filter, All, List, [], ◌∷◌, Contains, refl, subst, inl, inr}
use Rattle.std.proofs.lemmas.Bool.{cases_Bool, both_ways}
use Rattle.std.proofs.lemmas.List.Elements.{All-nil, All-cons, All-weaker, All-contains_itself}
use Rattle.rw_spec.specs.Ascending.{ascends}
use Rattle.rw_spec.proofs.Ascending.{ascends_filter}
use Rattle.rw_spec.proofs.Sequences.{contains_here, contains_later, contained_in_filter}
use Rattle.rw_columns.specs.Changes.{AreDifferences, differences, entry_names}

module _ {A : Type 0} (same : A → A → Bool) (itself : (a : A) → same a a ≡ true) (old new : ℕ → A) where
  -- the names of differences are those at which the entries differ
  names_differ : (names : List ℕ) → entry_names (differences same old new names) ≡ filter (λ x. not (same (old x) (new x))) names
  names_differ [] = refl
  names_differ (x ∷ names) =
      let rest : entry_names (differences same old new names) ≡ filter (λ x. not (same (old x) (new x))) names = names_differ names in
      elim (cases_Bool (same (old x) (new x))) [
        | inl one ↦ rw one rest
        | inr differs ↦ rw (differs, rest) refl
      ]

  -- each entry differs from the old one
  entries_differ : (names : List ℕ) → All (λ entry. old entry.0 ≢ entry.1) (differences same old new names)
  entries_differ [] = All-nil (λ (entry : ℕ × A). old entry.0 ≢ entry.1)
  entries_differ (x ∷ names) =
      elim (cases_Bool (same (old x) (new x))) [
        | inl one ↦ rw one (entries_differ names)
        | inr differs ↦
            rw differs
            (All-cons (λ (entry : ℕ × A). old entry.0 ≢ entry.1) (x, new x) (differences same old new names)
            (λ equal. both_ways (same (old x) (new x)) differs (subst (λ (a : A). same (old x) a ≡ true) equal (itself (old x)))) (entries_differ names))
      ]

  -- over ascending names they are differences
  pub are_differences : (names : List ℕ) → ascends names ≡ true → AreDifferences names old (differences same old new names)
  are_differences names up =
      let differs : ℕ → Bool = λ x. not (same (old x) (new x)) in
      record {
        ascend = rw (names_differ names) (ascends_filter differs names up);
        among = rw (names_differ names)
            (All-weaker (Contains (filter differs names)) (Contains names) (λ x there. (contained_in_filter differs names x there).0)
            (filter differs names) (All-contains_itself (filter differs names)));
        differ = entries_differ names;
      }

  -- they may be sought among some names alone, where the others do not differ
  pub differences_kept : (p : ℕ → Bool) (names : List ℕ) → ((x : ℕ) → Contains names x → p x ≡ false → same (old x) (new x) ≡ true)
      → differences same old new names ≡ differences same old new (filter p names)
  differences_kept p [] others = refl
  differences_kept p (x ∷ names) others =
      let rest : differences same old new names ≡ differences same old new (filter p names) = differences_kept p names (λ y there. others y (contains_later x names y there)) in
      elim (cases_Bool (p x)) [
        | inl kept ↦ elim (cases_Bool (same (old x) (new x))) [
          | inl one ↦ rw (kept, one) rest
          | inr differs ↦ rw (kept, differs, rest) refl
        ]
        | inr left ↦ rw (left, others x (contains_here x names) left) rest
      ]
