-- Groups grow by one tuple at a time.
use Rattle.std.proofs.Common.{◌≡◌, ◌≢◌, ◌∙◌, ℕ, ◌+◌, ◌<◌, Bool, true, false, List, [], ◌∷◌, ◌++◌, Contains, filter, take, length, map, get_or, slice_set, Option, Some, None, MatchOption, refl, sym, ap, inl, inr, subst, arith, get_or-set_other, get_or-set_same, Less, Equal}
use Rattle.std.specs.Cmp.Lexicographic.{slice_cmp}
use Rattle.std.specs.List.Sorted.{IsStrictlySortedBy}
use Rattle.std.specs.Ordering.{nat_cmp}
use Rattle.std.specs.Str.{bytes_eq}
use Rattle.std.proofs.lemmas.Bool.{cases_eq, cases_order, false_from_ne_true}
use Rattle.std.proofs.lemmas.Cmp.{nat_list_cmp_total, tied_itself}
use Rattle.std.proofs.lemmas.List.{append-nil, length-set, length-map, get_or-map, ext_get_or}
use Rattle.std.proofs.lemmas.List.Elements.{filter_more, Contains-get_or}
use Rattle.std.proofs.lemmas.Map.Keys.{Less-from_sorted}
use Rattle.std.proofs.lemmas.Slice.Eq.{bytes_eq-Decides}
use Rattle.rw_kept.specs.inner.Groups.{AreGroups, group_at, put_at, tuple_at}

-- a tuple that passes stands behind those before it
more_here : (p : List ℕ → Bool) (tuples : List (List ℕ)) (k : ℕ) → k < length tuples → p (get_or tuples k []) ≡ true
    → filter p (take (k + 1) tuples) ≡ filter p (take k tuples) ++ get_or tuples k [] ∷ []
more_here p tuples k within passes = filter_more p tuples k [] within ∙ rw passes refl

-- and one that does not is left out
more_other : (p : List ℕ → Bool) (tuples : List (List ℕ)) (k : ℕ) → k < length tuples → p (get_or tuples k []) ≡ false
    → filter p (take (k + 1) tuples) ≡ filter p (take k tuples)
more_other p tuples k within fails = filter_more p tuples k [] within ∙ rw fails (append-nil (filter p (take k tuples)))

-- tuples at different places of ascending ones differ
apart : (xs : List (List ℕ)) (i j : ℕ) → IsStrictlySortedBy (slice_cmp nat_cmp) xs → i < length xs → j < length xs → i ≢ j → get_or xs i [] ≢ get_or xs j []
apart xs i j up within_i within_j other same =
    elim (cases_order i j) [
      | inl equal ↦ other equal
      | inr either ↦ elim either [
        | inl below ↦ not_less (get_or xs i []) (get_or xs j []) same (Less-from_sorted (slice_cmp nat_cmp) xs i j [] up below within_j)
        | inr above ↦ not_less (get_or xs j []) (get_or xs i []) (sym same) (Less-from_sorted (slice_cmp nat_cmp) xs j i [] up above within_i)
      ]
    ]
  where
    not_less : (x y : List ℕ) → x ≡ y → slice_cmp nat_cmp x y ≡ Less → ⊥
    not_less x y same less =
        let tied : slice_cmp nat_cmp x y ≡ Equal = subst (λ (z : List ℕ). slice_cmp nat_cmp x z ≡ Equal) same (tied_itself nat_list_cmp_total x) in
        cc

module _ (names : List ℕ → List ℕ) (tuples matches : List (List ℕ)) (k : ℕ) (within : k < length tuples) where
  -- the groups with one tuple more, put into the group of what it extends
  pub groups_more : (groups : List (List (List ℕ))) (place : ℕ) → IsStrictlySortedBy (slice_cmp nat_cmp) matches → place < length matches
      → tuple_at matches place ≡ names (get_or tuples k []) → AreGroups (λ m q. bytes_eq (names q) m) (take k tuples) matches groups
      → AreGroups (λ m q. bytes_eq (names q) m) (take (k + 1) tuples) matches (slice_set groups place (group_at groups place ++ get_or tuples k [] ∷ []))
  groups_more groups place up there extended are = record {
    count = length-set groups place (group_at groups place ++ get_or tuples k [] ∷ []) ∙ are.count;
    each = λ j below. elim (cases_eq j place) [
      | inl same ↦
          let passes : bytes_eq (names (get_or tuples k [])) (get_or matches place []) ≡ true =
          (bytes_eq-Decides (names (get_or tuples k [])) (get_or matches place [])).1 (sym extended) in
          rw same
          (get_or-set_same groups place (group_at groups place ++ get_or tuples k [] ∷ []) [] (omega (arith, are.count, there))
          ∙ ap (λ group. group ++ get_or tuples k [] ∷ []) (are.each place there)
          ∙ sym (more_here (λ q. bytes_eq (names q) (get_or matches place [])) tuples k within passes))
      | inr other ↦
          let fails : bytes_eq (names (get_or tuples k [])) (get_or matches j []) ≡ false =
          false_from_ne_true (bytes_eq (names (get_or tuples k [])) (get_or matches j [])) (λ equal.
          apart matches place j up there below (λ same. other (sym same))
          (extended ∙ (bytes_eq-Decides (names (get_or tuples k [])) (get_or matches j [])).0 equal)) in
          get_or-set_other groups place j (group_at groups place ++ get_or tuples k [] ∷ []) [] other
          ∙ are.each j below
          ∙ sym (more_other (λ q. bytes_eq (names q) (get_or matches j [])) tuples k within fails)
    ];
  }

  -- the groups with one tuple more, which extends none of the matches
  pub groups_skip : (groups : List (List (List ℕ))) → (Contains matches (names (get_or tuples k [])) → ⊥)
      → AreGroups (λ m q. bytes_eq (names q) m) (take k tuples) matches groups → AreGroups (λ m q. bytes_eq (names q) m) (take (k + 1) tuples) matches groups
  groups_skip groups missing are = record {
    count = are.count;
    each = λ j below.
        let fails : bytes_eq (names (get_or tuples k [])) (get_or matches j []) ≡ false =
        false_from_ne_true (bytes_eq (names (get_or tuples k [])) (get_or matches j [])) (λ equal.
        missing (subst (Contains matches) (sym ((bytes_eq-Decides (names (get_or tuples k [])) (get_or matches j [])).0 equal)) (Contains-get_or matches j [] below))) in
        are.each j below ∙ sym (more_other (λ q. bytes_eq (names q) (get_or matches j [])) tuples k within fails);
  }

  -- the groups with one tuple more, which extends one of the matches or none
  pub groups_put : (groups : List (List (List ℕ))) (place : Option ℕ) → IsStrictlySortedBy (slice_cmp nat_cmp) matches
      → MatchOption place (Contains matches (names (get_or tuples k [])) → ⊥) (λ place. (place < length matches) × (tuple_at matches place ≡ names (get_or tuples k [])))
      → AreGroups (λ m q. bytes_eq (names q) m) (take k tuples) matches groups
      → AreGroups (λ m q. bytes_eq (names q) m) (take (k + 1) tuples) matches (put_at groups place (get_or tuples k []))
  groups_put groups None up missing are = groups_skip groups missing are
  groups_put groups (Some place) up found are = groups_more groups place up found.0 found.1 are

-- groups are the lists of those that extend each match
pub groups_are : (extends : List ℕ → List ℕ → Bool) (tuples matches : List (List ℕ)) (groups : List (List (List ℕ))) → AreGroups extends tuples matches groups
    → groups ≡ map (λ m. filter (extends m) tuples) matches
groups_are extends tuples matches groups are =
    ext_get_or [] groups (map (λ m. filter (extends m) tuples) matches) (are.count ∙ sym (length-map matches (λ m. filter (extends m) tuples)))
    (λ j below.
    let within : j < length matches = omega (arith, are.count, below) in
    are.each j within ∙ sym (get_or-map (λ m. filter (extends m) tuples) matches j [] [] within))
