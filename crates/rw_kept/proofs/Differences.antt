-- What goes and comes of the matches is the difference of those with a changed name.
use Rattle.std.proofs.Common.{◌≡◌, ℕ, Bool, not, List, Contains, inl, inr}
use Rattle.std.specs.Cmp.Lexicographic.{slice_cmp}
use Rattle.std.specs.List.Sorted.{IsStrictlySortedBy}
use Rattle.std.specs.Ordering.{nat_cmp}
use Rattle.std.proofs.lemmas.Bool.{both_ways, false_from_ne_true}
use Rattle.std.proofs.lemmas.Cmp.{nat_list_cmp_total}
use Rattle.std.proofs.lemmas.List.Kept.{IsStrictlySortedBy-filter}
use Rattle.rw_schema.specs.Signature.{Signature}
use Rattle.rw_spec.specs.Instance.{Instance}
use Rattle.rw_spec.proofs.Sequences.{contains_filter, contained_in_filter}
use Rattle.rw_pattern.specs.Matches.{matches}
use Rattle.rw_pattern.specs.PatternFaults.{IsPatternOf}
use Rattle.rw_pattern.specs.PatternLists.{PatternLists}
use Rattle.rw_kept.specs.Changed.{IsChange, goes_through, matches_through}
use Rattle.rw_kept.specs.Refreshed.{is_in, without}
use Rattle.rw_kept.proofs.Locality.{match_survives}
use Rattle.rw_spec.proofs.OneOrder.{one_order}
use Rattle.rw_kept.proofs.Refresh.{in_without}
use Rattle.rw_kept.proofs.Sought.{contains_is_in, is_in_contains}
use Rattle.rw_kept.proofs.Through.{decided, Ascends, matches_ascend}

-- what goes of the matches is the difference of those that are found through changed names
pub difference_through : (C : Signature) (pattern : PatternLists) (monic : List Bool) (X Y : Instance) (out into : ℕ → List ℕ) → IsPatternOf C pattern → IsChange C X Y out into → Ascends X
    → without (matches C pattern monic X) (matches C pattern monic Y) ≡ without (matches_through C pattern monic X out) (matches_through C pattern monic Y into)
difference_through C pattern monic X Y out into is change X_up =
    let before : List (List ℕ) = matches C pattern monic X in
    let after : List (List ℕ) = matches C pattern monic Y in
    let old : List (List ℕ) = matches_through C pattern monic X out in
    let new : List (List ℕ) = matches_through C pattern monic Y into in
    let up : IsStrictlySortedBy (slice_cmp nat_cmp) before = matches_ascend C pattern monic X X_up in
    one_order (slice_cmp nat_cmp) nat_list_cmp_total (without before after) (without old new)
    (IsStrictlySortedBy-filter (slice_cmp nat_cmp) (λ tuple. not (is_in after tuple)) before up)
    (IsStrictlySortedBy-filter (slice_cmp nat_cmp) (λ tuple. not (is_in new tuple)) old (IsStrictlySortedBy-filter (slice_cmp nat_cmp) (goes_through out pattern) before up))
    (λ m there.
    let parts = (in_without before after m).0 there in
    let matched : Contains before m = is_in_contains before m parts.0 in
    elim (decided (goes_through out pattern m)) [
      | inl through ↦ (in_without old new m).1 (
        contains_is_in old m (contains_filter (goes_through out pattern) before m matched through),
        false_from_ne_true (is_in new m) (λ found. both_ways (is_in after m) parts.1
            (contains_is_in after m (contained_in_filter (goes_through into pattern) after m (is_in_contains new m found)).0)),
      )
      | inr apart ↦ absurd (both_ways (is_in after m) parts.1
          (contains_is_in after m (match_survives C pattern monic X Y out into m is change.there matched apart).0))
    ])
    (λ m there.
    let parts = (in_without old new m).0 there in
    let kept = contained_in_filter (goes_through out pattern) before m (is_in_contains old m parts.0) in
    (in_without before after m).1 (
      contains_is_in before m kept.0,
      false_from_ne_true (is_in after m) (λ found.
          let stays : Contains after m = is_in_contains after m found in
          elim (decided (goes_through into pattern m)) [
            | inl through ↦ both_ways (is_in new m) parts.1 (contains_is_in new m (contains_filter (goes_through into pattern) after m stays through))
            | inr apart ↦ both_ways (goes_through out pattern m) (match_survives C pattern monic Y X into out m is change.back stays apart).1 kept.1
          ]),
    ))
