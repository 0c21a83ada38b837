-- The matches after a change: those before that have no name that goes, and those with a name that comes.
use Rattle.std.proofs.Common.{◌≡◌, ℕ, Bool, true, false, not, List, Contains, get_or, refl, ap, inl, inr}
use Rattle.std.specs.Prelude.{◌⊎◌, ◌↔◌}
use Rattle.std.specs.Cmp.Lexicographic.{slice_cmp}
use Rattle.std.specs.List.Sorted.{IsStrictlySortedBy}
use Rattle.std.specs.Ordering.{nat_cmp}
use Rattle.std.proofs.lemmas.Bool.{both_ways, not-true}
use Rattle.std.proofs.lemmas.Cmp.{nat_list_cmp_total}
use Rattle.std.proofs.lemmas.List.Elements.{recursion_from_All, All-map}
use Rattle.std.proofs.lemmas.List.Kept.{IsStrictlySortedBy-filter}
use Rattle.rw_schema.specs.declared.ids.ObjectId.{ObjectId}
use Rattle.rw_schema.specs.Signature.{Signature}
use Rattle.rw_spec.specs.Instance.{Instance}
use Rattle.rw_spec.proofs.Sequences.{contains_filter, contained_in_filter}
use Rattle.rw_pattern.specs.Matches.{candidates, is_match, matches}
use Rattle.rw_pattern.specs.PatternFaults.{IsPatternOf}
use Rattle.rw_pattern.specs.PatternLists.{PatternLists, objects_of}
use Rattle.rw_spec.specs.Tuples.{tuples}
use Rattle.rw_kept.specs.Changed.{IsChange, goes_through, matches_through, matches_apart}
use Rattle.rw_kept.proofs.Locality.{match_survives}
use Rattle.rw_spec.proofs.OneOrder.{one_order}
use Rattle.rw_spec.proofs.TuplesAscend.{sorted_from_ascends, tuples_ascend}
use Rattle.rw_spec.specs.Ascending.{ascends}

-- a test passes or fails
pub decided : (b : Bool) → (b ≡ true) ⊎ (b ≡ false)
decided true = inl refl
decided false = inr refl

-- a change that is undone
pub undone : (C : Signature) (X Y : Instance) (out into : ℕ → List ℕ) → IsChange C X Y out into → IsChange C Y X into out
undone C X Y out into change = record { there = change.back; back = change.there }

-- a tuple without a changed name is a match before exactly where it is one after
pub match_same : (C : Signature) (pattern : PatternLists) (monic : List Bool) (X Y : Instance) (out into : ℕ → List ℕ) → IsPatternOf C pattern → IsChange C X Y out into
    → (tuple : List ℕ) → goes_through out pattern tuple ≡ false → goes_through into pattern tuple ≡ false
    → Contains (matches C pattern monic X) tuple ↔ Contains (matches C pattern monic Y) tuple
match_same C pattern monic X Y out into is change tuple stays_out stays_in = (
  λ before. (match_survives C pattern monic X Y out into tuple is change.there before stays_out).0,
  λ after. (match_survives C pattern monic Y X into out tuple is change.back after stays_in).0,
)

-- the matches after: those before without a name that goes, and those with a name that comes
pub matches_after : (C : Signature) (pattern : PatternLists) (monic : List Bool) (X Y : Instance) (out into : ℕ → List ℕ) → IsPatternOf C pattern → IsChange C X Y out into
    → (tuple : List ℕ) → Contains (matches C pattern monic Y) tuple
    ↔ (Contains (matches_apart C pattern monic X out) tuple ⊎ Contains (matches_through C pattern monic Y into) tuple)
matches_after C pattern monic X Y out into is change tuple = (
  λ after. elim (decided (goes_through into pattern tuple)) [
    | inl through ↦ inr (contains_filter (goes_through into pattern) (matches C pattern monic Y) tuple after through)
    | inr apart ↦
        let before = match_survives C pattern monic Y X into out tuple is change.back after apart in
        inl (contains_filter (λ tuple. not (goes_through out pattern tuple)) (matches C pattern monic X) tuple before.0 (ap not before.1))
  ],
  λ either. elim either [
    | inl stays ↦
        let kept = contained_in_filter (λ tuple. not (goes_through out pattern tuple)) (matches C pattern monic X) tuple stays in
        (match_survives C pattern monic X Y out into tuple is change.there kept.0 (not-true (goes_through out pattern tuple) kept.1)).0
    | inr comes ↦ (contained_in_filter (goes_through into pattern) (matches C pattern monic Y) tuple comes).0
  ],
)

-- and none is among both
pub apart_or_through : (C : Signature) (pattern : PatternLists) (monic : List Bool) (X Y : Instance) (out into : ℕ → List ℕ) → IsPatternOf C pattern → IsChange C X Y out into
    → (tuple : List ℕ) → Contains (matches_apart C pattern monic X out) tuple → Contains (matches_through C pattern monic Y into) tuple → ⊥
apart_or_through C pattern monic X Y out into is change tuple stays comes =
    let kept = contained_in_filter (λ tuple. not (goes_through out pattern tuple)) (matches C pattern monic X) tuple stays in
    let found = contained_in_filter (goes_through into pattern) (matches C pattern monic Y) tuple comes in
    both_ways (goes_through into pattern tuple)
    (match_survives C pattern monic X Y out into tuple is change.there kept.0 (not-true (goes_through out pattern tuple) kept.1)).1 found.1

-- the names of each object ascend
pub record Ascends (X : Instance) : Type 0 where
  pub names : (object : ℕ) → ascends (X.names object) ≡ true

-- the matches ascend
pub matches_ascend : (C : Signature) (pattern : PatternLists) (monic : List Bool) (X : Instance) → Ascends X
    → IsStrictlySortedBy (slice_cmp nat_cmp) (matches C pattern monic X)
matches_ascend C pattern monic X up =
    IsStrictlySortedBy-filter (slice_cmp nat_cmp) (is_match C pattern monic X) (tuples (candidates pattern X))
    (tuples_ascend (candidates pattern X) (recursion_from_All (IsStrictlySortedBy nat_cmp) (candidates pattern X)
    (All-map (IsStrictlySortedBy nat_cmp) (λ (object : ObjectId). X.names object.0) (objects_of pattern) (λ k d within.
    sorted_from_ascends (X.names (get_or (objects_of pattern) k d).0) (up.names (get_or (objects_of pattern) k d).0)))))

-- one list ascends and has these members: the list of the matches after
pub matches_merged : (C : Signature) (pattern : PatternLists) (monic : List Bool) (X Y : Instance) (out into : ℕ → List ℕ) → IsPatternOf C pattern → IsChange C X Y out into
    → Ascends Y → (merged : List (List ℕ)) → IsStrictlySortedBy (slice_cmp nat_cmp) merged
    → ((tuple : List ℕ) → Contains merged tuple ↔ (Contains (matches_apart C pattern monic X out) tuple ⊎ Contains (matches_through C pattern monic Y into) tuple))
    → merged ≡ matches C pattern monic Y
matches_merged C pattern monic X Y out into is change Y_up merged up members =
    one_order (slice_cmp nat_cmp) nat_list_cmp_total merged (matches C pattern monic Y) up (matches_ascend C pattern monic Y Y_up)
    (λ tuple there. (matches_after C pattern monic X Y out into is change tuple).1 ((members tuple).0 there))
    (λ tuple there. (members tuple).1 ((matches_after C pattern monic X Y out into is change tuple).0 there))
