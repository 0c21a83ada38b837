-- Where a step is too large.
use Rattle.std.proofs.Common.{◌≡◌, ◌<◌, ◌≤◌, ℕ, inl, inr, List, [], ◌∷◌, Contains, length, sym, subst, arith}
use Rattle.rw_schema.specs.declared.ids.ArrowId.{ArrowId}
use Rattle.rw_schema.specs.declared.ids.ObjectId.{ObjectId}
use Rattle.rw_schema.specs.Signature.{Signature, IsCategory, IsPath}
use Rattle.rw_schema.specs.Topological.{IsTopological}
use Rattle.rw_spec.specs.Instance.{Instance}
use Rattle.rw_spec.specs.Natural.{Map}
use Rattle.rw_spec.specs.Redex.{Redex}
use Rattle.rw_spec.proofs.Sequences.{contains_none}
use Rattle.rw_universal.proofs.Paths.{path_end}
use Rattle.rw_copies.specs.CopyNames.{IsCopyContext}
use Rattle.rw_copies.specs.Laws.{IsNamedMatch, HaveOneTooLarge}
use Rattle.rw_copies.specs.TooLarge.{IsPast, IsLowestPast, IsTooLargeAt, AreCounted}
use Rattle.rw_copies.proofs.OneContext.{one_context}
use Rattle.rw_copies.proofs.Past.{last_in_context, taken_in_context}

-- the lowest objects past the limit are the same where the next names are
lowest_same : (C : Signature) → IsCategory C → (limit : ℕ) (last end more : ℕ → ℕ) → ((object : ℕ) → object < C.objects → last object ≡ end object)
    → (object : ℕ) → IsLowestPast C limit last more object → IsLowestPast C limit end more object
lowest_same C category limit last end more same object (below, past, no_other) = (
  below,
  (let one = same object below in omega arith),
  (λ to path long leads past_there.
      let one = same to (path_end C category object path to leads below) in
      no_other to path long leads (omega arith)),
)

module _ (C : Signature) (category : IsCategory C) (order : List ObjectId) (topological : IsTopological C order) (R : Redex) (limit : ℕ) (next more : ℕ → ℕ) (named : IsNamedMatch C R next) where
  -- there is only one place
  only_place : (object other : ℕ) → IsTooLargeAt C R limit next more object → IsTooLargeAt C R limit next more other → object ≡ other
  only_place object other first second =
      let one = one_context C category order topological R next named in
      let same = one.only first.context first.k first.e first.last second.context second.k second.e second.last first.is_context second.is_context in
      let there = first.least other (lowest_same C category limit second.last first.last more (λ o below. sym (same.next o below)) other second.lowest) in
      let back = second.least object (lowest_same C category limit first.last second.last more same.next object first.lowest) in
      omega arith

  module _ (before past : List ℕ) (D : Instance) (k e : Map) (last : ℕ → ℕ) (counts : AreCounted C R limit next more before past D k e last)
      (E : Instance) (j i : Map) (end : ℕ → ℕ) (is_context : IsCopyContext C R next E j i end) where
    -- what was counted past the limit is past it in the context
    counted_is_past : (object : ℕ) → Contains past object → IsPast limit end more object
    counted_is_past object there =
        let one = counts.counted object there in
        let same = taken_in_context C category order topological R next named before D k e last counts.placed object one.known one.new one.targets E j i end is_context in
        let many = one.many in
        omega arith

    -- what has been placed is not
    placed_is_not : (object : ℕ) → object < C.objects → Contains before object → IsPast limit end more object → ⊥
    placed_is_not object below there past_there =
        let same = last_in_context C category order topological R next named before D k e last counts.placed object below there E j i end is_context in
        let low = counts.within object there in
        omega arith

    -- paths from what has been placed lead to what has been placed
    reached : (from : ℕ) (path : List ArrowId) (to : ℕ) → IsPath C from path to → Contains before from → Contains before to
    reached from [] to leads there = subst (λ (o : ℕ). Contains before o) leads there
    reached from (a ∷ path) to (ends, is, leaves, leads) there =
        reached ends.target.0 path to leads (counts.placed.onward a.0 ends is (subst (λ (o : ℕ). Contains before o) (sym leaves) there))

    -- no path leads from what was counted past the limit to another object past it
    counted_is_lowest : (object : ℕ) → Contains past object → IsLowestPast C limit end more object
    counted_is_lowest object there = ((counts.counted object there).known, counted_is_past object there, λ to path long leads. onward to path long leads)
      where
        onward : (to : ℕ) (path : List ArrowId) → 0 < length path → IsPath C object path to → IsPast limit end more to → ⊥
        onward to [] long leads past_there = omega arith
        onward to (a ∷ path) long (ends, is, leaves, leads) past_there =
            let one = counts.counted object there in
            placed_is_not to (path_end C category ends.target.0 path to leads (category.targets a.0 ends is))
            (reached ends.target.0 path to leads (one.targets a.0 ends is leaves)) past_there

    -- each lowest object past the limit was counted past it
    lowest_is_counted : (object : ℕ) → IsLowestPast C limit end more object → Contains past object
    lowest_is_counted object (below, is_past, no_other) =
        elim (counts.each object below) [
          | inl there ↦ absurd (placed_is_not object below there is_past)
          | inr (inl there) ↦ there
          | inr (inr (to, path, long, leads, there)) ↦ absurd (no_other to path long leads (counted_is_past to there))
        ]

  -- the least that was counted past the limit is the place
  place_of_counted : (before past : List ℕ) (D : Instance) (k e : Map) (last : ℕ → ℕ) → AreCounted C R limit next more before past D k e last
      → (object : ℕ) → Contains past object → ((other : ℕ) → Contains past other → object ≤ other) → IsTooLargeAt C R limit next more object
  place_of_counted before past D k e last counts object there least =
      let made = (one_context C category order topological R next named).exists in
      record {
        context = made.0;
        k = made.1;
        e = made.2;
        last = made.3;
        is_context = made.5;
        lowest = counted_is_lowest before past D k e last counts made.0 made.1 made.2 made.3 made.5 object there;
        least = λ other lowest. least other (lowest_is_counted before past D k e last counts made.0 made.1 made.2 made.3 made.5 other lowest);
      }

  -- where nothing was, there is no place
  no_place : (before : List ℕ) (D : Instance) (k e : Map) (last : ℕ → ℕ) → AreCounted C R limit next more before [] D k e last → (object : ℕ) → IsTooLargeAt C R limit next more object → ⊥
  no_place before D k e last counts object large =
      contains_none object (lowest_is_counted before [] D k e last counts large.context large.k large.e large.last large.is_context object large.lowest)

-- each redex at an injective match has at most one place where it is too large, and it is the one that is counted
pub one_too_large : HaveOneTooLarge
one_too_large C category order topological R limit next more named = record {
  at = place_of_counted C category order topological R limit next more named;
  none = no_place C category order topological R limit next more named;
  only = only_place C category order topological R limit next more named;
}
