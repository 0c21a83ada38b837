-- Instances that are the same have the same matches.
use Rattle.std.proofs.Common.{◌≡◌, ◌∙◌, ℕ, ◌<◌, true, Some, List, Contains, Bool, length, sum, option_map, slice_get, sym, ap, subst, inl, inr, arith}
use Rattle.std.specs.Cmp.Lexicographic.{slice_cmp}
use Rattle.std.specs.Ordering.{nat_cmp}
use Rattle.std.proofs.lemmas.Cmp.{nat_list_cmp_total}
use Rattle.std.proofs.lemmas.Option.{slice_get_cases, slice_get-map}
use Rattle.rw_schema.specs.declared.atom.Atom.{Atom}
use Rattle.rw_schema.specs.declared.ids.ObjectId.{ObjectId}
use Rattle.rw_schema.specs.declared.signature.AttrEnds.{AttrEnds}
use Rattle.rw_schema.specs.Signature.{Signature, IsCategory}
use Rattle.rw_schema.proofs.Paths.{number_at}
use Rattle.rw_spec.specs.Ascending.{ascends}
use Rattle.rw_spec.specs.Instance.{Instance, Has}
use Rattle.rw_spec.specs.Natural.{Map, IsNatural}
use Rattle.rw_spec.specs.Same.{AreSame}
use Rattle.rw_spec.specs.Tuples.{tuples}
use Rattle.rw_spec.proofs.OneOrder.{one_order}
use Rattle.rw_spec.proofs.Ranges.{range_has}
use Rattle.rw_spec.proofs.Sequences.{contained_in_filter}
use Rattle.rw_spec.proofs.Tuples.{is_tuple}
use Rattle.rw_pattern.specs.Matches.{candidates, is_match, matches, MeetsCells, IsMatch}
use Rattle.rw_pattern.specs.PatternFaults.{IsPatternOver, IsPatternOf}
use Rattle.rw_pattern.specs.PatternLists.{PatternLists, size_of, holder, holders_in, instance_of_pattern, map_of_tuple}
use Rattle.rw_pattern.proofs.MatchesAscend.{matches_ascend}
use Rattle.rw_pattern.proofs.Naturality.{length_candidates, matches_natural}
use Rattle.rw_pattern.proofs.Over.{cell_attribute, cell_part}
use Rattle.rw_pattern.proofs.Shapes.{is_pattern}

-- a number below the count of attributes is one
attribute_at : (attributes : List AttrEnds) (c : ℕ) → c < length attributes → (ends : AttrEnds) × (slice_get attributes c ≡ Some ends)
attribute_at attributes c within =
    elim ((slice_get_cases attributes c).1) [
      | inl some ↦ (some.0, some.2)
      | inr none ↦ absurd (omega (arith, none.0))
    ]

-- the object that the pattern knows of an attribute is the one in its ends
holder_at : (C : Signature) (pattern : PatternLists) (c : ℕ) (ends : AttrEnds) → pattern.holders ≡ holders_in C → slice_get C.attributes c ≡ Some ends
    → holder pattern c ≡ ends.object.0
holder_at C pattern c ends holders there =
    let object : slice_get (holders_in C) c ≡ Some ends.object =
    slice_get-map (λ (ends : AttrEnds). ends.object) C.attributes c ∙ ap (option_map (λ (ends : AttrEnds). ends.object)) there in
    number_at (λ (object : ObjectId). object.0) pattern.holders c ends.object (rw holders object)

-- the same the other way round
pub same_back : (C : Signature) (X Y : Instance) → IsCategory C → AreSame C X Y → AreSame C Y X
same_back C X Y category same = record {
  names = λ object x known. ((same.names object x known).1, (same.names object x known).0);
  values = λ a ends x there has. sym (same.values a ends x there ((same.names ends.source.0 x (category.sources a ends there)).1 has));
  cells = λ c ends x there has. sym (same.cells c ends x there ((same.names ends.object.0 x (category.holders c ends there)).1 has));
}

module _ (C : Signature) (pattern : PatternLists) (X Y : Instance) (category : IsCategory C) (is : IsPatternOf C pattern) (same : AreSame C X Y) where
  -- a natural map into the one is one into the other
  natural_too : (f : Map) → IsNatural C (instance_of_pattern pattern) X f → IsNatural C (instance_of_pattern pattern) Y f
  natural_too f natural = record {
    parts = λ object x known has. (same.names object (f object x) known).0 (natural.parts object x known has);
    commutes = λ a ends x there has.
        natural.commutes a ends x there has
        ∙ same.values a ends (f ends.source.0 x) there (natural.parts ends.source.0 x (category.sources a ends there) has);
  }

  -- the cells that entries fall on hold the same
  cells_too : (f : Map) (values : ℕ → Atom) → IsNatural C (instance_of_pattern pattern) X f → MeetsCells pattern X f values → MeetsCells pattern Y f values
  cells_too f values natural meets k entry there =
      let over : IsPatternOver C is.0 pattern = is.1 in
      let attribute : (ends : AttrEnds) × (slice_get C.attributes entry.attr.0 ≡ Some ends) =
      attribute_at C.attributes entry.attr.0 (cell_attribute C is.0 pattern k entry over there) in
      let ends = attribute.0 in
      let held : holder pattern entry.attr.0 ≡ ends.object.0 = holder_at C pattern entry.attr.0 ends over.holders attribute.1 in
      let part : entry.part < size_of pattern (holder pattern entry.attr.0) = cell_part C is.0 pattern k entry over there in
      let known : holder pattern entry.attr.0 < C.objects = rw held (category.holders entry.attr.0 ends attribute.1) in
      let name : Has X (holder pattern entry.attr.0) (f (holder pattern entry.attr.0) entry.part) =
      natural.parts (holder pattern entry.attr.0) entry.part known (range_has (size_of pattern (holder pattern entry.attr.0)) entry.part part) in
      sym (same.cells entry.attr.0 ends (f (holder pattern entry.attr.0) entry.part) attribute.1
      (subst (λ (object : ℕ). Has X object (f (holder pattern entry.attr.0) entry.part)) held name)) ∙ meets k entry there

  -- a match in the one is a match in the other
  match_too : (monic : List Bool) (f : Map) → IsMatch C pattern monic X f → IsMatch C pattern monic Y f
  match_too monic f match = record {
    natural = natural_too f match.natural;
    values = match.values;
    cells = cells_too f match.values match.natural match.cells;
    injective = match.injective;
  }

  -- a tuple in the list of the one is in that of the other
  tuple_too : (monic : List Bool) (tuple : List ℕ) → Contains (matches C pattern monic X) tuple → Contains (matches C pattern monic Y) tuple
  tuple_too monic tuple there =
      let long : length tuple ≡ sum pattern.sizes =
      (is_tuple (candidates pattern X) tuple (contained_in_filter (is_match C pattern monic X) (tuples (candidates pattern X)) tuple there).0).long ∙ length_candidates pattern X in
      (matches_natural C pattern monic is Y tuple long).1 (match_too monic (map_of_tuple pattern tuple) ((matches_natural C pattern monic is X tuple long).0 there))

-- instances that are the same and whose names ascend have one list of matches
pub same_matches : (C : Signature) (pattern : PatternLists) (monic : List Bool) (X Y : Instance) → IsCategory C → IsPatternOf C pattern → AreSame C X Y
    → ((object : ℕ) → object < C.objects → ascends (X.names object) ≡ true) → ((object : ℕ) → object < C.objects → ascends (Y.names object) ≡ true)
    → matches C pattern monic X ≡ matches C pattern monic Y
same_matches C pattern monic X Y category is same up up_too =
    one_order (slice_cmp nat_cmp) nat_list_cmp_total (matches C pattern monic X) (matches C pattern monic Y)
    (matches_ascend C pattern monic (is_pattern C pattern is) X up) (matches_ascend C pattern monic (is_pattern C pattern is) Y up_too)
    (tuple_too C pattern X Y category is same monic) (tuple_too C pattern Y X category is (same_back C X Y category same) monic)
