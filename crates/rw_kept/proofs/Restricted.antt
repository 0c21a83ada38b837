-- What an extension extends is a match of the left side, but for the left side's monic objects.
use Rattle.std.proofs.Common.{◌≡◌, ℕ, ◌<◌, Bool, true, ◌&&◌, None, Some, List, Contains, sum, length, slice_get, slice_index, refl, sym, ap, ◌∙◌, subst}
use Rattle.std.specs.Prelude.{◌↔◌}
use Rattle.std.proofs.lemmas.Bool.{and_parts, and_from}
use Rattle.rw_schema.specs.declared.atom.Kind as kinds
use Rattle.rw_schema.specs.declared.signature.ArrowEnds.{ArrowEnds}
use Rattle.rw_schema.specs.RowLists.{list_at}
use Rattle.rw_schema.specs.Signature.{Signature, IsCategory}
use Rattle.std.proofs.lemmas.Option.{slice_get-get_or}
use Rattle.rw_spec.specs.Instance.{Instance, Has}
use Rattle.rw_spec.specs.Natural.{IsNatural}
use Rattle.rw_spec.proofs.Sequences.{contains_filter, contained_in_filter}
use Rattle.rw_pattern.specs.MapFaults.{image_of, map_fault}
use Rattle.rw_pattern.specs.Matches.{candidates, is_natural, meets_cells, is_monic, is_match, matches}
use Rattle.rw_pattern.specs.PatternLists.{PatternLists, instance_of_pattern, map_of_tuple}
use Rattle.rw_spec.specs.Tuples.{tuples}
use Rattle.rw_pattern.proofs.Maps.{IsMap, is_map, natural_from_map}
use Rattle.rw_pattern.proofs.Naturality.{length_candidates, tuple_from_natural, tuple_is_natural}
use Rattle.rw_pattern.proofs.PartNames.{part_below, has_part}
use Rattle.rw_pattern.proofs.Shapes.{IsPattern, is_pattern, row_long, image_within}
use Rattle.rw_spec.proofs.Tuples.{is_tuple, contains_tuple}
use Rattle.rw_pattern.proofs.Valuations.{meets_from_values}
use Rattle.rw_rule.specs.RuleLists.{ConditionLists}
use Rattle.rw_kept.specs.Conditions.{IsExtension, joined, restricted, extends_tuple, all_extensions, IsConditionOf}
use Rattle.rw_kept.proofs.Extended.{restricted_at, restricted_long, extension_is}
use Rattle.std.proofs.lemmas.Slice.Eq.{bytes_eq-Decides}

-- an extension has one name for each part of the condition's pattern
pub extension_long : (C : Signature) (left : PatternLists) (condition : ConditionLists) (X : Instance) (q : List ℕ) → Contains (all_extensions C left condition X) q → length q ≡ sum condition.pattern.sizes
extension_long C left condition X q there =
    let pattern : PatternLists = joined left condition in
    let kept = contained_in_filter (is_match C pattern condition.monic X) (tuples (candidates pattern X)) q there in
    (is_tuple (candidates pattern X) q kept.0).long ∙ length_candidates pattern X

-- the image of a part is a part
left_values : (C : Signature) (left : PatternLists) → IsPattern C left → (arrow : ℕ) (ends : ArrowEnds) (part : ℕ) → slice_get C.arrows arrow ≡ Some ends
    → Has (instance_of_pattern left) ends.source.0 part → Has (instance_of_pattern left) ends.target.0 ((instance_of_pattern left).value arrow part)
left_values C left is arrow ends part arrow_is has =
    let row : List ℕ = list_at left.rows arrow in
    let short : part < length row = rw (row_long C left arrow ends is arrow_is) (part_below left ends.source.0 part has) in
    has_part left ends.target.0 (slice_index row part)
    (image_within C left arrow ends part (slice_index row part) is arrow_is (slice_get-get_or row part 0 short))

-- what an extension gives to the parts of the left side is natural
restricted_natural : (C : Signature) (left : PatternLists) (condition : ConditionLists) (X : Instance) (q : List ℕ) → IsCategory C → IsPattern C left
    → map_fault C left condition.pattern condition.images ≡ None
    → IsNatural C (instance_of_pattern condition.pattern) X (map_of_tuple condition.pattern q)
    → IsNatural C (instance_of_pattern left) X (map_of_tuple left (restricted left condition q))
restricted_natural C left condition X q category is none natural =
    let map_is : IsMap C left condition.pattern condition.images = is_map C left condition.pattern condition.images none in
    let along : IsNatural C (instance_of_pattern left) (instance_of_pattern condition.pattern) (image_of condition.images) = natural_from_map C left condition.pattern condition.images is none in
    let at : (object part : ℕ) → object < C.objects → Has (instance_of_pattern left) object part
    → map_of_tuple left (restricted left condition q) object part ≡ map_of_tuple condition.pattern q object (image_of condition.images object part) =
    λ object part below has. restricted_at C left condition q object part map_is (rw is.sizes_long below) (part_below left object part has) in
    record {
      parts = λ object part below has.
          subst (λ (name : ℕ). Has X object name) (sym (at object part below has))
          (natural.parts object (image_of condition.images object part) below (along.parts object part below has));
      commutes = λ arrow ends part arrow_is has.
          let value : ℕ = (instance_of_pattern left).value arrow part in
          let value_has : Has (instance_of_pattern left) ends.target.0 value = left_values C left is arrow ends part arrow_is has in
          at ends.target.0 value (category.targets arrow ends arrow_is) value_has
          ∙ ap (map_of_tuple condition.pattern q ends.target.0) (along.commutes arrow ends part arrow_is has)
          ∙ natural.commutes arrow ends (image_of condition.images ends.source.0 part) arrow_is (along.parts ends.source.0 part (category.sources arrow ends arrow_is) has)
          ∙ ap (X.value arrow) (sym (at ends.source.0 part (category.sources arrow ends arrow_is) has));
    }

-- what an extension extends is a match of the left side exactly where it gives parts of monic objects different names
pub restricted_match : (C : Signature) (kinds : List kinds.Kind) (left : PatternLists) (monic : List Bool) (condition : ConditionLists) (X : Instance) (q : List ℕ) → IsCategory C
    → IsConditionOf C kinds left condition → Contains (all_extensions C left condition X) q
    → Contains (matches C left monic X) (restricted left condition q) ↔ (is_monic left monic (restricted left condition q) ≡ true)
restricted_match C kinds left monic condition X q category is there =
    let m : List ℕ = restricted left condition q in
    let all : List (List ℕ) = tuples (candidates left X) in
    let map_is : IsMap C left condition.pattern condition.images = is_map C left condition.pattern condition.images is.map_is in
    let m_long : length m ≡ sum left.sizes = restricted_long C left condition q map_is in
    let extension : IsExtension C left condition X (map_of_tuple left m) (map_of_tuple condition.pattern q) =
    (extension_is C kinds left condition X m q is m_long (extension_long C left condition X q there)).0
    (contains_filter (extends_tuple left condition m) (all_extensions C left condition X) q there ((bytes_eq-Decides m m).1 refl)) in
    let shape : IsPattern C left = is_pattern C left (kinds, is.left_over) in
    let natural : IsNatural C (instance_of_pattern left) X (map_of_tuple left m) = restricted_natural C left condition X q category shape is.map_is extension.matched.natural in (
      λ matched.
          let kept = contained_in_filter (is_match C left monic X) all m matched in
          (and_parts (is_natural C left X m && meets_cells left X m) (is_monic left monic m) kept.1).1,
      λ different.
          contains_filter (is_match C left monic X) all m (contains_tuple (candidates left X) m (tuple_from_natural C left X m shape m_long natural))
          (and_from (is_natural C left X m && meets_cells left X m) (is_monic left monic m)
          (and_from (is_natural C left X m) (meets_cells left X m)
          (tuple_is_natural C left X m shape natural) (meets_from_values left X m extension.matched.values extension.same_values)) different),
    )
