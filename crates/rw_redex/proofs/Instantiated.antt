-- A rule at a match is a redex.
use Rattle.std.proofs.Common.{◌≡◌, ◌∙◌, ℕ, ◌<◌, true, List, [], length, Some, slice_get, sym, ap, zero-add}
use Rattle.std.proofs.lemmas.Option.{slice_get-get_or}
use Rattle.rw_schema.specs.declared.atom.Atom.{Atom}
use Rattle.rw_schema.specs.declared.signature.AttrEnds.{AttrEnds}
use Rattle.rw_schema.specs.RowLists.{list_at}
use Rattle.rw_schema.specs.Signature.{Signature, IsCategory}
use Rattle.rw_spec.specs.Distinct.{AreDistinct}
use Rattle.rw_spec.specs.Instance.{Instance, IsInstance, Has}
use Rattle.rw_spec.specs.Natural.{IsNatural}
use Rattle.rw_spec.proofs.Distinct.{distinct_from_test}
use Rattle.rw_spec.proofs.Sequences.{all_in_at}
use Rattle.rw_pattern.specs.MapFaults.{image_of}
use Rattle.rw_pattern.specs.PatternLists.{holder, size_of, instance_of_pattern, map_of_tuple}
use Rattle.rw_pattern.proofs.Maps.{images_long}
use Rattle.rw_pattern.proofs.PartNames.{part_below}
use Rattle.rw_pattern.proofs.PatternInstance.{pattern_instance}
use Rattle.rw_rule.specs.Images.{has_distinct_images, is_injective}
use Rattle.rw_rule.specs.RuleLists.{RuleLists}
use Rattle.rw_rule.specs.Sets.{is_set}
use Rattle.rw_redex.specs.RuleParts.{IsSpanOver}
use Rattle.rw_redex.proofs.Attributes.{holder_at}
use Rattle.rw_redex.proofs.RuleMaps.{keep_known, left_natural, left_shape}
use Rattle.rw_complement.specs.Redex.{IsRedex}
use Rattle.rw_complement.proofs.Tests.{not_hidden}
use Rattle.rw_redex.specs.Instantiated.{keep_at, left_at, redex_of}

module _ (C : Signature) (category : IsCategory C) (rule : RuleLists) (over : IsSpanOver C rule) (apart : is_injective rule.keep rule.l ≡ true)
    (tuple : List ℕ) (X : Instance) (host : IsInstance C X) (natural : IsNatural C (instance_of_pattern rule.goal.left) X (map_of_tuple rule.goal.left tuple))
  where
    -- the object of an attribute of the left pattern
    holds : (c : ℕ) (ends : AttrEnds) → slice_get C.attributes c ≡ Some ends → holder rule.goal.left c ≡ ends.object.0
    holds c ends there = holder_at C rule.goal.left c ends over.parts.goal.left.holders there

    -- a cell of the left pattern, where the attribute's object is known
    left_cell : (c : ℕ) (ends : AttrEnds) (y : ℕ) → slice_get C.attributes c ≡ Some ends → (left_at rule tuple X).cell c y ≡ X.cell c (map_of_tuple rule.goal.left tuple ends.object.0 y)
    left_cell c ends y there = ap (λ (object : ℕ). X.cell c (map_of_tuple rule.goal.left tuple object y)) (holds c ends there)

    -- an atom of a kept part is that of the part that it is matched to
    keep_atom : (c : ℕ) (ends : AttrEnds) (z : ℕ) (atom : Atom) → slice_get C.attributes c ≡ Some ends → (keep_at rule tuple X).cell c z ≡ Some atom
        → X.cell c (map_of_tuple rule.goal.left tuple ends.object.0 (image_of rule.l ends.object.0 z)) ≡ Some atom
    keep_atom c ends z atom there is =
        let object : ℕ = holder rule.goal.left c in
        ap (λ (object : ℕ). X.cell c (map_of_tuple rule.goal.left tuple object (image_of rule.l object z))) (sym (holds c ends there))
        ∙ (not_hidden (is_set rule.sets c (image_of rule.r object z)) (X.cell c (map_of_tuple rule.goal.left tuple object (image_of rule.l object z))) atom is).1

    -- the map to the left pattern
    to_left : IsNatural C (instance_of_pattern rule.keep) (instance_of_pattern rule.goal.left) (image_of rule.l)
    to_left = left_natural C rule over

    -- the images of an object's kept parts are different
    left_distinct : (object : ℕ) → object < C.objects → AreDistinct (list_at rule.l object)
    left_distinct object known =
        let sizes : List ℕ = rule.keep.sizes in
        let there = slice_get-get_or sizes object 0 (keep_known C rule object over known) in
        distinct_from_test (list_at rule.l object) (rw zero-add at (all_in_at (has_distinct_images rule.l) 0 sizes object (size_of rule.keep object) apart there))

    -- a kept part has a place among the images
    within : (object z : ℕ) → object < C.objects → Has (instance_of_pattern rule.keep) object z → z < length (list_at rule.l object)
    within object z known has = rw (images_long rule.keep rule.l object (left_shape C rule over) (keep_known C rule object over known)) (part_below rule.keep object z has)

    -- a rule at a match is a redex
    pub redex_is : IsRedex C (redex_of rule tuple X)
    redex_is =
        let keep : IsInstance C (instance_of_pattern rule.keep) = pattern_instance C [] rule.keep category over.parts.keep in
        let left : IsInstance C (instance_of_pattern rule.goal.left) = pattern_instance C rule.goal.kinds rule.goal.left category over.parts.goal.left in
        record {
          keep = record {
            values = keep.values;
            atoms = λ c ends z atom there has is.
                let object : ℕ = ends.object.0 in
                let known : object < C.objects = category.holders c ends there in
                host.atoms c ends (map_of_tuple rule.goal.left tuple object (image_of rule.l object z)) atom there
                (natural.parts object (image_of rule.l object z) known (to_left.parts object z known has)) (keep_atom c ends z atom there is);
            equations = keep.equations;
          };
          left = record {
            values = left.values;
            atoms = λ c ends y atom there has is.
                let object : ℕ = ends.object.0 in
                host.atoms c ends (map_of_tuple rule.goal.left tuple object y) atom there (natural.parts object y (category.holders c ends there) has)
                (sym (left_cell c ends y there) ∙ is);
            equations = left.equations;
          };
          host = host;
          l = record {
            natural = record { parts = to_left.parts; commutes = to_left.commutes };
            keeps = λ c ends z atom there has is. left_cell c ends (image_of rule.l ends.object.0 z) there ∙ keep_atom c ends z atom there is;
          };
          injective = λ object z other known has has_other same. left_distinct object known z other (within object z known has) (within object other known has_other) same;
          m = record { parts = natural.parts; commutes = natural.commutes };
          cells = λ c ends y there has. left_cell c ends y there;
        }
