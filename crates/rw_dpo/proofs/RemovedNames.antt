-- The names that are removed.
use Rattle.std.proofs.Common.{◌≡◌, ℕ, ◌<◌, Bool, true, not, List, Contains, filter, map, subst}
use Rattle.std.proofs.lemmas.Bool.{both_ways, false_from_ne_true, not-true, not_from_false}
use Rattle.rw_schema.specs.Signature.{Signature}
use Rattle.rw_spec.specs.Instance.{Instance}
use Rattle.rw_spec.proofs.Sequences.{contained_in_filter, contained_in_map, contains_filter, contains_map}
use Rattle.rw_pattern.specs.PatternLists.{map_of_tuple}
use Rattle.rw_pattern.proofs.PartNames.{part_below, has_part}
use Rattle.rw_complement.specs.Context.{is_removed}
use Rattle.rw_complement.specs.Redex.{IsKept, IsRemoved}
use Rattle.rw_complement.proofs.Parts.{removed_from, removed_test}
use Rattle.rw_delta.specs.Deltas.{IsListOf}
use Rattle.rw_redex.specs.Instantiated.{redex_of}
use Rattle.rw_redex.proofs.Parts.{image_from, image_found}
use Rattle.rw_redex.proofs.RuleMaps.{keep_known, left_shape}
use Rattle.rw_rule.specs.Images.{is_image, parts_of}
use Rattle.rw_rule.specs.RuleLists.{RuleLists}
use Rattle.rw_dpo.specs.Contexts.{removed_names}
use Rattle.rw_dpo.specs.inner.Site.{IsSite}
use Rattle.rw_dpo.proofs.Ordered.{ordered_are}
use Rattle.rw_dpo.proofs.Sites.{left_there}

-- the names of an object's parts that are not kept, in order, are the names that are removed
pub removed_are : (C : Signature) (rule : RuleLists) (tuple : List ℕ) (X : Instance) (object : ℕ) (names : List ℕ) → IsSite C rule tuple X → object < C.objects
    → IsListOf (Contains (map (map_of_tuple rule.goal.left tuple object) (filter (λ part. not (is_image rule.l object part)) (parts_of rule.goal.left object)))) names
    → names ≡ removed_names rule tuple X object
removed_are C rule tuple X object names site known listed =
    let R = redex_of rule tuple X in
    let left = rule.goal.left in
    let m : ℕ → ℕ = map_of_tuple left tuple object in
    let unkept : ℕ → Bool = λ part. not (is_image rule.l object part) in
    let shape = left_shape C rule site.span in
    let keep = keep_known C rule object site.span known in
    let kept_image : (y : ℕ) → IsKept R object y → is_image rule.l object y ≡ true = λ y kept.
    subst (λ (y : ℕ). is_image rule.l object y ≡ true) kept.2 (image_found rule.keep rule.l object kept.0 shape keep (part_below rule.keep object kept.0 kept.1)) in
    let image_kept : (y : ℕ) → is_image rule.l object y ≡ true → IsKept R object y = λ y image.
    let from = image_from rule.keep rule.l object y shape keep image in
    (from.0, has_part rule.keep object from.0 from.1, from.2) in
    ordered_are (map m (filter unkept (parts_of left object))) names (X.names object) (is_removed R object) (site.ascend object) listed
    (λ x there.
    let from = contained_in_map m (filter unkept (parts_of left object)) x there in
    let part = contained_in_filter unkept (parts_of left object) from.0 from.1 in
    let has = left_there C rule tuple X object from.0 site known (part_below left object from.0 part.0) in
    let removed : IsRemoved R object x =
    (from.0, part.0, from.2, λ kept. both_ways (is_image rule.l object from.0) (not-true (is_image rule.l object from.0) part.1) (kept_image from.0 kept)) in
    (subst (Contains (X.names object)) from.2 has, removed_test R object x removed))
    (λ x has passes.
    let removed : IsRemoved R object x = removed_from R object x passes in
    let y : ℕ = removed.0 in
    let out : unkept y ≡ true = not_from_false (is_image rule.l object y) (false_from_ne_true (is_image rule.l object y) (λ image. removed.3 (image_kept y image))) in
    subst (Contains (map m (filter unkept (parts_of left object)))) removed.2
    (contains_map m (filter unkept (parts_of left object)) y (contains_filter unkept (parts_of left object) y removed.1 out)))
