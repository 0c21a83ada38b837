-- Tables with two homomorphisms are a span, and its classes are the pushout.
use Rattle.std.proofs.Common.{◌≡◌, ◌∙◌, ◌≤◌, List, ℕ, length, None, Err, ap, sym, subst}
use Rattle.rw_schema.specs.Presentation.{signature_of, ends_of_attribute}
use Rattle.rw_classes.specs.Clashes.{MergesEach, IsFirstOf, FirstOf}
use Rattle.rw_limits.specs.Pushouts.{PushesOut, IsPushoutOf}
use Rattle.rw_limits.specs.inner.Spans.{IsSpan}
use Rattle.rw_classes.specs.ClassLists.{number_lists, first_lists, AreClassesBy}
use Rattle.rw_classes.specs.declared.classes.Classes.{Classes}
use Rattle.rw_classes.specs.declared.merge.Merged.{Merged}
use Rattle.rw_limits.proofs.Spans.{span_of_tables, frame_of_tables, joinable, classes_of_frame}
use Rattle.rw_limits.proofs.MergedCells.{can_merge}
use Rattle.rw_limits.proofs.Pushes.{can_assemble, clash_pushes, pushout_is}
use Rattle.std.proofs.lemmas.List.{length-map}
use Rattle.rw_limits.proofs.colimit.pushout.Goals as goal

pub class_lists-requires-clause-joinable : goal.class_lists-requires-clause-joinable
class_lists-requires-clause-joinable c =
    let C = signature_of c.args.schema.now in
    let apex = c.args.apex.now in
    let left = c.args.left.now in
    let right = c.args.right.now in
    let f = c.args.f.now in
    let g = c.args.g.now in
    let span : IsSpan C apex.rows left.rows right.rows f g =
    span_of_tables C apex left right f g c.requires.apex c.requires.left c.requires.right c.rows-apex.ensures.category
    c.rows-apex.ensures.sound c.rows-left.ensures.sound c.rows-right.ensures.sound c.requires.f c.requires.g c.requires.few in
    rw (c.objects.ensures.value, c.rows-left.ensures.value, c.rows-right.ensures.value) (joinable C apex.rows left.rows right.rows f g span)

pub merge_each-requires-clause-cells : goal.merge_each-requires-clause-cells
merge_each-requires-clause-cells c =
    let C = signature_of c.args.schema.now in
    let apex = c.args.apex.now in
    let left = c.args.left.now in
    let right = c.args.right.now in
    let f = c.args.f.now in
    let g = c.args.g.now in
    let span : IsSpan C apex.rows left.rows right.rows f g =
    span_of_tables C apex left right f g c.requires.apex c.requires.left c.requires.right c.rows-apex.ensures.category
    c.rows-apex.ensures.sound c.rows-left.ensures.sound c.rows-right.ensures.sound c.requires.f c.requires.g c.requires.few in
    let classes : List Classes = c.in_ok-classes.classes.items in
    let long : length classes ≡ C.objects = c.in_ok-classes.ensures.lists ∙ c.objects.ensures.value in
    let divided : AreClassesBy C.objects left.rows right.rows f g (number_lists classes) (first_lists classes) =
    rw (← c.objects.ensures.value, ← c.rows-left.ensures.value, ← c.rows-right.ensures.value) c.in_ok-classes.ensures.classes in
    rw (c.attribute_list-attributes.ensures.value, c.rows-left.ensures.value, c.rows-right.ensures.value, c.as_slice.ensures.value)
    (can_merge C apex.rows left.rows right.rows f g span (number_lists classes) (first_lists classes)
    (length-map classes (λ (each : Classes). each.numbers.items) ∙ long) (length-map classes (λ (each : Classes). each.firsts.items) ∙ long)
    (classes_of_frame C apex.rows left.rows right.rows f g span (number_lists classes) (first_lists classes) divided))

pub returns-in-Some : goal.returns-in-Some
returns-in-Some c =
    let C = signature_of c.args.schema.now in
    let apex = c.args.apex.now in
    let left = c.args.left.now in
    let right = c.args.right.now in
    let f = c.args.f.now in
    let g = c.args.g.now in
    let span : IsSpan C apex.rows left.rows right.rows f g =
    span_of_tables C apex left right f g c.requires.apex c.requires.left c.requires.right c.rows-apex.ensures.category
    c.rows-apex.ensures.sound c.rows-left.ensures.sound c.rows-right.ensures.sound c.requires.f c.requires.g c.requires.few in
    let classes : List Classes = c.in_ok-classes.classes.items in
    let long : length classes ≡ C.objects = c.in_ok-classes.ensures.lists ∙ c.objects.ensures.value in
    let divided : AreClassesBy C.objects left.rows right.rows f g (number_lists classes) (first_lists classes) =
    rw (← c.objects.ensures.value, ← c.rows-left.ensures.value, ← c.rows-right.ensures.value) c.in_ok-classes.ensures.classes in
    let attributes = c.args.schema.now.attributes in
    let merged : List Merged = c.in_ok-merged.merged.items in
    let count : length C.attributes ≡ length attributes = length-map attributes ends_of_attribute in
    let merged_long : length merged ≡ length C.attributes = c.in_ok-merged.ensures.each ∙ ap length c.attribute_list-attributes.ensures.value ∙ sym count in
    let merges : MergesEach left.rows right.rows (number_lists classes) (first_lists classes) C.attributes merged =
    rw (← c.attribute_list-attributes.ensures.value, ← c.rows-left.ensures.value, ← c.rows-right.ensures.value, ← c.as_slice.ensures.value) c.in_ok-merged.ensures.merged in
    let clash = c.in-Some.clash in
    let first : IsFirstOf (length C.attributes) C.attributes merged clash =
    subst (λ (n : ℕ). IsFirstOf n C.attributes merged clash) (sym count)
    (rw (← c.attribute_list-attributes.ensures.value, ← c.as_slice-2.ensures.value) c.in-Some.ensures) in
    let fault = c.in_ok-fault_of.field-0 in
    subst (λ F. PushesOut C F (Err fault)) (sym (frame_of_tables C apex left right f g c.requires.apex c.requires.left c.requires.right))
    (clash_pushes C apex.rows left.rows right.rows f g span classes merged long divided merged_long merges clash first fault
    (rw (← c.rows-left.ensures.value, ← c.rows-right.ensures.value) c.in_ok-fault_of.ensures))

pub glued-requires : goal.glued-requires
glued-requires c =
    let C = signature_of c.args.schema.now in
    let apex = c.args.apex.now in
    let left = c.args.left.now in
    let right = c.args.right.now in
    let f = c.args.f.now in
    let g = c.args.g.now in
    let span : IsSpan C apex.rows left.rows right.rows f g =
    span_of_tables C apex left right f g c.requires.apex c.requires.left c.requires.right c.rows-apex.ensures.category
    c.rows-apex.ensures.sound c.rows-left.ensures.sound c.rows-right.ensures.sound c.requires.f c.requires.g c.requires.few in
    let classes : List Classes = c.in_ok-classes.classes.items in
    let long : length classes ≡ C.objects = c.in_ok-classes.ensures.lists ∙ c.objects.ensures.value in
    let divided : AreClassesBy C.objects left.rows right.rows f g (number_lists classes) (first_lists classes) =
    rw (← c.objects.ensures.value, ← c.rows-left.ensures.value, ← c.rows-right.ensures.value) c.in_ok-classes.ensures.classes in
    let attributes = c.args.schema.now.attributes in
    let merged : List Merged = c.in_ok-merged.merged.items in
    let count : length C.attributes ≡ length attributes = length-map attributes ends_of_attribute in
    let merged_long : length merged ≡ length C.attributes = c.in_ok-merged.ensures.each ∙ ap length c.attribute_list-attributes.ensures.value ∙ sym count in
    let merges : MergesEach left.rows right.rows (number_lists classes) (first_lists classes) C.attributes merged =
    rw (← c.attribute_list-attributes.ensures.value, ← c.rows-left.ensures.value, ← c.rows-right.ensures.value, ← c.as_slice.ensures.value) c.in_ok-merged.ensures.merged in
    let none : FirstOf (length C.attributes) C.attributes merged None =
    subst (λ (n : ℕ). FirstOf n C.attributes merged None) (sym count)
    (rw (← c.attribute_list-attributes.ensures.value, ← c.as_slice-2.ensures.value) c.in_default.ensures) in
    let few_objects : C.objects ≤ 64 = rw (← c.objects.ensures.value) c.objects.ensures.few in
    let few_attributes : length C.attributes ≤ 256 = rw count c.attribute_list-attributes.ensures.few in
    rw (c.rows-left.ensures.value, c.rows-right.ensures.value, c.as_slice-3.ensures.value, c.as_slice-4.ensures.value)
    (can_assemble C apex.rows left.rows right.rows f g span classes merged long divided merged_long merges none few_objects few_attributes)

pub returns : goal.returns
returns c =
    let C = signature_of c.args.schema.now in
    let apex = c.args.apex.now in
    let left = c.args.left.now in
    let right = c.args.right.now in
    let f = c.args.f.now in
    let g = c.args.g.now in
    let span : IsSpan C apex.rows left.rows right.rows f g =
    span_of_tables C apex left right f g c.requires.apex c.requires.left c.requires.right c.rows-apex.ensures.category
    c.rows-apex.ensures.sound c.rows-left.ensures.sound c.rows-right.ensures.sound c.requires.f c.requires.g c.requires.few in
    let classes : List Classes = c.in_ok-classes.classes.items in
    let long : length classes ≡ C.objects = c.in_ok-classes.ensures.lists ∙ c.objects.ensures.value in
    let divided : AreClassesBy C.objects left.rows right.rows f g (number_lists classes) (first_lists classes) =
    rw (← c.objects.ensures.value, ← c.rows-left.ensures.value, ← c.rows-right.ensures.value) c.in_ok-classes.ensures.classes in
    let attributes = c.args.schema.now.attributes in
    let merged : List Merged = c.in_ok-merged.merged.items in
    let count : length C.attributes ≡ length attributes = length-map attributes ends_of_attribute in
    let merged_long : length merged ≡ length C.attributes = c.in_ok-merged.ensures.each ∙ ap length c.attribute_list-attributes.ensures.value ∙ sym count in
    let merges : MergesEach left.rows right.rows (number_lists classes) (first_lists classes) C.attributes merged =
    rw (← c.attribute_list-attributes.ensures.value, ← c.rows-left.ensures.value, ← c.rows-right.ensures.value, ← c.as_slice.ensures.value) c.in_ok-merged.ensures.merged in
    let none : FirstOf (length C.attributes) C.attributes merged None =
    subst (λ (n : ℕ). FirstOf n C.attributes merged None) (sym count)
    (rw (← c.attribute_list-attributes.ensures.value, ← c.as_slice-2.ensures.value) c.in_default.ensures) in
    subst (λ F. IsPushoutOf C F c.in_ok-pushout.pushout) (sym (frame_of_tables C apex left right f g c.requires.apex c.requires.left c.requires.right))
    (pushout_is C apex.rows left.rows right.rows f g span classes merged long divided merged_long merges none c.in_ok-pushout.pushout
    (rw (← c.rows-left.ensures.value, ← c.rows-right.ensures.value, ← c.as_slice-3.ensures.value, ← c.as_slice-4.ensures.value) c.in_ok-pushout.ensures.table)
    (rw (← c.rows-left.ensures.value, ← c.as_slice-3.ensures.value) c.in_ok-pushout.ensures.left)
    (rw (← c.rows-left.ensures.value, ← c.as_slice-3.ensures.value) c.in_ok-pushout.ensures.right))
