-- The cells of the classes can be merged, and the classes named.
use Rattle.std.proofs.Common.{◌≡◌, ◌∙◌, ℕ, List, [], Some, ap, length, map, slice_get, subst, sym, arith}
use Rattle.std.proofs.lemmas.List.{length-map}
use Rattle.rw_schema.specs.declared.parts.AttrDef.{AttrDef}
use Rattle.rw_schema.specs.Presentation.{ends_of_attribute, signature_of}
use Rattle.rw_classes.specs.ClassLists.{first_lists, number_lists}
use Rattle.rw_classes.specs.Clashes.{MergesEach}
use Rattle.rw_columns.specs.inner.Filled.{AreAll}
use Rattle.rw_glue.specs.inner.Names.{AreClassNames}
use Rattle.rw_delta.specs.ContextLists.{ContextLists}
use Rattle.rw_glue.proofs.Ready.{can_merge, nameable}
use Rattle.rw_glue.proofs.glued.compared.Goals as goal

pub merge_each-requires-clause-cells : goal.merge_each-requires-clause-cells
merge_each-requires-clause-cells g c place ends there =
    can_merge (signature_of c.args.schema.now) c.args.sides.now.rule.now c.args.sides.now.tuple.now (g.P.Probe.instance c.args.probe.now) c.args.sides.now.context.now c.args.sides.now.values.now c.args.sides.now.images c.args.sides.now.left c.args.sides.now.right c.requires.site c.requires.sides
    (number_lists c.args.classes.now) (first_lists c.args.classes.now) c.requires.classes
    (length-map c.args.classes.now (λ each. each.numbers.items) ∙ c.requires.lists) (length-map c.args.classes.now (λ each. each.firsts.items) ∙ c.requires.lists) place ends
    (subst (λ (all : List AttrDef). slice_get (map ends_of_attribute all) place ≡ Some ends) c.attribute_list-attributes.ensures.value there)

pub name_lists-requires-clause-few : goal.name_lists-requires-clause-few
name_lists-requires-clause-few g c = omega (arith, c.requires.lists, c.arrow_list-arrows.ensures.objects)

pub name_lists-requires-clause-objects : goal.name_lists-requires-clause-objects
name_lists-requires-clause-objects g c object within =
    rw (c.as_slice-next.ensures.value, ap (λ (all : ContextLists). all.next) c.context.view_is)
    (nameable (signature_of c.args.schema.now) c.args.sides.now.rule.now c.args.sides.now.tuple.now (g.P.Probe.instance c.args.probe.now) c.args.sides.now.context.now c.args.sides.now.values.now c.args.sides.now.images c.args.sides.now.left c.args.sides.now.right c.requires.site c.requires.sides
    (number_lists c.args.classes.now) (first_lists c.args.classes.now) c.requires.classes
    (length-map c.args.classes.now (λ each. each.numbers.items) ∙ c.requires.lists) (length-map c.args.classes.now (λ each. each.firsts.items) ∙ c.requires.lists) object (rw (← c.requires.lists) within))

pub told-requires-clause-are : goal.told-requires-clause-are
told-requires-clause-are g c =
    let numbers : List (List ℕ) = number_lists c.args.classes.now in
    let firsts : List (List ℕ) = first_lists c.args.classes.now in
    rw (c.as_slice.ensures.value, c.as_slice-2.ensures.value) (record {
      classes = c.requires.classes;
      lists = length-map c.args.classes.now (λ each. each.numbers.items) ∙ c.requires.lists;
      each = c.in_ok-merged.ensures.each ∙ ap length c.attribute_list-attributes.ensures.value ∙ sym (length-map c.args.schema.now.attributes ends_of_attribute);
      merges = subst (λ (all : List AttrDef). MergesEach c.args.sides.now.left c.args.sides.now.right numbers firsts (map ends_of_attribute all) c.in_ok-merged.merged.items)
          c.attribute_list-attributes.ensures.value c.in_ok-merged.ensures.merged;
      named = subst (λ (n : ℕ). AreAll [] (AreClassNames c.args.sides.now.rule.now c.args.sides.now.context.now.next c.args.sides.now.left.names firsts) n (map (λ list. list.items) c.in_ok-names.names.items))
          c.requires.lists
          (rw (c.as_slice-next.ensures.value, ap (λ (all : ContextLists). all.next) c.context.view_is) at c.in_ok-names.ensures);
    })
