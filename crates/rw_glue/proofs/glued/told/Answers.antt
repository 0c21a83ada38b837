-- The first clash is told, or the change is made.
use Rattle.std.proofs.Common.{◌∙◌, ◌<◌, ℕ, Some, None, length, map, subst, sym}
use Rattle.std.proofs.lemmas.List.{length-map}
use Rattle.rw_schema.specs.Presentation.{signature_of}
use Rattle.rw_classes.specs.ClassLists.{first_lists, number_lists}
use Rattle.rw_classes.specs.Clashes.{IsFirstOf}
use Rattle.rw_glue.proofs.FoundClash.{class_within, first_of_schema, first_some, object_within, second_some}
use Rattle.rw_glue.proofs.glued.told.Goals as goal

-- the first clash of the schema's attributes
first_is : (g : _) (c : goal.In-Some g)
    → IsFirstOf (length (signature_of c.args.schema.now).attributes) (signature_of c.args.schema.now).attributes c.args.merged.now c.in-Some.clash
first_is g c =
    first_of_schema c.attribute_list.result.now c.args.schema.now.attributes c.args.merged.now (Some c.in-Some.clash) c.attribute_list.ensures.value (c.in-Some.ensures)

pub clash_end-requires-clause-object : goal.clash_end-requires-clause-object
clash_end-requires-clause-object g c =
    let within : c.in-Some.clash.object.0 < length c.args.schema.now.objects =
    object_within (signature_of c.args.schema.now) c.requires.site.category c.args.sides.now.rule.now c.args.sides.now.context.now c.args.sides.now.images c.args.sides.now.left c.args.sides.now.right
    (number_lists c.args.classes.now) (first_lists c.args.classes.now) c.args.merged.now (map (λ list. list.items) c.args.names.now) c.requires.are c.in-Some.clash (first_is g c) in
    subst (λ (n : ℕ). c.in-Some.clash.object.0 < n) (sym c.requires.are.named.count ∙ length-map c.args.names.now (λ list. list.items)) within

pub clash_end-requires-clause-class : goal.clash_end-requires-clause-class
clash_end-requires-clause-class g c =
    class_within (signature_of c.args.schema.now) c.requires.site.category c.args.sides.now.rule.now c.args.sides.now.context.now c.args.sides.now.images c.args.sides.now.left c.args.sides.now.right
    (number_lists c.args.classes.now) (first_lists c.args.classes.now) c.args.merged.now (map (λ list. list.items) c.args.names.now) c.requires.are c.in-Some.clash (first_is g c)

pub clash_end-requires-clause-first : goal.clash_end-requires-clause-first
clash_end-requires-clause-first g c =
    first_some (signature_of c.args.schema.now) c.requires.site.category c.args.sides.now.rule.now c.args.sides.now.context.now c.args.sides.now.images c.args.sides.now.left c.args.sides.now.right
    (number_lists c.args.classes.now) (first_lists c.args.classes.now) c.args.merged.now (map (λ list. list.items) c.args.names.now) c.requires.are c.in-Some.clash (first_is g c)

pub clash_end-requires-clause-second : goal.clash_end-requires-clause-second
clash_end-requires-clause-second g c =
    second_some (signature_of c.args.schema.now) c.requires.site.category c.args.sides.now.rule.now c.args.sides.now.context.now c.args.sides.now.images c.args.sides.now.left c.args.sides.now.right
    (number_lists c.args.classes.now) (first_lists c.args.classes.now) c.args.merged.now (map (λ list. list.items) c.args.names.now) c.requires.are c.in-Some.clash (first_is g c)

pub returns-in_ok-change_of-in-None : goal.returns-in_ok-change_of-in-None
returns-in_ok-change_of-in-None g c = record {
  numbers = number_lists c.args.classes.now;
  firsts = first_lists c.args.classes.now;
  merged = c.args.merged.now;
  names = map (λ list. list.items) c.args.names.now;
  are = c.requires.are;
  free = first_of_schema c.attribute_list.result.now c.args.schema.now.attributes c.args.merged.now None c.attribute_list.ensures.value (c.in-None.ensures);
  by = c.in_ok-change_of-in-None.ensures;
}
