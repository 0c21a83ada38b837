-- The change can be made.
use Rattle.std.proofs.Common.{◌≡◌, ◌∙◌, ℕ, List, [], length, map, subst, sym}
use Rattle.std.proofs.lemmas.List.{length-map}
use Rattle.rw_schema.specs.Presentation.{signature_of}
use Rattle.rw_columns.specs.inner.Filled.{AreAll}
use Rattle.rw_classes.specs.ClassLists.{first_lists, number_lists}
use Rattle.rw_glue.specs.inner.Names.{AreMoved, ArePlaced}
use Rattle.rw_glue.proofs.Ready.{can_change}
use Rattle.rw_glue.proofs.glued.change_of.Goals as goal

pub made-requires-clause-can : goal.made-requires-clause-can
made-requires-clause-can g c =
    let touched : List (List ℕ) = c.args.sides.now.left.names in
    let numbers : List (List ℕ) = number_lists c.args.classes.now in
    let names : List (List ℕ) = map (λ list. list.items) c.args.names.now in
    let many : length c.args.classes.now ≡ length c.args.schema.now.objects = sym (length-map c.args.classes.now (λ each. each.numbers.items)) ∙ c.requires.are.lists in
    rw (c.requires.probe, c.as_slice.ensures.value, c.as_slice-2.ensures.value)
    (can_change (signature_of c.args.schema.now) c.args.sides.now.rule.now c.args.sides.now.tuple.now (g.P.Probe.instance c.args.probe.now) c.args.sides.now.context.now c.args.sides.now.values.now c.args.sides.now.images c.args.sides.now.left c.args.sides.now.right c.requires.site c.requires.sides
    numbers (first_lists c.args.classes.now) c.requires.are.classes c.requires.are.lists
    (length-map c.args.classes.now (λ each. each.firsts.items) ∙ many) names c.requires.are.named
    (map (λ list. list.items) c.in_ok-moved.moved.items) (subst (λ (n : ℕ). AreAll [] (AreMoved touched numbers names) n (map (λ list. list.items) c.in_ok-moved.moved.items)) many c.in_ok-moved.ensures)
    (map (λ list. list.items) c.in_ok-placed.placed.items) (subst (λ (n : ℕ). AreAll [] (ArePlaced touched numbers names) n (map (λ list. list.items) c.in_ok-placed.placed.items)) many c.in_ok-placed.ensures)
    c.args.merged.now c.requires.are.each)
