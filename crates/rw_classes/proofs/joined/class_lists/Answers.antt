-- The classes of one object more.
use Rattle.std.proofs.Common.{◌≡◌, ◌+◌, [], ◌∷◌, ◌++◌, ap, ◌∙◌, arith}
use Rattle.std.proofs.lemmas.Grind.{common_steps}
use Rattle.std.proofs.lemmas.List.{length_push}
use Rattle.rw_classes.specs.Classes.{AreClasses}
use Rattle.rw_classes.specs.ClassLists.{part_count, joined_by}
use Rattle.rw_classes.proofs.ClassLists.{classes_more}
use Rattle.rw_classes.proofs.joined.class_lists.Goals as goal

pub loop-place-preserved : goal.loop-place-preserved
loop-place-preserved c =
    let place = c.loop-place.place in
    let left = c.args.left.now in
    let right = c.args.right.now in
    let f = c.args.f.now in
    let g = c.args.g.now in
    let new = c.in_ok-classes_of.field-0 in
    let pushed : c.push.new.self.items ≡ c.loop-place.classes.items ++ new ∷ [] = grind (arith, common_steps) in
    let here : AreClasses (part_count left right place) (joined_by left right f g place) new.numbers.items new.firsts.items =
    rw (← c.names.ensures, ← c.names-in-loop-place.ensures, ← c.images.ensures, ← c.images-in-loop-place.ensures) c.in_ok-classes_of.ensures in
    rw pushed (record {
      lists = length_push c.loop-place.classes.items new ∙ ap (λ n. n + 1) c.loop-place.invariant.lists;
      classes = classes_more left right f g c.loop-place.classes.items new place c.loop-place.invariant.lists c.loop-place.invariant.classes here;
    })
