use Rattle.std.proofs.Common.{◌≡◌, ℕ, List, length, subst, sym, ap, ◌∙◌, arith}
use Rattle.std.proofs.lemmas.Grind.{common_steps}
use Rattle.std.proofs.lemmas.Result.{IfOk-weaker}
use Rattle.std.specs.List.{range_with_len}
use Rattle.std.proofs.lemmas.List.FromFn.{length-range_with_len}
use Rattle.rw_classes.specs.Classes.{AreClasses}
use Rattle.rw_classes.specs.inner.Links.{AreUnited, AreRootClasses, Descends}
use Rattle.rw_classes.proofs.Numbering.{singletons_descend, classes_from_trees}
use Rattle.rw_classes.proofs.classes.join.Goals as goal

pub unite_all-requires-clause-descends : goal.unite_all-requires-clause-descends
unite_all-requires-clause-descends c =
    let start : c.deref_mut.result.now ≡ range_with_len 0 c.args.n = grind (arith, common_steps) in
    subst Descends (sym start) (singletons_descend c.args.n)

pub unite_all-requires-clause-within : goal.unite_all-requires-clause-within
unite_all-requires-clause-within c =
    let start : c.deref_mut.result.now ≡ range_with_len 0 c.args.n = grind (arith, common_steps) in
    let long : length c.deref_mut.result.now ≡ c.args.n = ap length start ∙ length-range_with_len 0 c.args.n in
    rw long c.requires

pub number_trees-requires-clause-few : goal.number_trees-requires-clause-few
number_trees-requires-clause-few c =
    let start : c.deref_mut.result.now ≡ range_with_len 0 c.args.n = grind (arith, common_steps) in
    let done : c.deref.result.now ≡ c.unite_all.new.parents = grind (arith, common_steps) in
    let long : length c.deref.result.now ≡ c.args.n = ap length done ∙ c.unite_all.ensures.same ∙ ap length start ∙ length-range_with_len 0 c.args.n in
    omega arith

pub returns : goal.returns
returns c =
    let start : c.deref_mut.result.now ≡ range_with_len 0 c.args.n = grind (arith, common_steps) in
    let done : c.deref.result.now ≡ c.unite_all.new.parents = grind (arith, common_steps) in
    let parents : List ℕ = c.deref.result.now in
    let united : AreUnited c.args.pairs.now (range_with_len 0 c.args.n) parents = rw (done, ← start) c.unite_all.ensures in
    IfOk-weaker c.number_trees.result (λ classes. AreRootClasses parents (length parents) classes.numbers.items classes.firsts.items)
    (λ classes. AreClasses c.args.n c.args.pairs.now classes.numbers.items classes.firsts.items)
    (λ classes trees. classes_from_trees c.args.n c.args.pairs.now parents classes.numbers.items classes.firsts.items united trees)
    c.number_trees.ensures
