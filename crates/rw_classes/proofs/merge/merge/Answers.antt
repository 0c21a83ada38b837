use Rattle.std.proofs.Common.{◌≡◌, ◌++◌, ℕ, List, Option, None, length, subst, ◌∙◌, sym, arith}
use Rattle.std.proofs.lemmas.Grind.{common_steps}
use Rattle.rw_schema.specs.declared.atom.Atom.{Atom}
use Rattle.rw_classes.specs.Merging.{AreMerged, cell_at}
use Rattle.rw_classes.specs.inner.Merging.{IsLeastDifference, LeastDifference}
use Rattle.rw_classes.proofs.Merging.{clash_from_difference, no_clash_before, merged_from_firsts}
use Rattle.rw_classes.proofs.merge.merge.Goals as goal

pub returns-in-Some : goal.returns-in-Some
returns-in-Some c =
    let cells : ℕ → Option Atom = cell_at (c.args.left.now ++ c.args.right.now) in
    let numbers : List ℕ = c.args.numbers.now in
    let firsts : List (Option ℕ) = c.set_firsts.new.firsts in
    let done : c.deref.result.now ≡ firsts = grind (arith, common_steps) in
    let least : IsLeastDifference cells numbers firsts (length numbers) c.in-Some.difference = rw done at c.in-Some.ensures in (
      clash_from_difference cells numbers firsts c.in-Some.difference c.set_firsts.ensures.firsts least,
      no_clash_before cells numbers firsts c.in-Some.difference c.set_firsts.ensures.firsts least,
    )

pub returns-in-None : goal.returns-in-None
returns-in-None c =
    let cells : ℕ → Option Atom = cell_at (c.args.left.now ++ c.args.right.now) in
    let numbers : List ℕ = c.args.numbers.now in
    let firsts : List (Option ℕ) = c.set_firsts.new.firsts in
    let done : c.deref.result.now ≡ firsts = grind (arith, common_steps) in
    let each : length firsts ≡ c.args.classes = grind (arith, common_steps) in
    let none : LeastDifference cells numbers firsts (length numbers) None = rw done at c.in-None.ensures in
    subst (AreMerged cells numbers c.args.classes) (sym done ∙ c.deref.ensures.value)
    (merged_from_firsts cells numbers c.args.classes firsts each c.set_firsts.ensures.firsts none)
