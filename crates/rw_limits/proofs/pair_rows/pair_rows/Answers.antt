-- One row more, for one arrow more.
use Rattle.std.proofs.Common.{◌≡◌, ◌++◌, ◌∷◌, [], ℕ, map, arith, Vec, Global}
use Rattle.std.proofs.lemmas.Grind.{common_steps}
use Rattle.rw_schema.specs.Presentation.{ends_of_arrow}
use Rattle.rw_spec.specs.Tabled.{instance_of_table}
use Rattle.rw_limits.specs.inner.PairLists.{row_of_pairs}
use Rattle.rw_limits.proofs.ListsMade.{list_pushed}
use Rattle.rw_limits.proofs.pair_rows.pair_rows.Goals as goal

pub loop-place-preserved : goal.loop-place-preserved
loop-place-preserved c =
    let row = c.in_ok-arrow_row.field-0 in
    let pushed : c.push.new.self.items ≡ c.loop-place.rows.items ++ row ∷ [] = grind (arith, common_steps) in
    list_pushed (λ (list : Vec ℕ Global). list.items)
    (row_of_pairs (instance_of_table c.args.left.now) (instance_of_table c.args.right.now) (map (λ (list : Vec (ℕ × ℕ) Global). list.items) c.args.pairs.now))
    ends_of_arrow c.arrow_list-arrows.result.now c.loop-place.place c.index-arrows-place.result c.loop-place.rows.items c.push.new.self.items row
    c.loop-place-test.true c.index-arrows-place.is c.loop-place.invariant pushed c.in_ok-arrow_row.ensures
