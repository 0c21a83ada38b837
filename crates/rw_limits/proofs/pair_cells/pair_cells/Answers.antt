-- One list of cells more, for one attribute more.
use Rattle.std.proofs.Common.{◌≡◌, ◌++◌, ◌∷◌, [], ℕ, map, Option, arith, Vec, Global}
use Rattle.std.proofs.lemmas.Grind.{common_steps}
use Rattle.rw_schema.specs.declared.atom.Atom.{Atom}
use Rattle.rw_schema.specs.Presentation.{ends_of_attribute}
use Rattle.rw_spec.specs.Tabled.{instance_of_table}
use Rattle.rw_limits.specs.inner.PairLists.{cells_of_pairs}
use Rattle.rw_limits.proofs.ListsMade.{list_pushed}
use Rattle.rw_limits.proofs.pair_cells.pair_cells.Goals as goal

pub loop-place-preserved : goal.loop-place-preserved
loop-place-preserved c =
    let list = c.in_ok-attribute_cells.field-0 in
    let pushed : c.push.new.self.items ≡ c.loop-place.cells.items ++ list ∷ [] = grind (arith, common_steps) in
    list_pushed (λ (list : Vec (Option Atom) Global). list.items)
    (cells_of_pairs (instance_of_table c.args.left.now) (instance_of_table c.args.right.now) (map (λ (list : Vec (ℕ × ℕ) Global). list.items) c.args.pairs.now))
    ends_of_attribute c.attribute_list-attributes.result.now c.loop-place.place c.index-attributes-place.result c.loop-place.cells.items c.push.new.self.items list
    c.loop-place-test.true c.index-attributes-place.is c.loop-place.invariant pushed c.in_ok-attribute_cells.ensures
