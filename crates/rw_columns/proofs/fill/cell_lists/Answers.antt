-- The cells of one attribute more.
use Rattle.std.proofs.Common.{◌≡◌, ◌∙◌, ◌++◌, ◌∷◌, [], Option, Vec, Global, map, ap, arith}
use Rattle.std.proofs.lemmas.List.{map-append}
use Rattle.rw_schema.specs.declared.atom.Atom.{Atom}
use Rattle.rw_schema.specs.Presentation.{signature_of}
use Rattle.rw_columns.specs.inner.Filled.{AreCellsOf}
use Rattle.rw_columns.proofs.Filled.{all_more}
use Rattle.rw_columns.proofs.fill.cell_lists.Goals as goal

pub loop-place-preserved : goal.loop-place-preserved
loop-place-preserved c =
    let items = λ (list : Vec (Option Atom) Global). list.items in
    let list = c.in_ok-cells_of.field-0 in
    let pushed : c.push.new.self.items ≡ c.loop-place.lists.items ++ list ∷ [] = grind arith in
    all_more [] (AreCellsOf (signature_of c.args.schema.now) c.args.rows.now) c.loop-place.place (map items c.loop-place.lists.items)
    (map items c.push.new.self.items) list.items (ap (map items) pushed ∙ map-append items c.loop-place.lists.items (list ∷ []))
    c.loop-place.invariant c.in_ok-cells_of.ensures
