-- The names are gathered from the rows and the cells.
use Rattle.std.proofs.Common.{ℕ, Option, Vec, Global, map}
use Rattle.rw_schema.specs.declared.atom.Atom.{Atom}
use Rattle.rw_schema.specs.declared.signature.ArrowEnds.{ArrowEnds}
use Rattle.rw_schema.specs.declared.signature.AttrEnds.{AttrEnds}
use Rattle.std.proofs.lemmas.List.{length-map}
use Rattle.rw_delta.proofs.Gathered.{touched_from}
use Rattle.rw_delta.proofs.touched.touched_names.Goals as goal

pub returns : goal.returns
returns c =
    let source = λ (each : ArrowEnds). each.source.0 in
    let holder = λ (each : AttrEnds). each.object.0 in
    touched_from (map source c.args.arrows.now) (map (λ (list : Vec (ℕ × ℕ) Global). list.items) c.args.rows.now)
    (map holder c.args.attributes.now) (map (λ (list : Vec (ℕ × Option Atom) Global). list.items) c.args.cells.now)
    c.args.object c.gather_rows.new.names.items c.gather_cells.new.names.items c.put_in_order.new.names.items
    (rw (length-map c.args.arrows.now source) (rw c.new-names.ensures.items at c.in_ok-gather_rows.ensures))
    (rw (length-map c.args.attributes.now holder) c.in_ok-gather_cells.ensures) c.put_in_order.ensures
