-- The names of one attribute more.
use Rattle.std.proofs.Common.{ℕ, Option, Vec, Global, map}
use Rattle.rw_schema.specs.declared.atom.Atom.{Atom}
use Rattle.rw_schema.specs.declared.signature.AttrEnds.{AttrEnds}
use Rattle.rw_delta.proofs.Gathered.{gathered_more}
use Rattle.rw_delta.proofs.touched.gather_cells.Goals as goal

pub loop-place-preserved : goal.loop-place-preserved
loop-place-preserved c =
    gathered_more (map (λ (each : AttrEnds). each.object.0) c.args.attributes.now) (map (λ (list : Vec (ℕ × Option Atom) Global). list.items) c.args.cells.now) c.args.object c.loop-place.place
    c.args.names.now.items c.loop-place.names.items c.append_if.new.names.items (rw (c.holder_at.ensures, c.cells_at.ensures) at c.in_ok-append_if.ensures) c.loop-place.invariant
