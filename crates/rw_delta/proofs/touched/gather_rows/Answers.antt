-- The names of one arrow more.
use Rattle.std.proofs.Common.{ℕ, Vec, Global, map}
use Rattle.rw_schema.specs.declared.signature.ArrowEnds.{ArrowEnds}
use Rattle.rw_delta.proofs.Gathered.{gathered_more}
use Rattle.rw_delta.proofs.touched.gather_rows.Goals as goal

pub loop-place-preserved : goal.loop-place-preserved
loop-place-preserved c =
    gathered_more (map (λ (each : ArrowEnds). each.source.0) c.args.arrows.now) (map (λ (list : Vec (ℕ × ℕ) Global). list.items) c.args.rows.now) c.args.object c.loop-place.place
    c.args.names.now.items c.loop-place.names.items c.append_if.new.names.items (rw (c.source_at.ensures, c.rows_at.ensures) at c.in_ok-append_if.ensures) c.loop-place.invariant
