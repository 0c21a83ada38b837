-- The first arrow that dangles is the first of those that are left.
use Rattle.std.proofs.Common.{◌≡◌, drop}
use Rattle.rw_schema.specs.First.{first_in}
use Rattle.rw_schema.specs.Presentation.{signature_of}
use Rattle.rw_redex.specs.Obstructions.{dangling, dangling_at}
use Rattle.rw_dpo.proofs.dangling.first_dangling.Given as goal

abbrev pub invariant-loop-number : goal.invariant-loop-number
invariant-loop-number g l =
    let C = signature_of l.schema in
    let X = g.P.Probe.instance l.probe in
    dangling C l.rule l.tuple X ≡ first_in (dangling_at l.rule l.tuple X) l.number (drop l.number C.arrows)
