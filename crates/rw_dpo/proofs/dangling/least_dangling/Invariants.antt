-- The least name that leads to a removed part so far.
use Rattle.std.proofs.Common.{◌≡◌, find}
use Rattle.std.specs.List.{range_with_len}
use Rattle.rw_schema.specs.Presentation.{ends_of_arrow}
use Rattle.rw_dpo.specs.inner.Dangling.{dangles_to}
use Rattle.rw_dpo.proofs.dangling.least_dangling.Given as goal

abbrev pub invariant-loop-part : goal.invariant-loop-part
invariant-loop-part g l =
    let X = g.P.Probe.instance l.probe in
    l.least ≡ find (dangles_to l.rule l.tuple X l.arrow.0 (ends_of_arrow l.ends) (range_with_len 0 l.part)) (X.names l.ends.source.0)
