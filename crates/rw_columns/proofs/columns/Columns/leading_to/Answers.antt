-- The places of the number in the arrow's column, where it may stand there.
use Rattle.std.proofs.Common.{◌∙◌, ap, arith}
use Rattle.rw_column.specs.Threads.{Threaded, places_from}
use Rattle.rw_columns.proofs.Changed.{preimage_none}
use Rattle.rw_columns.proofs.Columned.{preimage_places}
use Rattle.rw_columns.proofs.columns.Columns.leading_to.Goals as goal

pub returns-then-number-targets-clause-walk : goal.returns-then-number-targets-clause-walk
returns-then-number-targets-clause-walk c =
    let column = c.row-column.ensures.column in
    let targets = c.targets.ensures ∙ ap (λ (each : Threaded). each.targets) column in
    c.new.ensures ∙ ap (λ (each : Threaded). places_from each.values c.args.number 0) column
    ∙ preimage_places c.args.self.now c.row-column.ensures.sound c.args.arrow.0 c.requires c.args.number (omega (arith, c.if-number-targets.true, targets))

pub returns-else-number-targets-clause-walk : goal.returns-else-number-targets-clause-walk
returns-else-number-targets-clause-walk c =
    let column = c.row-column.ensures.column in
    let targets = c.targets.ensures ∙ ap (λ (each : Threaded). each.targets) column in
    preimage_none c.args.self.now c.row-column.ensures.sound c.args.arrow.0 c.requires c.args.number (omega (arith, c.if-number-targets.false, targets))
