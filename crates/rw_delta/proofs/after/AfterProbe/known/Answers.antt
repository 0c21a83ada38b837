-- What the change leaves has ascending names.
use Rattle.std.proofs.Common.{subst}
use Rattle.rw_columns.specs.ChangedColumns.{FitsColumns}
use Rattle.rw_delta.specs.After.{ChangedColumns}
use Rattle.rw_delta.proofs.Live.{ascend_after}
use Rattle.rw_delta.proofs.after.AfterProbe.known.Goals as goal

pub returns-clause-ascend : goal.returns-clause-ascend
returns-clause-ascend c =
    ascend_after c.args.self.now.columns c.args.self.now.change (subst (λ (after : ChangedColumns). FitsColumns after.columns after.change) c.self.view_is c.self.invariant)
