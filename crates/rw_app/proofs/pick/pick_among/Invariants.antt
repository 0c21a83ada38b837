-- The matches that were tried are refused, each with its obstruction.
use Rattle.std.proofs.Common.{◌≡◌, take}
use Rattle.rw_schema.specs.Presentation.{signature_of}
use Rattle.rw_columns.specs.Kept.{lists_of_columns}
use Rattle.rw_terms.specs.OpEntries.{entries}
use Rattle.rw_terms.specs.OpTables.{codes_of}
use Rattle.rw_app.specs.Runs.{AreRefused, tuples_of}
use Rattle.rw_app.proofs.pick.pick_among.Given as goal

abbrev pub invariant-loop-tuple : goal.invariant-loop-tuple
invariant-loop-tuple g l = record {
  tuples : tuples_of l.refused.items ≡ take l.tuple-index l.found;
  refused : AreRefused (signature_of l.schema) (codes_of (entries l.ops)) l.rule (lists_of_columns l.columns) l.refused.items;
}
