-- The firings so far lead to the present state, from which each run goes on.
use Rattle.std.proofs.Common.{List}
use Rattle.rw_terms.specs.OpEntries.{entries}
use Rattle.rw_terms.specs.OpTables.{codes_of}
use Rattle.rw_document.specs.Models.{document_lists}
use Rattle.rw_app.specs.Runners.{HasBegun, IsWorld, rows_in}
use Rattle.rw_app.specs.Runs.{Firing}
use Rattle.rw_app.proofs.runner.run_rule.Given as goal

abbrev pub invariant-loop-left : goal.invariant-loop-left
invariant-loop-left g l = record {
  firings : List Firing;
  begun : HasBegun (codes_of (entries l.ops)) (document_lists l.document) l.fn.fuel l.left (rows_in l.initial.world) (rows_in l.world) l.text.items firings;
  world : IsWorld (document_lists l.document) l.world;
}

abbrev pub decreases-loop-left : goal.decreases-loop-left
decreases-loop-left g l = l.left
