-- All that is read is what is read of the items that are left, behind what was read so far.
use Rattle.std.proofs.Common.{◌≡◌, ◌++◌, length, map, All}
use Rattle.rw_schema.specs.Presentation.{signature_of}
use Rattle.rw_rule.specs.RuleParts.{lists_of_watch}
use Rattle.rw_doc.proofs.Readings.{ReadBehind}
use Rattle.rw_docwatch.specs.Known.{IsWatchRead}
use Rattle.rw_docwatch.specs.Watches as spec
use Rattle.rw_docwatch.proofs.watches.watches_of.Given as goal

abbrev pub invariant-loop-place : goal.invariant-loop-place
invariant-loop-place l = record {
  gives : ReadBehind (spec.read_watch l.schema l.fn.names) l.items l.place (map lists_of_watch l.watches.items);
  known : All (λ watch. IsWatchRead (signature_of l.schema) (lists_of_watch watch)) l.watches.items;
  names : l.names ≡ l.fn.names ++ spec.names_of_watches (map lists_of_watch l.watches.items);
  long : length l.watches.items ≡ l.place;
}
