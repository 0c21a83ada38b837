-- The entries so far have numbers.
use Rattle.std.proofs.Common.{◌≡◌, ◌<◌, Some, All, length}
use Rattle.rw_docpattern.specs.declared.entry.Entry.{Entry}
use Rattle.rw_docpattern.specs.Patterns as spec
use Rattle.rw_docpattern.proofs.named.entries_named.Given as goal

abbrev pub invariant-loop-entry : goal.invariant-loop-entry
invariant-loop-entry l = record {
  named : spec.entries_named l.schema.attributes l.yielded ≡ Some l.named.items;
  there : All (λ (entry : Entry). entry.attr.0 < length l.schema.attributes) l.named.items;
}
