-- All entries are on parts where those that are left are.
use Rattle.std.proofs.Common.{◌≡◌, [], drop}
use Rattle.std.specs.List.{list_all}
use Rattle.rw_schema.specs.Presentation.{signature_of}
use Rattle.rw_docpattern.specs.Bare.{lists_of}
use Rattle.rw_docpattern.specs.Patterns as spec
use Rattle.rw_docpattern.proofs.checks.are_on_parts.Given as goal

abbrev pub invariant-loop-entry : goal.invariant-loop-entry
invariant-loop-entry l =
    let lists = lists_of (signature_of l.schema) l.sizes [] in
    list_all (spec.is_on_part lists) l.entries ≡ list_all (spec.is_on_part lists) (drop l.entry-index l.entries)
