-- All atoms fit where those that are left do.
use Rattle.std.proofs.Common.{◌≡◌, drop}
use Rattle.std.specs.List.{list_all}
use Rattle.rw_schema.specs.Presentation.{signature_of}
use Rattle.rw_docpattern.specs.Patterns as spec
use Rattle.rw_docpattern.proofs.checks.do_atoms_fit.Given as goal

abbrev pub invariant-loop-entry : goal.invariant-loop-entry
invariant-loop-entry l =
    list_all (spec.fits_atom (signature_of l.schema)) l.entries ≡ list_all (spec.fits_atom (signature_of l.schema)) (drop l.entry-index l.entries)
