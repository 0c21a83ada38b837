-- All sets fit where those that are left do.
use Rattle.std.proofs.Common.{◌≡◌, drop}
use Rattle.std.specs.List.{list_all}
use Rattle.rw_schema.specs.Presentation.{signature_of}
use Rattle.rw_terms.specs.OpEntries.{entries as operations}
use Rattle.rw_docpattern.specs.Reads.{pattern_read}
use Rattle.rw_docpattern.specs.Sets as spec
use Rattle.rw_docpattern.proofs.fits.do_fit.Given as goal

abbrev pub invariant-loop-set : goal.invariant-loop-set
invariant-loop-set g l =
    let test = spec.fits_left (signature_of l.schema) (operations l.ops) (pattern_read l.left) in
    list_all test l.sets ≡ list_all test (drop l.set-index l.sets)
