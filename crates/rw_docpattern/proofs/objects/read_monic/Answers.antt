-- What is read has one mark for each object.
use Rattle.std.proofs.Common.{◌≡◌, ◌∙◌, Some, option_map, ap, sym}
use Rattle.rw_docpattern.specs.Objects.{marks_named}
use Rattle.rw_docpattern.proofs.Marks.{marks_long}
use Rattle.rw_docpattern.proofs.objects.read_monic.Goals as goal

pub returns-in-Some-clause-long : goal.returns-in-Some-clause-long
returns-in-Some-clause-long c =
    let named : marks_named c.args.schema.now.objects c.args.names.now ≡ Some c.in-Some.marks.items =
    sym c.in_ok-marks.ensures ∙ ap (option_map (λ marks. marks.items)) c.in-Some.is in
    marks_long c.args.schema.now.objects c.args.names.now c.in-Some.marks.items named
