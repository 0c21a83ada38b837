-- Where the maps end without a value, so does the cospan.
use Rattle.std.proofs.lemmas.Result.{err_from_is_err_and}
use Rattle.rw_schema.specs.Presentation.{signature_of}
use Rattle.rw_doc.proofs.Endings.{ends_first}
use Rattle.rw_docspan.specs.Spans as spec
use Rattle.rw_docspan.specs.Views.{members_of_frame, cospan_lists, three_lists, two_maps}
use Rattle.rw_docspan.proofs.cospan.read_pieces.Goals as goal

pub returns-in_err-maps-clause-gives : goal.returns-in_err-maps-clause-gives
returns-in_err-maps-clause-gives c =
    let p = err_from_is_err_and c.from_residual-in_err-maps.result c.from_residual-in_err-maps.ensures.1 in
    rw (p.1, p.2, c.in_ok-three.ensures.gives) (ends_first two_maps cospan_lists c.in_err-maps.field-0.0
    (spec.read_cospan_maps (signature_of c.args.schema.now) (members_of_frame c.args.members.now) (three_lists c.in_ok-three.three)) _ c.in_err-maps.ensures.gives)
