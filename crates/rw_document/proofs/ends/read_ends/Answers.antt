-- The span is read, and then the cospan.
use Rattle.std.proofs.Common.{codes, option_map, refl}
use Rattle.std.proofs.lemmas.Result.{err_from_is_err_and}
use Rattle.serde_json.specs.Data.{Data}
use Rattle.serde_json.specs.Find.{get}
use Rattle.serde_json.specs.View.{view}
use Rattle.rw_schema.specs.Presentation.{signature_of}
use Rattle.rw_docspan.specs.Views.{cospan_lists, span_lists}
use Rattle.rw_docrule.proofs.FirstReadings.{ends_first}
use Rattle.rw_document.specs.Documents as spec
use Rattle.rw_document.specs.Views.{ends_read}
use Rattle.rw_document.proofs.ends.read_ends.Goals as goal

pub returns-in_err-span-clause-gives : goal.returns-in_err-span-clause-gives
returns-in_err-span-clause-gives c =
    let p = err_from_is_err_and c.from_residual.result c.from_residual.ensures.1 in
    let value : Data = view c.args.value.now in
    rw (p.1, p.2) (ends_first (option_map span_lists) ends_read c.in_err-span.field-0.0
    (spec.span_or_none (signature_of c.args.schema.now) (get (codes "span") value)) _ (rw c.get.ensures at c.in_err-span.ensures.gives))

pub returns-in_err-cospan-clause-gives : goal.returns-in_err-cospan-clause-gives
returns-in_err-cospan-clause-gives c =
    let p = err_from_is_err_and c.from_residual-in_err-cospan.result c.from_residual-in_err-cospan.ensures.1 in
    let value : Data = view c.args.value.now in
    rw (p.1, p.2, rw c.get.ensures at c.in_ok-span.ensures.gives) (ends_first (option_map cospan_lists) ends_read c.in_err-cospan.field-0.0
    (spec.cospan_or_none (signature_of c.args.schema.now) (get (codes "cospan") value)) _ (rw c.get-2.ensures at c.in_err-cospan.ensures.gives))

pub returns-clause-gives : goal.returns-clause-gives
returns-clause-gives c = rw (rw c.get.ensures at c.in_ok-span.ensures.gives, rw c.get-2.ensures at c.in_ok-cospan.ensures.gives) refl
