-- A sound document has a run, and it is the only one.
use Rattle.std.proofs.Common.{◌≡◌, None, length, subst}
use Rattle.rw_schema.specs.Presentation.{signature_of}
use Rattle.rw_schema.specs.Signature.{Signature, IsCategory}
use Rattle.rw_table.specs.TableFaults.{table_fault}
use Rattle.rw_document.specs.Models.{document_lists}
use Rattle.rw_app.proofs.Listable.{sound_can_run}
use Rattle.rw_app.proofs.OneRun.{one_run}
use Rattle.rw_app.proofs.SomeRun.{some_run}
use Rattle.rw_app.proofs.laws.has_one_run.Goals as goal

pub returns : goal.returns
returns c codes sound =
    let document = document_lists c.args.document.now in
    let category : IsCategory (signature_of document.schema) = subst (λ (C : Signature). IsCategory C) sound.table c.rows-rows.ensures.category in
    let instance : table_fault (signature_of document.schema) document.table.rows ≡ None = rw sound.table at c.rows-rows.ensures.sound in
    (some_run codes document c.args.fuel (sound_can_run (length codes) document sound category instance), one_run codes document c.args.fuel)
