use Rattle.std.proofs.Common.{◌≡◌, ◌∙◌, None, ap, length, subst}
use Rattle.std.proofs.lemmas.List.{length-map}
use Rattle.std.proofs.lemmas.Result.{IfOk-weaker}
use Rattle.rw_schema.specs.Presentation.{signature_of}
use Rattle.rw_schema.specs.Signature.{Signature, IsCategory}
use Rattle.rw_table.specs.TableFaults.{table_fault}
use Rattle.rw_terms.specs.OpEntries.{entries}
use Rattle.rw_terms.specs.OpTables.{OpEntry, codes_of}
use Rattle.rw_document.specs.Models.{document_lists}
use Rattle.rw_app.specs.Runners.{rows_in}
use Rattle.rw_app.specs.Runs.{CanRun}
use Rattle.rw_app.proofs.Listable.{goals_of_sound, sound_can_run}
use Rattle.rw_app.proofs.Telling.{run_told}
use Rattle.rw_app.proofs.runner.run_document.Goals as goal

pub load-requires : goal.load-requires
load-requires g c = goals_of_sound (length (entries c.args.ops.now)) (document_lists c.args.document.now) c.requires

pub returns : goal.returns
returns g c =
    let document = document_lists c.args.document.now in
    let ops = entries c.args.ops.now in
    let codes = codes_of ops in
    let run = c.in_ok-ran.ensures in
    let category : IsCategory (signature_of document.schema) = subst (λ (C : Signature). IsCategory C) c.requires.table c.rows-rows.ensures.category in
    let instance : table_fault (signature_of document.schema) document.table.rows ≡ None = rw c.requires.table at c.rows-rows.ensures.sound in
    let can : CanRun (length codes) document =
    rw (length-map ops (λ (op : OpEntry). op.code)) (sound_can_run (length ops) document c.requires category instance) in
    IfOk-weaker c.finish.result _ _
    (λ answer is seed. run_told codes document c.args.fuel (rows_in c.in_ok-world.world) c.in_ok-ran.ran c.run_schedule.new.world run.0 run.1.0 _ can c.in_ok-world.ensures.rows run.1.1 is)
    c.finish.ensures
