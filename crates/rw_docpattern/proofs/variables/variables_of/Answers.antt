-- An entry with a new name is put behind the others, and one without changes nothing.
use Rattle.std.proofs.Common.{sym}
use Rattle.rw_docpattern.proofs.FirstPlaces.{met_none, met_same, met_more}
use Rattle.rw_docpattern.proofs.variables.variables_of.Goals.{in-Some+in_ok-push+in_ok-push-2, in_default}
use Rattle.rw_docpattern.proofs.variables.variables_of.Goals as goal

pub loop-entry-init : goal.loop-entry-init
loop-entry-init c = rw (c.new-names.ensures, c.new-kinds.ensures.items) (met_none c.args.schema.now.attributes c.args.entries.now)

pub loop-entry-preserved : goal.loop-entry-preserved
loop-entry-preserved c =
    elim c.match-new_name.branch [
      | in-Some+in_ok-push+in_ok-push-2 w ↦
          rw (w.names-is, w.kinds-is, w.in_ok-push.ensures.ok, w.as_str.ensures, w.in_ok-push-2.ensures.items, w.kind_of.ensures)
          (met_more c.args.schema.now.attributes c.args.entries.now c.loop-entry.entry-index c.loop-entry.names c.loop-entry.kinds.items c.entry-item.result w.in-Some.name.now
          c.loop-entry.invariant c.loop-entry-test.true c.entry-item.is (sym w.in-Some.ensures.name))
      | in_default w ↦
          rw (w.names-is, w.kinds-is)
          (met_same c.args.schema.now.attributes c.args.entries.now c.loop-entry.entry-index c.loop-entry.names c.loop-entry.kinds.items c.entry-item.result
          c.loop-entry.invariant c.loop-entry-test.true c.entry-item.is (sym w.in_default.ensures.name))
    ]
