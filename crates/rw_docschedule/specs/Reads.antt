-- What is read of boxes, as contracts see it.
use Rattle.std.specs.Prelude.{map}
use Rattle.rw_sched.specs.Schedules.{ScheduleLists}
use Rattle.rw_docschedule.specs.declared.form.BoxForm as forms
use Rattle.rw_docschedule.specs.declared.schedule.Boxes as lists
use Rattle.rw_docschedule.specs.declared.wired.WiredBox as wired
use Rattle.rw_docschedule.specs.Boxes.{BoxForm, WiredBox}

abbrev pub form_of_box : forms.BoxForm → BoxForm
form_of_box form = record { kind = form.kind; to = form.to.items }

abbrev pub box_wired : wired.WiredBox → WiredBox
box_wired wired = record { kind = wired.kind; to = wired.to.items }

abbrev pub lists_of_boxes : lists.Boxes → ScheduleLists
lists_of_boxes lists = record { boxes = lists.boxes.items; wires = map (λ list. list.items) lists.wires.items }
