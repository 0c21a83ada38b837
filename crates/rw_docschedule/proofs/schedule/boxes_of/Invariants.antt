-- The boxes so far were read one after the other, each with its wires.
use Rattle.std.proofs.Common.{◌≡◌, List, length, map}
use Rattle.rw_doc.proofs.Readings.{ReadAt}
use Rattle.rw_docschedule.specs.Boxes.{WiredBox, read_box}
use Rattle.rw_docschedule.proofs.schedule.boxes_of.Given as goal

abbrev pub invariant-loop-place : goal.invariant-loop-place
invariant-loop-place l = (found : List WiredBox)
    × ReadAt (read_box l.rules l.names (length l.items)) l.items l.place found
    × (l.boxes.items ≡ map (λ (box : WiredBox). box.kind) found)
    × (map (λ list. list.items) l.wires.items ≡ map (λ (box : WiredBox). box.to) found)
