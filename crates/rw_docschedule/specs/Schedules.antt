-- The schedule of a document, or its first fault.
use Rattle.std.specs.Prelude.{ℕ, zero, suc, Bool, ◌&&◌, nat_le, length, map, List, [], ◌∷◌, Option, Some, None, Result, Ok}
use Rattle.serde_json.specs.Data.{Data}
use Rattle.rw_schema.specs.declared.section.Section.TheVariants as sections
use Rattle.rw_sched.specs.declared.boxes.BoxKind.TheVariants as boxes
use Rattle.rw_sched.specs.declared.boxes.Pick.TheVariants as picks
use Rattle.rw_sched.specs.Schedules.{ScheduleLists}
use Rattle.rw_doc.specs.declared.fault.DocFault.{DocFault}
use Rattle.rw_doc.specs.Chain.{and_then, checked, each_in, some_or}
use Rattle.rw_doc.specs.Faults.{fault_of}
use Rattle.rw_doc.specs.Json.{as_list}
use Rattle.rw_docschedule.specs.Boxes.{WiredBox, read_box}

-- the schedule of boxes with their wires
abbrev pub schedule_of : List WiredBox → ScheduleLists
schedule_of wired = record { boxes = map (λ (box : WiredBox). box.kind) wired; wires = map (λ (box : WiredBox). box.to) wired }

-- where no schedule is written: the first rule is applied until it fails, and then comes the exit; without rules the exit
-- stands alone
abbrev pub default_schedule : ℕ → ScheduleLists
default_schedule zero = record { boxes = boxes.Exit ∷ []; wires = [] ∷ [] }
default_schedule (suc others) = record { boxes = boxes.Rule 0 picks.First ∷ boxes.Exit ∷ []; wires = (0 ∷ 1 ∷ []) ∷ [] ∷ [] }

-- there are 1 to 1,024 boxes
abbrev pub is_box_count : ℕ → Bool
is_box_count count = nat_le 1 count && nat_le count 1024

-- the list of boxes: codes 2 and 4
abbrev pub read_box_list : Data → Result (List Data) DocFault
read_box_list value = and_then (some_or (fault_of 2 sections.Boxes) (as_list value)) (λ items.
    checked (fault_of 4 sections.Boxes) (is_box_count (length items)) (Ok items))

-- the boxes, over so many rules and the names of the kept lists
abbrev pub read_boxes : ℕ → List (List ℕ) → List Data → Result ScheduleLists DocFault
read_boxes rules names items = and_then (each_in (read_box rules names (length items)) 0 items) (λ wired. Ok (schedule_of wired))

-- the schedule that is written, or the default one
abbrev pub read_schedule : ℕ → List (List ℕ) → Option Data → Result ScheduleLists DocFault
read_schedule rules names None = Ok (default_schedule rules)
read_schedule rules names (Some value) = and_then (read_box_list value) (read_boxes rules names)
