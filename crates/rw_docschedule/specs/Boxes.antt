-- The boxes of a schedule, over the JSON values that they are written in, or their first fault.
use Rattle.std.specs.Prelude.{◌==◌, ℕ, Bool, true, ◌&&◌, nat_lt, length, codes, List, [], ◌∷◌, Option, Some, None, option_and_then, option_map, Result, Ok, if◌then◌else◌, position}
use Rattle.std.specs.List.{list_all}
use Rattle.std.specs.Str.{bytes_eq}
use Rattle.serde_json.specs.Data.{Data}
use Rattle.serde_json.specs.Find.{as_str, get}
use Rattle.rw_schema.specs.declared.section.Section.TheVariants as sections
use Rattle.rw_sched.specs.declared.boxes.BoxKind.{BoxKind}
use Rattle.rw_sched.specs.declared.boxes.BoxKind.TheVariants as boxes
use Rattle.rw_sched.specs.declared.boxes.Cmp.{Cmp}
use Rattle.rw_sched.specs.declared.boxes.Cmp.TheVariants as cmps
use Rattle.rw_sched.specs.declared.boxes.Pick.{Pick}
use Rattle.rw_sched.specs.declared.boxes.Pick.TheVariants as picks
use Rattle.rw_sched.specs.ScheduleFaults.{is_box}
use Rattle.rw_sched.specs.Schedules.{ports}
use Rattle.rw_doc.specs.declared.fault.DocFault.{DocFault}
use Rattle.rw_doc.specs.declared.piece.Piece.{Piece}
use Rattle.rw_doc.specs.Chain.{and_then, some_or, checked}
use Rattle.rw_doc.specs.Json.{as_count, has_only}
use Rattle.rw_doc.specs.Numbers.{as_number, as_numbers}
use Rattle.rw_doc.specs.Pieces.{fault_in}
use Rattle.rw_docschedule.specs.declared.form.KindForm.{KindForm}
use Rattle.rw_docschedule.specs.declared.form.KindForm.TheVariants.{Rule, Test, Draw, Loop, Show, Exit, Fail}

-- ---- the form of a box: code 2

-- a box as it is written, and the boxes that its wires lead to
pub record BoxForm : Type 0 where
  pub kind : KindForm
  pub to : List ℕ

-- a box with these wires, where they are numbers
abbrev pub with_wires : Option (List ℕ) → KindForm → Option BoxForm
with_wires wires kind = option_map (λ to. record { kind = kind; to = to }) wires

-- the wires that are written
abbrev pub wires_in : Data → Option (List ℕ)
wires_in value = option_and_then as_numbers (get (codes "to") value)

-- the wires of a box that has none, which may be absent
abbrev pub wires_or_none : Option Data → Option (List ℕ)
wires_or_none None = Some []
wires_or_none (Some value) = as_numbers value

-- the text at a key
abbrev pub text_at : List ℕ → Data → Option (List ℕ)
text_at key value = option_and_then as_str (get key value)

-- the picking with the name
abbrev pub pick_named : List ℕ → Option Pick
pick_named name =
    if bytes_eq name (codes "first") then Some picks.First
    else if bytes_eq name (codes "random") then Some picks.Random
    else None

-- the picking that is written; where none is, the first place is picked
abbrev pub pick_or_first : Option Data → Option Pick
pick_or_first None = Some picks.First
pick_or_first (Some value) = option_and_then pick_named (as_str value)

-- the comparison with the name
abbrev pub cmp_named : List ℕ → Option Cmp
cmp_named name =
    if bytes_eq name (codes "lt") then Some cmps.Lt
    else if bytes_eq name (codes "eq") then Some cmps.Eq
    else if bytes_eq name (codes "gt") then Some cmps.Gt
    else None

-- {"box":"rule","pick":"first" or "random","rule":name,"to":[box,box]}; the picking may be absent
abbrev pub rule_form : Data → Option BoxForm
rule_form value =
    if has_only (codes "box" ∷ codes "pick" ∷ codes "rule" ∷ codes "to" ∷ []) value
    then option_and_then (λ name. option_and_then (λ pick. with_wires (wires_in value) (Rule name pick)) (pick_or_first (get (codes "pick") value))) (text_at (codes "rule") value)
    else None

-- {"box":"test","cmp":"lt", "eq" or "gt","count":count,"list":name,"to":[box,box]}
abbrev pub test_form : Data → Option BoxForm
test_form value =
    if has_only (codes "box" ∷ codes "cmp" ∷ codes "count" ∷ codes "list" ∷ codes "to" ∷ []) value
    then option_and_then (λ name. option_and_then (λ cmp. option_and_then (λ count. with_wires (wires_in value) (Test name cmp count))
    (option_and_then as_count (get (codes "count") value))) (option_and_then cmp_named (text_at (codes "cmp") value))) (text_at (codes "list") value)
    else None

-- {"box":"draw","to":[box,..],"weights":[weight,..]}
abbrev pub draw_form : Data → Option BoxForm
draw_form value =
    if has_only (codes "box" ∷ codes "to" ∷ codes "weights" ∷ []) value
    then option_and_then (λ weights. with_wires (wires_in value) (Draw weights)) (option_and_then as_numbers (get (codes "weights") value))
    else None

-- {"box":"loop","count":count,"to":[box,box]}
abbrev pub loop_form : Data → Option BoxForm
loop_form value =
    if has_only (codes "box" ∷ codes "count" ∷ codes "to" ∷ []) value
    then option_and_then (λ count. with_wires (wires_in value) (Loop count)) (option_and_then as_number (get (codes "count") value))
    else None

-- {"box":"show","to":[box]}
abbrev pub show_form : Data → Option BoxForm
show_form value = if has_only (codes "box" ∷ codes "to" ∷ []) value then with_wires (wires_in value) Show else None

-- {"box":"exit","to":[]} or {"box":"fail","to":[]}; the wires may be absent
abbrev pub last_form : KindForm → Data → Option BoxForm
last_form kind value = if has_only (codes "box" ∷ codes "to" ∷ []) value then with_wires (wires_or_none (get (codes "to") value)) kind else None

-- the form of a box of the kind with the name
abbrev pub form_named : List ℕ → Data → Option BoxForm
form_named name value =
    if bytes_eq name (codes "rule") then rule_form value
    else if bytes_eq name (codes "test") then test_form value
    else if bytes_eq name (codes "draw") then draw_form value
    else if bytes_eq name (codes "loop") then loop_form value
    else if bytes_eq name (codes "show") then show_form value
    else if bytes_eq name (codes "exit") then last_form Exit value
    else if bytes_eq name (codes "fail") then last_form Fail value
    else None

-- the box that a value is
abbrev pub box_form : Data → Option BoxForm
box_form value = option_and_then (λ name. form_named name value) (text_at (codes "box") value)

-- ---- its numbers: code 4

-- the weights of a draw and the count of a loop are within their limits
abbrev pub is_within : KindForm → Bool
is_within (Rule name pick) = true
is_within (Test name cmp count) = true
is_within (Draw weights) = is_box (boxes.Draw weights)
is_within (Loop count) = is_box (boxes.Loop count)
is_within Show = true
is_within Exit = true
is_within Fail = true

-- ---- the rule or the list that it names: code 6. Of the names of the kept lists those of the rules are the first

-- the number of the list with the name
abbrev pub list_named : List (List ℕ) → List ℕ → Option ℕ
list_named names name = position (bytes_eq name) names

-- the number, where it is one of a rule
abbrev pub if_rule : ℕ → ℕ → Option ℕ
if_rule rules number = if nat_lt number rules then Some number else None

-- the number of the rule with the name
abbrev pub rule_named : ℕ → List (List ℕ) → List ℕ → Option ℕ
rule_named rules names name = option_and_then (if_rule rules) (list_named names name)

-- the box with rules and lists by their numbers
abbrev pub kind_named : ℕ → List (List ℕ) → KindForm → Option BoxKind
kind_named rules names (Rule name pick) = option_map (λ rule. boxes.Rule rule pick) (rule_named rules names name)
kind_named rules names (Test name cmp count) = option_map (λ list. boxes.Test list cmp count) (list_named names name)
kind_named rules names (Draw weights) = Some (boxes.Draw weights)
kind_named rules names (Loop count) = Some (boxes.Loop count)
kind_named rules names Show = Some boxes.Show
kind_named rules names Exit = Some boxes.Exit
kind_named rules names Fail = Some boxes.Fail

-- ---- its wires: code 15

-- there is one wire for each port, and each leads to one of the boxes
abbrev pub is_wired : ℕ → BoxKind → List ℕ → Bool
is_wired count kind to = length to == ports kind && list_all (λ wire. nat_lt wire count) to

-- ---- the box

-- a box, and the boxes that its wires lead to
pub record WiredBox : Type 0 where
  pub kind : BoxKind
  pub to : List ℕ

-- the entry of a box
abbrev pub box_piece : ℕ → Piece
box_piece place = record { section = sections.Boxes; first = place; second = 0 }

-- a box of so many, over so many rules and the names of the kept lists
abbrev pub read_box : ℕ → List (List ℕ) → ℕ → ℕ → Data → Result WiredBox DocFault
read_box rules names count place value =
    and_then (some_or (fault_in (box_piece place) 2) (box_form value)) (λ form.
    checked (fault_in (box_piece place) 4) (is_within form.kind)
    (and_then (some_or (fault_in (box_piece place) 6) (kind_named rules names form.kind)) (λ kind.
    checked (fault_in (box_piece place) 15) (is_wired count kind form.to)
    (Ok (record { kind = kind; to = form.to })))))
