-- Boxes that are read are a schedule over the rules and the kept lists.
use Rattle.std.proofs.Common.{◌≡◌, ◌∙◌, ◌<◌, ◌≤◌, ℕ, Bool, true, false, ◌&&◌, nat_lt, nat_le, zero, suc, ◌==◌, Option, Some, None, option_map, option_and_then, Result, Ok, List, [], ◌∷◌, length, map, position, slice_get, get_or, refl, sym, ap, subst, arith, if◌then◌else◌}
use Rattle.std.specs.List.{list_all}
use Rattle.std.specs.Str.{bytes_eq}
use Rattle.std.proofs.lemmas.Bool.{and_parts, lt-ltb}
use Rattle.std.proofs.lemmas.List.{length-map}
use Rattle.std.proofs.lemmas.List.Folds.{list_all-map}
use Rattle.std.proofs.lemmas.List.Quantifiers.{position-Some}
use Rattle.std.proofs.lemmas.Option.{slice_get-map}
use Rattle.serde_json.specs.Data.{Data}
use Rattle.rw_schema.specs.First.{or_else, first_in, fault_unless}
use Rattle.rw_schema.specs.RowLists.{list_at}
use Rattle.rw_schema.proofs.Firsts.{none_from_each, none_unless, unless_true}
use Rattle.rw_schema.proofs.Lists.{slice_get_mapped}
use Rattle.rw_sched.specs.declared.boxes.BoxKind.{BoxKind}
use Rattle.rw_sched.specs.declared.boxes.BoxKind.TheVariants as boxes
use Rattle.rw_sched.specs.declared.boxes.Cmp.{Cmp}
use Rattle.rw_sched.specs.declared.boxes.Pick.{Pick}
use Rattle.rw_sched.specs.declared.fault.WireFault.{WireFault}
use Rattle.rw_sched.specs.declared.fault.WireFault.TheVariants.{Ports, Wire, Unknown}
use Rattle.rw_sched.specs.ScheduleFaults.{is_box, is_known, has_wires, first_unwired, first_lost, first_lost_of, first_unknown, is_within_limits, schedule_fault, wire_fault}
use Rattle.rw_sched.specs.Schedules.{ScheduleLists, ports}
use Rattle.rw_doc.specs.declared.fault.DocFault.{DocFault}
use Rattle.rw_doc.specs.Chain.{and_then, checked, each_in, some_or}
use Rattle.rw_doc.specs.Pieces.{fault_in}
use Rattle.rw_doc.proofs.Chains.{chain, checked_then, each_at, each_long, each_passes, there}
use Rattle.rw_docschedule.specs.declared.form.KindForm.{KindForm}
use Rattle.rw_docschedule.specs.declared.form.KindForm.TheVariants.{Rule, Test, Draw, Loop, Show, Exit, Fail}
use Rattle.rw_docschedule.specs.Boxes.{BoxForm, WiredBox, box_form, box_piece, if_rule, is_wired, is_within, kind_named, list_named, read_box, rule_named}
use Rattle.rw_docschedule.specs.Schedules.{read_boxes, schedule_of}

-- ---- names

-- the list with a name is there
pub list_there : (names : List (List ℕ)) (name : List ℕ) (number : ℕ) → list_named names name ≡ Some number → nat_lt number (length names) ≡ true
list_there names name number is = lt-ltb number (length names) (position-Some (bytes_eq name) names number name is).0

-- a number that is one of a rule
one_of_rules : (rules number : ℕ) (below : Bool) (rule : ℕ) → nat_lt number rules ≡ below → (if below then Some number else None) ≡ Some rule → nat_lt rule rules ≡ true
one_of_rules rules number true rule is found = let same : number ≡ rule = cc in rw (← same) is
one_of_rules rules number false rule is found = cc

-- the rule with a name is there
rule_there : (rules : ℕ) (found : Option ℕ) (rule : ℕ) → option_and_then (if_rule rules) found ≡ Some rule → nat_lt rule rules ≡ true
rule_there rules None rule is = cc
rule_there rules (Some number) rule is = one_of_rules rules number (nat_lt number rules) rule refl is

-- the box of a rule
of_rule : (rules lists : ℕ) (pick : Pick) (found : Option ℕ) (kind : BoxKind) → ((rule : ℕ) → found ≡ Some rule → nat_lt rule rules ≡ true)
    → option_map (λ rule. boxes.Rule rule pick) found ≡ Some kind → (is_box kind ≡ true) × (is_known rules lists kind ≡ true)
of_rule rules lists pick None kind known is = cc
of_rule rules lists pick (Some rule) kind known is =
    let same : boxes.Rule rule pick ≡ kind = cc in subst (λ kind. (is_box kind ≡ true) × (is_known rules lists kind ≡ true)) same (refl, known rule refl)

-- the test of a list
of_list : (rules lists : ℕ) (cmp : Cmp) (count : ℕ) (found : Option ℕ) (kind : BoxKind) → ((list : ℕ) → found ≡ Some list → nat_lt list lists ≡ true)
    → option_map (λ list. boxes.Test list cmp count) found ≡ Some kind → (is_box kind ≡ true) × (is_known rules lists kind ≡ true)
of_list rules lists cmp count None kind known is = cc
of_list rules lists cmp count (Some list) kind known is =
    let same : boxes.Test list cmp count ≡ kind = cc in subst (λ kind. (is_box kind ≡ true) × (is_known rules lists kind ≡ true)) same (refl, known list refl)

-- a box that names nothing
of_itself : (rules lists : ℕ) (box kind : BoxKind) → is_box box ≡ true → is_known rules lists box ≡ true → Some box ≡ Some kind → (is_box kind ≡ true) × (is_known rules lists kind ≡ true)
of_itself rules lists box kind within known is = let same : box ≡ kind = cc in subst (λ kind. (is_box kind ≡ true) × (is_known rules lists kind ≡ true)) same (within, known)

-- a box whose numbers are within their limits and whose names are there
pub named_known : (rules : ℕ) (names : List (List ℕ)) (form : KindForm) (kind : BoxKind) → is_within form ≡ true → kind_named rules names form ≡ Some kind
    → (is_box kind ≡ true) × (is_known rules (length names) kind ≡ true)
named_known rules names (Rule name pick) kind within is =
    of_rule rules (length names) pick (rule_named rules names name) kind (rule_there rules (list_named names name)) is
named_known rules names (Test name cmp count) kind within is = of_list rules (length names) cmp count (list_named names name) kind (list_there names name) is
named_known rules names (Draw weights) kind within is = of_itself rules (length names) (boxes.Draw weights) kind within refl is
named_known rules names (Loop count) kind within is = of_itself rules (length names) (boxes.Loop count) kind within refl is
named_known rules names Show kind within is = of_itself rules (length names) boxes.Show kind refl refl is
named_known rules names Exit kind within is = of_itself rules (length names) boxes.Exit kind refl refl is
named_known rules names Fail kind within is = of_itself rules (length names) boxes.Fail kind refl refl is

-- ---- a box

-- what is known of a box that is read
pub record IsBoxRead (rules lists count : ℕ) (box : WiredBox) : Type 0 where
  pub within : is_box box.kind ≡ true
  pub known : is_known rules lists box.kind ≡ true
  pub wired : is_wired count box.kind box.to ≡ true

pub box_known : (rules : ℕ) (names : List (List ℕ)) (count place : ℕ) (value : Data) (box : WiredBox) → read_box rules names count place value ≡ Ok box
    → IsBoxRead rules (length names) count box
box_known rules names count place value =
    let P : WiredBox → Type 0 = IsBoxRead rules (length names) count in
    chain P (some_or (fault_in (box_piece place) 2) (box_form value)) _
    (λ form is_form. checked_then P (fault_in (box_piece place) 4) (is_within form.kind) _
    (λ within. chain P (some_or (fault_in (box_piece place) 6) (kind_named rules names form.kind)) _
    (λ kind is_kind. checked_then P (fault_in (box_piece place) 15) (is_wired count kind form.to) (Ok (record { kind = kind; to = form.to }))
    (λ wired box is.
    let made : WiredBox = record { kind = kind; to = form.to } in
    let same : made ≡ box = cc in
    let facts = named_known rules names form.kind kind within (there (fault_in (box_piece place) 6) (kind_named rules names form.kind) kind is_kind) in
    subst P same (record { within = facts.0; known = facts.1; wired = wired })))))

-- ---- all boxes

abbrev kind_of : WiredBox → BoxKind
kind_of box = box.kind

abbrev wires_of : WiredBox → List ℕ
wires_of box = box.to

-- the boxes of which each is read at its place
module _ (rules : ℕ) (names : List (List ℕ)) (items : List Data) (found : List WiredBox)
    (is : each_in (read_box rules names (length items)) 0 items ≡ Ok found) where
  many : length found ≡ length items
  many = each_long (read_box rules names (length items)) 0 items found is

  box_count : length (map kind_of found) ≡ length items
  box_count = length-map found kind_of ∙ many

  -- a test of boxes that each passes
  all_pass : (test : BoxKind → Bool) → ((box : WiredBox) → IsBoxRead rules (length names) (length items) box → test box.kind ≡ true) → list_all test (map kind_of found) ≡ true
  all_pass test passes = list_all-map test kind_of found ∙ each_passes (λ box. test (kind_of box)) (read_box rules names (length items))
      (λ place value box is. passes box (box_known rules names (length items) place value box is)) 0 items found is

  -- each has its wires
  wired_at : (place : ℕ) (box : WiredBox) → slice_get found place ≡ Some box → is_wired (length items) box.kind box.to ≡ true
  wired_at place box there =
      each_at (λ place box. is_wired (length items) (kind_of box) (wires_of box) ≡ true) (read_box rules names (length items))
      (λ place value box is. (box_known rules names (length items) place value box is).wired) 0 items found is place box there

  -- the box at a place
  box_there : (place : ℕ) (kind : BoxKind) → slice_get (map kind_of found) place ≡ Some kind
      → (box : WiredBox) × (kind ≡ box.kind) × (slice_get (map wires_of found) place ≡ Some box.to) × (is_wired (length items) box.kind box.to ≡ true)
  box_there place kind there =
      let item = slice_get_mapped kind_of found place kind there in
      (item.0, sym item.2, slice_get-map wires_of found place ∙ ap (option_map wires_of) item.1, wired_at place item.0 item.1)

  -- a box with one wire for each port
  wired_ports : (wires : Option (List ℕ)) (kind other : BoxKind) (to : List ℕ) → wires ≡ Some to → kind ≡ other → (length to == ports other) ≡ true → has_wires wires (ports kind) ≡ true
  wired_ports wires kind other to is same passes = rw (is, same) passes

  -- no box is without its wires
  none_unwired : first_unwired (schedule_of found) ≡ None
  none_unwired = none_from_each _ (map kind_of found) (λ place kind there.
      let box = box_there place kind there in
      let parts = and_parts _ _ box.3 in
      let wired : has_wires (slice_get (map wires_of found) place) (ports kind) ≡ true = wired_ports (slice_get (map wires_of found) place) kind box.0.kind box.0.to box.2 box.1 parts.0 in
      unless_true (has_wires (slice_get (map wires_of found) place) (ports kind)) (Ports place) wired)

  -- the wires of a box lead to boxes
  none_lost_of : (place count : ℕ) (to : List ℕ) → count ≡ length items → list_all (λ wire. nat_lt wire (length items)) to ≡ true → first_lost_of count place to ≡ None
  none_lost_of place count to same all = rw same (none_unless (λ wire. nat_lt wire (length items)) (λ port. Wire place port) 0 to all)

  -- what stands at a place of a list of lists
  stands_at : (lists : List (List ℕ)) (place : ℕ) (list : List ℕ) → slice_get lists place ≡ Some list → list_at lists place ≡ list
  stands_at [] place list there = cc
  stands_at (first ∷ lists) zero list there = cc
  stands_at (first ∷ lists) (suc place) list there = stands_at lists place list there

  -- no wire is lost
  none_lost : first_lost (schedule_of found) ≡ None
  none_lost = none_from_each _ (map kind_of found) (λ place kind there.
      let box = box_there place kind there in
      let parts = and_parts _ _ box.3 in
      let at : list_at (map wires_of found) place ≡ box.0.to = stands_at (map wires_of found) place box.0.to box.2 in
      rw at (none_lost_of place (length (map kind_of found)) box.0.to box_count parts.1))

  -- the boxes are a schedule over the rules and the lists
  pub boxes_known : nat_le 1 (length items) ≡ true → nat_le (length items) 1024 ≡ true → schedule_fault rules (length names) (schedule_of found) ≡ None
  boxes_known some few =
      let within : is_within_limits (map kind_of found) ≡ true = rw (box_count, some, few, all_pass is_box (λ box known. known.within)) refl in
      let unknown : first_unknown rules (length names) (schedule_of found) ≡ None =
      none_unless (is_known rules (length names)) (λ place. Unknown place) 0 (map kind_of found) (all_pass (is_known rules (length names)) (λ box known. known.known)) in
      rw (within, none_unwired, none_lost, unknown) refl

-- so are the boxes that are read
pub read_known : (rules : ℕ) (names : List (List ℕ)) (items : List Data) (schedule : ScheduleLists) → nat_le 1 (length items) ≡ true → nat_le (length items) 1024 ≡ true
    → read_boxes rules names items ≡ Ok schedule → schedule_fault rules (length names) schedule ≡ None
read_known rules names items schedule some few =
    let P : ScheduleLists → Type 0 = λ schedule. schedule_fault rules (length names) schedule ≡ None in
    chain P (each_in (read_box rules names (length items)) 0 items) (λ wired. Ok (schedule_of wired))
    (λ found is schedule whole. let same : schedule_of found ≡ schedule = cc in
    subst P same (boxes_known rules names items found is some few)) schedule

-- a schedule without faults has none in its wires
pub none_of_wires : (rules lists : ℕ) (schedule : ScheduleLists) → schedule_fault rules lists schedule ≡ None → wire_fault schedule ≡ None
none_of_wires rules lists schedule none = first_none (wire_fault schedule) (first_unknown rules lists schedule) none
  where
    first_none : (first second : Option WireFault) → or_else first second ≡ None → first ≡ None
    first_none None second none = refl
    first_none (Some fault) second none = cc
