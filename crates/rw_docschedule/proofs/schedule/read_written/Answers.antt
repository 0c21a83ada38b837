-- The boxes that are read are a schedule over the rules and the lists.
use Rattle.std.proofs.Common.{◌≡◌, ◌∙◌, ℕ, true, nat_le, None, List, length, map, sym, ap, subst}
use Rattle.std.proofs.lemmas.Bool.{le-leb}
use Rattle.std.proofs.lemmas.List.{length-map}
use Rattle.serde_json.specs.Data.{Data}
use Rattle.serde_json.specs.View.{view}
use Rattle.rw_sched.specs.ScheduleFaults.{schedule_fault}
use Rattle.rw_sched.specs.Schedules.{ScheduleLists}
use Rattle.rw_docschedule.specs.Reads.{lists_of_boxes}
use Rattle.rw_docschedule.proofs.KnownBoxes.{none_of_wires, read_known}
use Rattle.rw_docschedule.proofs.schedule.read_written.Goals as goal

pub of_checked-requires : goal.of_checked-requires
of_checked-requires c =
    let items : List Data = map view c.in_ok-items.items.now in
    let long : length items ≡ length c.in_ok-items.items.now = length-map c.in_ok-items.items.now view in
    let some : nat_le 1 (length items) ≡ true = rw long (le-leb 1 (length c.in_ok-items.items.now) c.in_ok-items.ensures.some) in
    let few : nat_le (length items) 1024 ≡ true = rw long (le-leb (length c.in_ok-items.items.now) 1024 c.in_ok-items.ensures.few) in
    let made : ScheduleLists = lists_of_boxes c.in_ok-read.read in
    none_of_wires c.args.rules (length c.args.names.now) made (read_known c.args.rules c.args.names.now items made some few c.in_ok-read.ensures)

pub returns-clause-known : goal.returns-clause-known
returns-clause-known c =
    let items : List Data = map view c.in_ok-items.items.now in
    let long : length items ≡ length c.in_ok-items.items.now = length-map c.in_ok-items.items.now view in
    let some : nat_le 1 (length items) ≡ true = rw long (le-leb 1 (length c.in_ok-items.items.now) c.in_ok-items.ensures.some) in
    let few : nat_le (length items) 1024 ≡ true = rw long (le-leb (length c.in_ok-items.items.now) 1024 c.in_ok-items.ensures.few) in
    let made : ScheduleLists = lists_of_boxes c.in_ok-read.read in
    rw c.of_checked.ensures (read_known c.args.rules c.args.names.now items made some few c.in_ok-read.ensures)
