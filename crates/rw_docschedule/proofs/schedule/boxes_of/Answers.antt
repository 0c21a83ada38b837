-- The box and its wires are put behind those before it.
use Rattle.std.proofs.Common.{◌≡◌, List, [], ◌∷◌, ◌++◌, length, map, refl}
use Rattle.std.proofs.lemmas.List.{map-append}
use Rattle.rw_doc.proofs.Readings.{read_more_at}
use Rattle.rw_docschedule.specs.Boxes.{WiredBox, read_box}
use Rattle.rw_docschedule.specs.Reads.{box_wired}
use Rattle.rw_docschedule.proofs.schedule.boxes_of.Goals as goal

pub loop-place-preserved : goal.loop-place-preserved
loop-place-preserved c =
    let found : List WiredBox = c.loop-place.invariant.0 in
    let read : WiredBox = box_wired c.in_ok-read.read in
    let f = read_box c.args.rules c.args.names.now (length c.args.items.now) in (
      found ++ read ∷ [],
      read_more_at f c.args.items.now c.loop-place.place found c.index-items-place.result read c.loop-place.invariant.1 c.loop-place-test.true c.index-items-place.is c.in_ok-read.ensures,
      rw (c.in_ok-push.ensures.items, c.loop-place.invariant.2, map-append (λ (box : WiredBox). box.kind) found (read ∷ [])) refl,
      rw (
        c.in_ok-push-2.ensures.items,
        map-append (λ list. list.items) c.loop-place.wires.items (c.in_ok-read.read.to ∷ []),
        c.loop-place.invariant.3,
        map-append (λ (box : WiredBox). box.to) found (read ∷ []),
      ) refl,
    )
