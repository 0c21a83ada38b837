-- The column of one arrow more has room.
use Rattle.std.proofs.Common.{◌≡◌, ℕ, Some, slice_get, slice_index, arith, subst}
use Rattle.std.proofs.lemmas.Option.{slice_get_within, get_or_from_slice_get}
use Rattle.rw_column.specs.Threads.{Threaded}
use Rattle.rw_schema.specs.declared.signature.ArrowEnds.{ArrowEnds}
use Rattle.rw_columns.specs.Columned.{column_at}
use Rattle.rw_columns.specs.inner.Room.{IsRoomy}
use Rattle.rw_columns.proofs.Rooms.{kept_then, each_before}
use Rattle.rw_columns.proofs.room.arrows_room.Goals as goal

pub loop-place-preserved : goal.loop-place-preserved
loop-place-preserved c =
    let old = c.loop-place.columns.items in
    let new = c.column_room.new.columns.items in
    let next = c.args.next.now in
    let Is = λ (a : ℕ) (column : Threaded). (arrow : ArrowEnds) → slice_get c.args.ends.now a ≡ Some arrow
    → IsRoomy (slice_index next arrow.source.0) (slice_index next arrow.target.0) column in
    record {
      kept = kept_then c.args.columns.now.items old new c.loop-place.invariant.kept c.column_room.ensures.kept;
      room = each_before Is (column_at old) (column_at new) c.loop-place.place c.loop-place.invariant.room c.column_room.ensures.others
          (λ arrow there. subst (λ (each : ArrowEnds). IsRoomy (slice_index next each.source.0) (slice_index next each.target.0) (column_at new c.loop-place.place))
          (get_or_from_slice_get c.args.ends.now c.loop-place.place arrow (record { source = record { 0 = 0 }; target = record { 0 = 0 } }) there)
          c.in_ok-column_room.ensures.room);
    }

pub returns-clause-room : goal.returns-clause-room
returns-clause-room c = λ a arrow there.
    c.loop-place.invariant.room a (let within = slice_get_within c.args.ends.now a arrow there in omega (arith, within, c.requires.count)) arrow there
