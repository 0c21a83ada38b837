-- The column of the last arrow that is left is changed.
use Rattle.std.proofs.Common.{◌≡◌, ◌∙◌, ℕ, List, [], Some, length, map, slice_get, slice_index, arith, sym, subst}
use Rattle.std.proofs.lemmas.Option.{get_or_from_slice_get}
use Rattle.rw_column.specs.Threads.{Threaded}
use Rattle.rw_schema.specs.declared.signature.ArrowEnds.{ArrowEnds}
use Rattle.rw_schema.specs.RowLists.{list_at}
use Rattle.rw_columns.specs.Columned.{column_at}
use Rattle.rw_columns.specs.inner.Written.{IsChanged}
use Rattle.rw_columns.proofs.Mapped.{mapped_at}
use Rattle.rw_columns.proofs.Written.{done_last, front_less, popped}
use Rattle.rw_columns.proofs.changes.change_all_arrows.Goals as goal

pub loop-list-preserved : goal.loop-list-preserved
loop-list-preserved c =
    let removed : List (List ℕ) = map (λ list. list.items) c.args.removed.now in
    let all = c.args.rows.items in
    let rows : List (List (ℕ × ℕ)) = map (λ list. list.items) all in
    let added : List (List ℕ) = map (λ list. list.items) c.args.added.now in
    let images : List (List ℕ) = map (λ list. list.items) c.args.images.now in
    let next = c.args.next.now in
    let left = c.loop-list.rows.items in
    let front = c.pop.new.self.items in
    let place = c.len-place.result in
    let item = c.in-Some.list in
    let mid = c.loop-list.columns.items in
    let new = c.change_arrow_at.new.columns.items in
    let last = popped front left all item place c.in-Some.ensures.items c.loop-list.invariant.front (omega arith) in
    let row_is : list_at rows place ≡ item.items = mapped_at (λ list. list.items) all place item [] last.0 last.2 in
    let Changed = λ (a : ℕ) (row : List (ℕ × ℕ)) (arrow : ArrowEnds) (old now : Threaded). IsChanged (list_at removed arrow.source.0) row (list_at added arrow.source.0)
    (list_at images a) (slice_index next arrow.source.0) (slice_index next arrow.target.0) old now in
    let Each = λ (a : ℕ) (old now : Threaded). (arrow : ArrowEnds) → slice_get c.args.ends.now a ≡ Some arrow → Changed a (list_at rows a) arrow old now in
    record {
      front = front_less front left all item c.in-Some.ensures.items c.loop-list.invariant.front;
      count = c.change_arrow_at.ensures.count ∙ c.loop-list.invariant.count;
      done = done_last Each (length left) (length front) place (column_at c.args.columns.now.items) (column_at mid) (column_at new) last.1 (omega arith)
          c.loop-list.invariant.done
          (λ arrow there. subst (λ (row : List (ℕ × ℕ)). Changed place row arrow (column_at mid place) (column_at new place)) (sym row_is)
          (subst (λ (each : ArrowEnds). Changed place item.items each (column_at mid place) (column_at new place))
          (get_or_from_slice_get c.args.ends.now place arrow (record { source = record { 0 = 0 }; target = record { 0 = 0 } }) there)
          c.change_arrow_at.ensures.here))
          c.change_arrow_at.ensures.others;
    }

pub returns : goal.returns
returns c =
    let none_left : length c.loop-list.rows.items ≡ 0 = omega (arith, c.in_default.ensures.cases.0) in
    record {
      count = c.loop-list.invariant.count;
      each = λ a arrow there. c.loop-list.invariant.done.done a (omega (arith, none_left)) arrow there;
    }
