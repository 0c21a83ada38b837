-- The cells of the last attribute that is left are renewed.
use Rattle.std.proofs.Common.{◌≡◌, ◌∙◌, List, [], ℕ, Option, Some, length, map, slice_get, slice_index, refl, sym, subst, arith}
use Rattle.rw_schema.specs.declared.atom.Atom.{Atom}
use Rattle.rw_schema.specs.declared.signature.AttrEnds.{AttrEnds}
use Rattle.rw_schema.specs.RowLists.{list_at}
use Rattle.rw_columns.specs.inner.Written.{IsRenewed}
use Rattle.rw_columns.proofs.CellChanges.{may_renew, is_renewed}
use Rattle.rw_columns.proofs.Mapped.{mapped_at}
use Rattle.rw_columns.proofs.Written.{done_last, front_less, popped}
use Rattle.rw_columns.proofs.cell_changes.renew_all.Goals as goal

pub renew_at-requires-clause-fits : goal.renew_at-requires-clause-fits
renew_at-requires-clause-fits c =
    let all = c.args.cells.items in
    let place = c.len-place.result in
    let item = c.in-Some.list in
    let attribute = c.attribute_at-attribute.result in
    let removed : List (List ℕ) = map (λ list. list.items) c.args.removed.now in
    let added : List (List ℕ) = map (λ list. list.items) c.args.added.now in
    let old : List (List (Option Atom)) = map (λ list. list.items) c.args.lists.now.items in
    let now : List (List (Option Atom)) = map (λ list. list.items) c.loop-list.lists.items in
    let last = popped c.pop.new.self.items c.loop-list.cells.items all item place c.in-Some.ensures.items c.loop-list.invariant.front (omega arith) in
    may_renew (slice_index c.args.next.now attribute.object.0) (list_at removed attribute.object.0) (list_at removed attribute.object.0)
    (list_at added attribute.object.0) (list_at added attribute.object.0) (list_at (map (λ list. list.items) all) place) item.items (list_at old place) (list_at now place) refl refl
    (mapped_at (λ list. list.items) all place item [] last.0 last.2)
    (sym (c.loop-list.invariant.done.rest place (λ done. omega (arith, done, last.1))))
    (c.requires.each place attribute c.attribute_at-attribute.ensures)

pub loop-list-preserved : goal.loop-list-preserved
loop-list-preserved c =
    let all = c.args.cells.items in
    let left = c.loop-list.cells.items in
    let front = c.pop.new.self.items in
    let place = c.len-place.result in
    let item = c.in-Some.list in
    let ends = c.args.ends.now in
    let next = c.args.next.now in
    let removed : List (List ℕ) = map (λ list. list.items) c.args.removed.now in
    let added : List (List ℕ) = map (λ list. list.items) c.args.added.now in
    let old : List (List (Option Atom)) = map (λ list. list.items) c.args.lists.now.items in
    let now : List (List (Option Atom)) = map (λ list. list.items) c.loop-list.lists.items in
    let new : List (List (Option Atom)) = map (λ list. list.items) c.renew_at.new.lists.items in
    let cells : List (List (Option Atom)) = map (λ list. list.items) all in
    let last = popped front left all item place c.in-Some.ensures.items c.loop-list.invariant.front (omega arith) in
    let Renewed = λ (k : ℕ) (attribute : AttrEnds) (before after : List (Option Atom)). IsRenewed (list_at removed attribute.object.0) (list_at added attribute.object.0)
    (list_at cells k) (slice_index next attribute.object.0) before after in
    let Each = λ (k : ℕ) (before after : List (Option Atom)). (attribute : AttrEnds) → slice_get ends k ≡ Some attribute → Renewed k attribute before after in
    record {
      front = front_less front left all item c.in-Some.ensures.items c.loop-list.invariant.front;
      count = c.renew_at.ensures.count ∙ c.loop-list.invariant.count;
      done = done_last Each (length left) (length front) place (list_at old) (list_at now) (list_at new) last.1 (omega arith) c.loop-list.invariant.done
          (λ attribute there.
          let taken = c.attribute_at-attribute.result in
          let same : taken ≡ attribute = cc in
          subst (λ (each : AttrEnds). Renewed place each (list_at now place) (list_at new place)) same
          (is_renewed (slice_index next taken.object.0) (list_at removed taken.object.0) (list_at removed taken.object.0)
          (list_at added taken.object.0) (list_at added taken.object.0) item.items (list_at cells place) (list_at now place) (list_at now place) refl refl
          (sym (mapped_at (λ list. list.items) all place item [] last.0 last.2)) refl (list_at new place) (list_at new place) refl c.renew_at.ensures.here))
          c.renew_at.ensures.others;
      rooms = λ k within. c.renew_at.ensures.rooms k (λ same. omega (arith, same, within)) ∙ c.loop-list.invariant.rooms k (omega (arith, within, last.1));
    }
