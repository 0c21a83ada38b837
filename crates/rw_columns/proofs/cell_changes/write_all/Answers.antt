-- The entries of the last attribute that is left are written.
use Rattle.std.proofs.Common.{◌∙◌, ◌<◌, List, [], ℕ, Option, length, map, refl, sym, arith}
use Rattle.std.proofs.lemmas.List.{length-map}
use Rattle.rw_schema.specs.declared.atom.Atom.{Atom}
use Rattle.rw_schema.specs.RowLists.{list_at}
use Rattle.rw_columns.specs.inner.Written.{IsListWritten}
use Rattle.rw_columns.proofs.CellChanges.{may_write, is_written}
use Rattle.rw_columns.proofs.Mapped.{mapped_at}
use Rattle.rw_columns.proofs.Written.{done_last, front_less, popped}
use Rattle.rw_columns.proofs.cell_changes.write_all.Goals as goal

pub write_at-requires-clause-fits : goal.write_at-requires-clause-fits
write_at-requires-clause-fits c =
    let all = c.args.entries.items in
    let place = c.len-place.result in
    let item = c.in-Some.list in
    let old : List (List (Option Atom)) = map (λ list. list.items) c.args.lists.now.items in
    let now : List (List (Option Atom)) = map (λ list. list.items) c.loop-list.lists.items in
    let last = popped c.pop.new.self.items c.loop-list.entries.items all item place c.in-Some.ensures.items c.loop-list.invariant.front (omega arith) in
    may_write (list_at (map (λ list. list.items) all) place) item.items (list_at old place) (list_at now place)
    (mapped_at (λ list. list.items) all place item [] last.0 last.2)
    (sym (c.loop-list.invariant.done.rest place (λ done. omega (arith, done, last.1))))
    (c.requires.each place (omega (arith, last.0, c.requires.count, length-map all (λ list. list.items), length-map c.args.lists.now.items (λ list. list.items))))

pub loop-list-preserved : goal.loop-list-preserved
loop-list-preserved c =
    let all = c.args.entries.items in
    let left = c.loop-list.entries.items in
    let front = c.pop.new.self.items in
    let place = c.len-place.result in
    let item = c.in-Some.list in
    let old : List (List (Option Atom)) = map (λ list. list.items) c.args.lists.now.items in
    let now : List (List (Option Atom)) = map (λ list. list.items) c.loop-list.lists.items in
    let new : List (List (Option Atom)) = map (λ list. list.items) c.write_at.new.lists.items in
    let entries : List (List (ℕ × Option Atom)) = map (λ list. list.items) all in
    let last = popped front left all item place c.in-Some.ensures.items c.loop-list.invariant.front (omega arith) in
    let Each = λ (k : ℕ) (before after : List (Option Atom)). k < length c.args.lists.now.items → IsListWritten (list_at entries k) before after in
    record {
      front = front_less front left all item c.in-Some.ensures.items c.loop-list.invariant.front;
      count = c.write_at.ensures.count ∙ c.loop-list.invariant.count;
      done = done_last Each (length left) (length front) place (list_at old) (list_at now) (list_at new) last.1 (omega arith) c.loop-list.invariant.done
          (λ known. is_written item.items (list_at entries place) (list_at now place) (list_at now place) (sym (mapped_at (λ list. list.items) all place item [] last.0 last.2)) refl
          (list_at new place) (list_at new place) refl c.write_at.ensures.here)
          c.write_at.ensures.others;
    }
