-- The last cell that is left is put at its name.
use Rattle.std.proofs.Common.{◌≡◌, ◌+◌, ◌<◌, ◌≤◌, ℕ, None, Option, length, slice_index, slice_index_or, slice_set, subst, arith}
use Rattle.rw_schema.specs.declared.atom.Atom.{Atom}
use Rattle.rw_columns.proofs.Written.{cells_more, front_less, front_last}
use Rattle.rw_columns.proofs.renew.put_all.Goals as goal

pub loop-cell-preserved : goal.loop-cell-preserved
loop-cell-preserved c =
    let names = c.args.names.now in
    let all = c.args.cells.items in
    let mid = c.loop-cell.cells.items in
    let front = c.pop.new.self.items in
    let list = c.loop-cell.list.items in
    let place : ℕ = length front in
    let split = c.in-Some.ensures.items in
    let one_more : length mid ≡ place + 1 = omega (arith, c.in-Some.ensures.len) in
    let bounded : place < length names = omega (arith, c.loop-cell.invariant.front.count, one_more, c.requires.beside) in
    let entry = λ (k : ℕ). slice_index_or all k None in
    let there : slice_index names place < length list = omega (arith, c.requires.within place bounded, c.loop-cell.invariant.written.long) in
    let is_last : c.in-Some.cell ≡ entry place = front_last front mid all c.in-Some.cell None split c.loop-cell.invariant.front in
    let length_is : c.len.result ≡ place = omega arith in
    let is_set : c.set_cell.new.list.items ≡ slice_set list (slice_index names place) (entry place) =
    subst (λ (cell : Option Atom). c.set_cell.new.list.items ≡ slice_set list (slice_index names place) cell) is_last
    (subst (λ (n : ℕ). c.set_cell.new.list.items ≡ slice_set list (slice_index names n) c.in-Some.cell) length_is c.set_cell.ensures.set) in
    record {
      front = front_less front mid all c.in-Some.cell split c.loop-cell.invariant.front;
      written = cells_more (λ k. (length mid ≤ k) × (k < length names)) (λ k. (place ≤ k) × (k < length names)) names entry place c.args.list.now.items list
          c.set_cell.new.list.items c.requires.ascend (λ k more. more.1)
          (λ k more other. (omega (arith, more.0, one_more, other), more.1)) (λ k done. (omega (arith, done.0, one_more), done.1)) (omega arith, bounded)
          there is_set c.loop-cell.invariant.written;
    }
