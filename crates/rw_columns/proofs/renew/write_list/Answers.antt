-- The last entry that is left is written.
use Rattle.std.proofs.Common.{◌≡◌, ◌∙◌, ◌+◌, ◌<◌, ◌≤◌, ℕ, None, Option, length, slice_index, slice_index_or, slice_set, sym, subst, arith}
use Rattle.std.proofs.lemmas.List.{length-map}
use Rattle.rw_schema.specs.declared.atom.Atom.{Atom}
use Rattle.rw_columns.specs.Changes.{entry_names, entry_values}
use Rattle.rw_columns.specs.inner.Written.{cell_at}
use Rattle.rw_columns.proofs.Replaced.{looked, each_beside}
use Rattle.rw_columns.proofs.Written.{cells_more, front_less, entry_last, written_same}
use Rattle.rw_columns.proofs.renew.write_list.Goals as goal

pub set_cell-requires : goal.set_cell-requires
set_cell-requires c =
    let last = entry_last c.pop.new.self.items c.loop-name.entries.items c.args.entries.items c.in-Some.name c.in-Some.cell None
    c.in-Some.ensures.items c.loop-name.invariant.front in
    omega (arith, c.requires.within (length c.pop.new.self.items) last.0, last.1, c.loop-name.invariant.written.long)

pub loop-name-preserved : goal.loop-name-preserved
loop-name-preserved c =
    let all = c.args.entries.items in
    let mid = c.loop-name.entries.items in
    let front = c.pop.new.self.items in
    let list = c.loop-name.list.items in
    let new = c.set_cell.new.list.items in
    let place : ℕ = length front in
    let split = c.in-Some.ensures.items in
    let one_more : length mid ≡ place + 1 = omega (arith, c.in-Some.ensures.len) in
    let last = entry_last front mid all c.in-Some.name c.in-Some.cell None split c.loop-name.invariant.front in
    let count : length (entry_names all) ≡ length all = length-map all (λ entry. entry.0) in
    let entry = λ (k : ℕ). slice_index_or (entry_values all) k None in
    let there : slice_index (entry_names all) place < length list = omega (arith, c.requires.within place last.0, c.loop-name.invariant.written.long) in
    let is_set : new ≡ slice_set list (slice_index (entry_names all) place) (entry place) =
    subst (λ (cell : Option Atom). new ≡ slice_set list (slice_index (entry_names all) place) cell) last.2
    (subst (λ (name : ℕ). new ≡ slice_set list name c.in-Some.cell) last.1 c.set_cell.ensures.set) in
    record {
      front = front_less front mid all (c.in-Some.name, c.in-Some.cell) split c.loop-name.invariant.front;
      written = cells_more (λ k. (length mid ≤ k) × (k < length all)) (λ k. (place ≤ k) × (k < length all)) (entry_names all) entry place c.args.list.now.items list new
          c.requires.ascend (λ k more. omega (arith, more.1, count))
          (λ k more other. (omega (arith, more.0, one_more, other), more.1)) (λ k done. (omega (arith, done.0, one_more), done.1)) (omega arith, last.0)
          there is_set c.loop-name.invariant.written;
    }

pub returns : goal.returns
returns c =
    let all = c.args.entries.items in
    let left = c.loop-name.entries.items in
    let none_left : length left ≡ 0 = omega (arith, c.in_default.ensures.cases.0) in
    let count : length (entry_names all) ≡ length all = length-map all (λ entry. entry.0) in
    let beside_each : length (entry_values all) ≡ length (entry_names all) = length-map all (λ entry. entry.1) ∙ sym count in
    let entry = λ (k : ℕ). slice_index_or (entry_values all) k None in
    record {
      long = c.loop-name.invariant.written.long;
      cells = looked (entry_names all) (entry_values all) entry (cell_at c.args.list.now.items) (cell_at c.loop-name.list.items) c.requires.ascend
          (each_beside (entry_names all) (entry_values all) None beside_each)
          (written_same (λ k. (length left ≤ k) × (k < length all)) (λ k. k < length (entry_names all)) (entry_names all) entry
          (cell_at c.args.list.now.items) (cell_at c.loop-name.list.items)
          (λ k within. (omega (arith, none_left), omega (arith, within, count))) (λ k done. omega (arith, done.1, count)) c.loop-name.invariant.written.written);
    }
