-- The numbers are sorted and stand there once.
use Rattle.std.proofs.Common.{◌≡◌, ℕ, ◌<◌, ◌+◌, true, List, length, get_or, eqb, sym, arith}
use Rattle.std.specs.List.{dedup}
use Rattle.std.proofs.lemmas.Bool.{lt-ltb}
use Rattle.std.proofs.lemmas.List.{get_or_default}
use Rattle.std.proofs.lemmas.List.Filters.{dedup_is}
use Rattle.std.proofs.lemmas.List.Kept.{Contains-dedup_nat, Contains-from_dedup}
use Rattle.std.proofs.lemmas.List.Sorted.{Contains-permutation, IsPermutation-sym}
use Rattle.std.proofs.lemmas.Map.Keys.{IsStrictlyIncreasing-dedup}
use Rattle.rw_spec.specs.Ascending.{ascends}
use Rattle.rw_spec.proofs.Ascending.{ascends_answer}
use Rattle.rw_delta.proofs.ordered.put_in_order.Goals as goal

-- numbers of which each is below the next ascend
ascends_each : (xs : List ℕ) → ((k : ℕ) → k + 1 < length xs → get_or xs k 0 < get_or xs (k + 1) 0) → ascends xs ≡ true
ascends_each xs each =
    sym (ascends_answer xs true (λ k d within.
    let below = each k within in
    let first = get_or_default xs k d 0 (omega (arith, within)) in
    let next = get_or_default xs (k + 1) d 0 within in
    sym (lt-ltb (get_or xs k d) (get_or xs (k + 1) d) (omega (arith, below, first, next)))))

pub returns : goal.returns
returns c =
    let sorted = c.sort_unstable.new.self.items in
    let names = c.args.names.now.items in
    let moved = c.sort_unstable.ensures.permutation in
    rw (dedup_is eqb sorted c.dedup.new.self.items c.dedup.ensures.filtered) (record {
      ascend = ascends_each (dedup eqb sorted) (IsStrictlyIncreasing-dedup sorted c.sort_unstable.ensures.sorted);
      members = λ x. (
        λ there. Contains-permutation sorted names x (IsPermutation-sym names sorted moved) (Contains-from_dedup eqb sorted x there),
        λ there. Contains-dedup_nat sorted x (Contains-permutation names sorted x moved there),
      );
    })
