-- The object at hand has too many pairs, or the first comes later.
use Rattle.std.proofs.Common.{◌≡◌, ◌∙◌, ◌<◌, ◌≤◌, true, false, nat_le, List, ℕ, length, sym, ap, arith}
use Rattle.rw_limits.specs.Pairs.{pairs_at}
use Rattle.rw_limits.specs.Pullbacks.{most_pairs}
use Rattle.rw_limits.specs.inner.RowCospans.{cospan_in}
use Rattle.rw_limits.proofs.TooLarge.{too_large_here, too_large_next, too_large_past}
use Rattle.rw_limits.proofs.cospan.first_too_large.Goals as goal

pub returns-then-not-branch : goal.returns-then-not-branch
returns-then-not-branch c =
    let S = cospan_in c.args.cospan.now in
    let place = c.loop-place.place in
    let within : place < length c.args.cospan.now.schema.now.objects = omega arith in
    let test = λ (pairs : List (ℕ × ℕ)). nat_le (length pairs) most_pairs in
    let failed : test (pairs_at S place) ≡ false = sym (c.in_ok-has_few_pairs.ensures ∙ ap test c.sides_of.ensures.pairs) ∙ c.if-not-branch.true in
    sym (c.loop-place.invariant ∙ too_large_here S (length c.args.cospan.now.schema.now.objects) place within failed)

pub loop-place-preserved : goal.loop-place-preserved
loop-place-preserved c =
    let S = cospan_in c.args.cospan.now in
    let place = c.loop-place.place in
    let within : place < length c.args.cospan.now.schema.now.objects = omega arith in
    let test = λ (pairs : List (ℕ × ℕ)). nat_le (length pairs) most_pairs in
    let passed : test (pairs_at S place) ≡ true = sym (c.in_ok-has_few_pairs.ensures ∙ ap test c.sides_of.ensures.pairs) ∙ c.if-not-branch.false in
    c.loop-place.invariant ∙ too_large_next S (length c.args.cospan.now.schema.now.objects) place within passed

pub returns : goal.returns
returns c =
    let past : length c.args.cospan.now.schema.now.objects ≤ c.loop-place.place = omega arith in
    sym (c.loop-place.invariant ∙ too_large_past (cospan_in c.args.cospan.now) (length c.args.cospan.now.schema.now.objects) c.loop-place.place past)
