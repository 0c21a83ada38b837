-- One object more is placed in each round; where none can be, there is a cycle, and past the last round all are in order.
use Rattle.std.proofs.Common.{◌≡◌, ℕ, ◌<◌, ◌≤◌, false, List, [], ◌∷◌, ◌++◌, length, ap, arith, refl, length-append}
use Rattle.rw_schema.specs.declared.ids.ObjectId.{ObjectId}
use Rattle.rw_schema.specs.inner.Topological.{is_next}
use Rattle.rw_schema.proofs.Orders.{begun_empty, begun_more, ordered, stopped}
use Rattle.rw_schema.proofs.topological.order_of.Goals as goal

pub loop-round-init : goal.loop-round-init
loop-round-init c =
    let none : c.new-placed.result.items ≡ [] = c.new-placed.ensures.items in
    record {
      long = ap length none;
      begun = rw none (begun_empty c.args.objects c.args.arrows.now);
    }

pub returns-in_default : goal.returns-in_default
returns-in_default c C many are =
    let placed : List ObjectId = c.loop-round.placed.items in
    let few : length placed < c.args.objects = rw c.loop-round.invariant.long c.loop-round-test.true in
    let none : (q : ℕ) → q < c.args.objects → is_next c.args.arrows.now placed q ≡ false = rw c.as_slice.ensures.value at c.in_default.ensures in
    stopped C c.args.objects c.args.arrows.now placed are c.requires.ends few none

pub loop-round-preserved : goal.loop-round-preserved
loop-round-preserved c =
    let placed : List ObjectId = c.loop-round.placed.items in
    let next = rw c.as_slice.ensures.value at c.in-Some.ensures in
    let more : c.push.new.self.items ≡ placed ++ c.in-Some.object ∷ [] = c.in_ok-push.ensures.items in
    record {
      long = rw (more, length-append placed (c.in-Some.object ∷ []), c.loop-round.invariant.long) refl;
      begun = rw more (begun_more c.args.objects c.args.arrows.now placed c.in-Some.object c.loop-round.invariant.begun next.0 next.1);
    }

pub returns : goal.returns
returns c C many are =
    let placed : List ObjectId = c.loop-round.placed.items in
    let last : c.args.objects ≤ c.loop-round.round = c.loop-round-test.false in
    let long : length placed ≡ c.args.objects = omega (arith, c.loop-round.invariant.long, c.loop-round.auto.round-end, last) in
    ordered C c.args.objects c.args.arrows.now placed many are c.requires.ends c.loop-round.invariant.begun long
