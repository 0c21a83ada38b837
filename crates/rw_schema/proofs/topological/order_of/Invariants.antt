-- One object a round is placed, and the arrows of those placed lead back.
use Rattle.std.proofs.Common.{◌≡◌, length}
use Rattle.rw_schema.proofs.Orders.{IsBegun}
use Rattle.rw_schema.proofs.topological.order_of.Given as goal

abbrev pub invariant-loop-round : goal.invariant-loop-round
invariant-loop-round l = record {
  long : length l.placed.items ≡ l.round;
  begun : IsBegun l.objects l.arrows l.placed.items;
}
