-- A set is tested, and then those that are left.
use Rattle.std.proofs.Common.{◌≡◌, ◌∙◌, ◌<◌, ℕ, Option, List, length, get_or, sym}
use Rattle.rw_schema.specs.First.{fault_unless}
use Rattle.rw_schema.proofs.Firsts.{first_next, unless_true}
use Rattle.rw_rule.specs.declared.fault.RuleFault.{RuleFault}
use Rattle.rw_rule.specs.declared.fault.RuleFault.TheVariants.{Unbound}
use Rattle.rw_rule.specs.declared.set.SetCell.{SetCell}
use Rattle.rw_rule.specs.Sets.{is_closed}
use Rattle.rw_rule.proofs.sets.first_unbound_set.Goals as goal

pub loop-place-preserved : goal.loop-place-preserved
loop-place-preserved c =
    let left = c.args.parts.now.goal.left in
    let sets : List SetCell = c.args.parts.now.sets.items in
    let set : SetCell = c.set-item.result in
    let place : ℕ = c.loop-place.place in
    let within : place < length sets = rw (← c.deref-set-items.ensures.value) c.loop-place-test.true in
    let is : set ≡ get_or sets place set = rw (← c.deref-set-items.ensures.value) c.set-item.is in
    let fault : ℕ → SetCell → Option RuleFault = λ place (set : SetCell). fault_unless (is_closed left set.term) (Unbound place) in
    c.loop-place.invariant
    ∙ first_next fault place sets set within is (unless_true (is_closed left set.term) (Unbound place) (sym c.is_closed.ensures ∙ c.if-not-is_closed.false))
