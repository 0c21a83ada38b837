-- Each list ascends.
use Rattle.std.proofs.Common.{◌≡◌, true, All, List, ℕ, [], subst}
use Rattle.rw_spec.specs.Ascending.{ascends}
use Rattle.rw_delta.proofs.changed.Changed.names.Goals as goal

pub returns-clause-ascend : goal.returns-clause-ascend
returns-clause-ascend c =
    let up = subst (λ (lists : List (List ℕ)). All (λ list. ascends list ≡ true) lists) c.self.view_is c.self.invariant in
    let list = rw (c.as_slice.ensures.value, c.self.view_is) at c.list_of.ensures in
    rw list (up c.args.object.0 [] c.requires)
