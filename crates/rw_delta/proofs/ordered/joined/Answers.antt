-- The names of both lists are put in order.
use Rattle.std.proofs.Common.{◌≡◌, ◌∙◌, ◌++◌, ℕ, List, ap, subst}
use Rattle.std.specs.Prelude.{Contains}
use Rattle.rw_delta.specs.Deltas.{IsListOf}
use Rattle.rw_delta.proofs.Gathered.{joined_from}
use Rattle.rw_delta.proofs.ordered.joined.Goals as goal

pub returns : goal.returns
returns c =
    let all : c.append_all-2.new.names.items ≡ c.args.first.now ++ c.args.second.now =
    c.in_ok-append_all-2.ensures ∙ ap (λ (names : List ℕ). names ++ c.args.second.now) (c.in_ok-append_all.ensures ∙ ap (λ (names : List ℕ). names ++ c.args.first.now) c.new-names.ensures.items) in
    joined_from c.args.first.now c.args.second.now c.put_in_order.new.names.items (subst (λ (names : List ℕ). IsListOf (Contains names) c.put_in_order.new.names.items) all c.put_in_order.ensures)
