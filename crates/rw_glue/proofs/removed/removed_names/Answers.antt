-- The names of both lists are put in order.
use Rattle.std.proofs.Common.{◌∙◌, ℕ, List, ◌++◌, Contains, ap, subst}
use Rattle.rw_columns.specs.Changes.{entry_names}
use Rattle.rw_delta.specs.Deltas.{IsListOf}
use Rattle.rw_glue.proofs.Steps.{removed_from}
use Rattle.rw_glue.proofs.removed.removed_names.Goals as goal

pub returns : goal.returns
returns c = removed_from c.args.gone.now (entry_names c.args.moved.now) c.put_in_order.new.names.items
    (subst (λ (names : List ℕ). IsListOf (Contains names) c.put_in_order.new.names.items)
    (c.in_ok-append_names.ensures ∙ ap (λ (names : List ℕ). names ++ entry_names c.args.moved.now) c.in_ok-names.ensures) c.put_in_order.ensures)
