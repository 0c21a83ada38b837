-- The name stays or comes.
use Rattle.std.proofs.Common.{◌==◌, ◌∙◌, ◌||◌, ℕ, Bool, List, sym, ap}
use Rattle.std.specs.List.{list_any}
use Rattle.rw_schema.specs.RowLists.{list_at}
use Rattle.rw_columns.specs.Columned.{instance_of_columns}
use Rattle.rw_delta.proofs.Live.{found_after}
use Rattle.rw_delta.proofs.reads.is_live_after.Goals as goal

pub returns-then-stays : goal.returns-then-stays
returns-then-stays c =
    let change = c.args.change.now in
    let added = list_at change.added.names c.args.object.0 in
    c.if-stays.true
    ∙ ap (λ (stays : Bool). stays || list_any (λ other. other == c.args.name) added) (sym c.if-stays.true ∙ c.stays.ensures)
    ∙ found_after ((instance_of_columns c.args.columns.now).names c.args.object.0) (list_at change.removed c.args.object.0) added c.args.name

pub returns-else-stays : goal.returns-else-stays
returns-else-stays c =
    let change = c.args.change.now in
    let added = list_at change.added.names c.args.object.0 in
    c.has_name.ensures
    ∙ ap (λ (names : List ℕ). list_any (λ other. other == c.args.name) names) c.added_names.ensures
    ∙ ap (λ (stays : Bool). stays || list_any (λ other. other == c.args.name) added) (sym c.if-stays.false ∙ c.stays.ensures)
    ∙ found_after ((instance_of_columns c.args.columns.now).names c.args.object.0) (list_at change.removed c.args.object.0) added c.args.name
