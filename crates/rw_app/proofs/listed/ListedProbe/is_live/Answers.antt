-- The names are those of the columns.
use Rattle.std.proofs.Common.{◌==◌, ◌∙◌, List, ℕ, ap, sym}
use Rattle.std.specs.List.{list_any}
use Rattle.rw_app.proofs.ColumnLists.{names_same}
use Rattle.rw_app.proofs.listed.ListedProbe.is_live.Goals as goal

pub returns : goal.returns
returns c =
    c.is_live.ensures ∙ ap (λ (names : List ℕ). list_any (λ other. other == c.args.name) names) (sym (names_same c.args.self.now.columns.now c.args.object.0 c.requires))
