use Rattle.std.proofs.Common.{◌≡◌, ℕ, List, map, None, refl, sym, ap, ◌∙◌}
use Rattle.rw_columns.specs.Kept.{lists_of_columns}
use Rattle.rw_document.specs.Models.{document_lists}
use Rattle.rw_lists.specs.News.{NewsLists, lists_of_entry, differences}
use Rattle.rw_print.specs.Lines.{line, step_data}
use Rattle.rw_app.specs.Kept.{lists_in}
use Rattle.rw_app.specs.Runs.{Firing}
use Rattle.rw_app.proofs.Differences.{none_changed}
use Rattle.rw_app.proofs.firing.stay.Goals as goal

pub returns : goal.returns
returns g c =
    let document = document_lists c.args.document.now in
    let rule = c.args.rule.now in
    let rows = lists_of_columns c.args.world.now.columns in
    let refused = c.args.refused.now.items in
    let news : map lists_of_entry c.new.result.items ≡ differences (lists_in document rows) (lists_in document rows) =
    ap (map lists_of_entry) c.new.ensures.items ∙ sym (none_changed (lists_in document rows)) in
    let firing : Firing = record { place = 0; rule = rule; before = rows; refused = refused; applied = None; after = rows } in (
      firing,
      record {
        fires = record { picks = c.requires.pick.0; changes = refl };
        at_place = refl;
        of_rule = refl;
        from_rows = refl;
        to_rows = refl;
        applies = refl;
        line = c.in_ok-line.ensures
            ∙ ap (λ (name : List ℕ). line (step_data document.schema 0 name None (map lists_of_entry c.new.result.items) refused)) c.name.ensures
            ∙ ap (λ (news : List (ℕ × NewsLists)). line (step_data document.schema 0 rule.name None news refused)) news;
        world = c.requires.world;
      },
    )
