-- The change of the picked match is carried out, and all lists are made afresh.
use Rattle.std.proofs.Common.{◌≡◌, ◌∙◌, ℕ, List, map, length, Some, refl, sym, ap, subst, arith}
use Rattle.std.proofs.lemmas.List.{length-map}
use Rattle.rw_schema.specs.Presentation.{signature_of}
use Rattle.rw_schema.specs.RowLists.{RowLists}
use Rattle.rw_spec.specs.Instance.{instance_of, lists_of}
use Rattle.rw_columns.specs.Changes.{changed}
use Rattle.rw_columns.specs.Columned.{Columned}
use Rattle.rw_columns.specs.Kept.{lists_of_columns}
use Rattle.rw_terms.specs.OpEntries.{entries}
use Rattle.rw_terms.specs.OpTables.{codes_of}
use Rattle.rw_rule.specs.RuleParts.{lists_of_watch}
use Rattle.rw_document.specs.Models.{document_lists}
use Rattle.rw_lists.specs.News.{NewsLists, numbered_lists, differences}
use Rattle.rw_print.specs.Lines.{line, step_data}
use Rattle.rw_app.specs.Kept.{lists_in}
use Rattle.rw_app.specs.Runs.{Firing, StepsTo}
use Rattle.rw_app.proofs.ChangedLists.{fits_columns, lists_after}
use Rattle.rw_app.proofs.Lengths.{count_vectors}
use Rattle.rw_app.proofs.Listable.{goals_of_sound}
use Rattle.rw_app.proofs.firing.step.Goals as goal

pub carry_out-requires : goal.carry_out-requires
carry_out-requires g c =
    fits_columns c.args.world.now.columns (signature_of c.args.document.now.schema) c.arrow_list-arrows.ensures.category c.requires.world.over c.args.applied.change
    c.requires.pick.1.answer.fits

pub renew_lists-requires-clause-goals : goal.renew_lists-requires-clause-goals
renew_lists-requires-clause-goals g c = goals_of_sound (length (entries c.args._ops.now)) (document_lists c.args.document.now) c.requires.sound

pub renew_lists-requires-clause-columns : goal.renew_lists-requires-clause-columns
renew_lists-requires-clause-columns g c = c.in_ok-carry_out.ensures.signature ∙ c.requires.world.over

pub renew_lists-requires-clause-lists : goal.renew_lists-requires-clause-lists
renew_lists-requires-clause-lists g c =
    let before = count_vectors (λ list. list.items) (document_lists c.args.document.now) (lists_of_columns c.args.world.now.columns) c.args.world.now.lists.items c.requires.world.fresh in
    omega (arith, before, length-map c.args.document.now.watches.items lists_of_watch)

pub returns : goal.returns
returns g c =
    let document = document_lists c.args.document.now in
    let C = signature_of document.schema in
    let rule = c.args.rule.now in
    let old : Columned = c.args.world.now.columns in
    let before : RowLists = lists_of_columns old in
    let after : RowLists = lists_of_columns c.carry_out.new.columns in
    let tuple = c.args.applied.tuple in
    let change = c.args.applied.change in
    let refused = c.args.refused.now.items in
    let applied = c.requires.pick.1 in
    let left : after ≡ lists_of C (changed C (instance_of C before) change) change.added.next =
    lists_after old C c.arrow_list-arrows.ensures.category c.requires.world.over change applied.answer.fits c.carry_out.new.columns c.in_ok-carry_out.ensures applied.answer.ascending in
    let news : numbered_lists c.in_ok-news.news ≡ differences (lists_in document before) (lists_in document after) =
    rw c.requires.world.fresh at c.in_ok-news.ensures.news in
    let firing : Firing = record { place = 0; rule = rule; before = before; refused = refused; applied = Some tuple; after = after } in (
      firing,
      record {
        fires = record {
          picks = c.requires.pick.0;
          changes = subst (λ (rows : RowLists). StepsTo C (codes_of (entries c.args._ops.now)) rule before tuple rows) (sym left) applied.step;
        };
        at_place = refl;
        of_rule = refl;
        from_rows = refl;
        to_rows = ap lists_of_columns (sym c.in_ok-news.ensures.columns);
        applies = refl;
        line = c.in_ok-line.ensures
            ∙ ap (λ (name : List ℕ). line (step_data document.schema 0 name (Some tuple) (numbered_lists c.in_ok-news.news) refused)) c.name.ensures
            ∙ ap (λ (news : List (ℕ × NewsLists)). line (step_data document.schema 0 rule.name (Some tuple) news refused)) news;
        world = record {
          over = ap (λ (columns : Columned). columns.signature) c.in_ok-news.ensures.columns ∙ c.in_ok-carry_out.ensures.signature ∙ c.requires.world.over;
          fresh = c.in_ok-news.ensures.lists ∙ ap (λ (columns : Columned). lists_in document (lists_of_columns columns)) (sym c.in_ok-news.ensures.columns);
        };
      },
    )
