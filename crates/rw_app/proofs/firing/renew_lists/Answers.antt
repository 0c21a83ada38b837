-- The lists were fresh before, and are fresh now.
use Rattle.std.proofs.Common.{◌≡◌, ap, length, map, arith}
use Rattle.std.proofs.lemmas.List.{length-map}
use Rattle.rw_rule.specs.RuleParts.{lists_of_watch}
use Rattle.rw_columns.specs.Kept.{lists_of_columns}
use Rattle.rw_document.specs.Models.{document_lists}
use Rattle.rw_app.proofs.Lengths.{count_vectors}
use Rattle.rw_app.proofs.firing.renew_lists.Goals as goal

pub differences-requires-clause-lists : goal.differences-requires-clause-lists
differences-requires-clause-lists g c =
    let document = document_lists c.args.document.now in
    let after = count_vectors (λ list. list.items) document (lists_of_columns c.args.world.now.columns) c.in_ok-lists.lists.items c.in_ok-lists.ensures in
    omega (arith, ap length c.as_slice.ensures.value, ap length c.as_slice-2.ensures.value, c.requires.lists, length-map c.args.document.now.watches.items lists_of_watch)

pub differences-requires-clause-few : goal.differences-requires-clause-few
differences-requires-clause-few g c = omega (arith, ap length c.as_slice.ensures.value, c.requires.lists, c.requires.goals.few_rules, c.requires.goals.few_watches, length-map c.args.document.now.watches.items lists_of_watch)

pub returns-clause-news : goal.returns-clause-news
returns-clause-news g c = rw (c.as_slice.ensures.value, c.as_slice-2.ensures.value, c.in_ok-lists.ensures) at c.in_ok-news.ensures
