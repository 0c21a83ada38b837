-- The closure gives an entry's name.
use Rattle.std.proofs.Common.{◌∙◌, rules}
use Rattle.std.proofs.lemmas.List.Sorted.{answers_always}
use Rattle.rw_columns.proofs.Searched.{entry_searched}
use Rattle.rw_columns.proofs.entries.place_of_entry.Goals as goal

pub returns : goal.returns
returns g c =
    let facts = c.binary_search_by_key.ensures in
    let by_name = facts.position (λ entry. entry.0) (answers_always _ _ _ (λ f a r g called. search rules)) in
    c.ok.ensures.value ∙ entry_searched c.args.entries.now c.args.name c.binary_search_by_key.result c.requires facts.bound by_name
