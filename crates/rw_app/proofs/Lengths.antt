-- How many lists are kept.
use Rattle.std.proofs.Common.{◌≡◌, ℕ, ◌+◌, List, map, length, sym, ap, ◌∙◌, length-append}
use Rattle.std.proofs.lemmas.List.{length-map}
use Rattle.rw_schema.specs.RowLists.{RowLists}
use Rattle.rw_document.specs.Models.{DocumentLists}
use Rattle.rw_app.specs.Kept.{goal_of_rule, named_goals, list_in, lists_in}

-- there is one list for each rule and each watch
count_kept : (document : DocumentLists) (rows : RowLists) → length (lists_in document rows) ≡ length document.rules + length document.watches
count_kept document rows =
    length-map (named_goals document) (list_in document rows)
    ∙ length-append (map goal_of_rule document.rules) document.watches
    ∙ ap (λ count. count + length document.watches) (length-map document.rules goal_of_rule)

-- and so are there vectors that have these lists
pub count_vectors : {X : Type 0} (items : X → List (List ℕ)) (document : DocumentLists) (rows : RowLists) (vectors : List X)
    → map items vectors ≡ lists_in document rows → length vectors ≡ length document.rules + length document.watches
count_vectors items document rows vectors are = sym (length-map vectors items) ∙ ap length are ∙ count_kept document rows
