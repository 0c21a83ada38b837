-- The kept lists are those of the rules and then those of the watches.
use Rattle.std.proofs.Common.{◌≡◌, ◌∙◌, ◌++◌, ℕ, List, [], ◌∷◌, map, length, refl, sym, ap, subst, arith}
use Rattle.std.specs.List.{All}
use Rattle.std.proofs.lemmas.List.{get_or-map, length-map, map-append}
use Rattle.rw_schema.specs.Presentation.{signature_of}
use Rattle.rw_schema.specs.RowLists.{RowLists}
use Rattle.rw_spec.specs.Instance.{instance_of}
use Rattle.rw_rule.specs.RuleLists.{RuleLists, WatchLists}
use Rattle.rw_rule.specs.RuleParts.{goal_of_parts, lists_of_watch}
use Rattle.rw_rule.specs.declared.watch.Watch.{Watch}
use Rattle.rw_lists.specs.Fresh.{fresh_list}
use Rattle.rw_document.specs.declared.document.Document.{Document}
use Rattle.rw_document.specs.Models.{document_lists}
use Rattle.rw_app.specs.Kept.{goal_of_rule, list_in, lists_in}

-- mapping twice is mapping once
map_twice : {X Y Z : Type 0} (f : X → Y) (g : Y → Z) (xs : List X) → map g (map f xs) ≡ map (λ x. g (f x)) xs
map_twice f g [] = refl
map_twice f g (x ∷ xs) = rw (map_twice f g xs) refl

-- the lengths of vectors that have these lists
pub kept_lengths : {X : Type 0} (items : X → List (List ℕ)) (vectors : List X) (lists : List (List (List ℕ))) → map items vectors ≡ lists
    → map (λ vector. length (items vector)) vectors ≡ map length lists
kept_lengths items vectors lists are = sym (map_twice items length vectors) ∙ ap (map length) are

-- what holds of the lists of all watches holds of each watch
pub each_watch : (P : WatchLists → Type 0) (watches : List Watch) → All P (map lists_of_watch watches) → All (λ watch. P (lists_of_watch watch)) watches
each_watch P watches holds = λ k d within.
    subst P (get_or-map lists_of_watch watches k d (lists_of_watch d) within) (holds k (lists_of_watch d) (omega (arith, length-map watches lists_of_watch)))

-- the lists of the rules and then those of the watches are the lists that are kept
pub lists_kept : (document : Document) (rows : RowLists)
    → map (λ (rule : RuleLists). fresh_list (signature_of document.schema) (instance_of (signature_of document.schema) rows) rule.goal) document.rules.items
    ++ map (λ watch. fresh_list (signature_of document.schema) (instance_of (signature_of document.schema) rows) (goal_of_parts watch.goal)) document.watches.items
    ≡ lists_in (document_lists document) rows
lists_kept document rows =
    let lists = document_lists document in
    let listed = list_in lists rows in
    rw (
      map-append listed (map goal_of_rule lists.rules) lists.watches,
      map_twice goal_of_rule listed lists.rules,
      map_twice lists_of_watch listed document.watches.items,
    ) refl
