-- What is found among some items, and which goal of a document has a name.
use Rattle.std.proofs.Common.{◌≡◌, ℕ, suc, Bool, true, false, cond, List, [], ◌∷◌, Option, Some, find, map, refl, subst, arith}
use Rattle.std.specs.List.{All}
use Rattle.std.specs.Option.{option_map, option_or}
use Rattle.std.specs.Str.{bytes_eq}
use Rattle.std.proofs.lemmas.List.Folds.{find-append}
use Rattle.rw_rule.specs.RuleLists.{RuleLists, WatchLists}
use Rattle.rw_rule.specs.RuleParts.{lists_of_watch}
use Rattle.rw_rule.specs.declared.watch.Watch.{Watch}
use Rattle.rw_document.specs.declared.document.Document.{Document}
use Rattle.rw_document.specs.Models.{document_lists}
use Rattle.rw_app.specs.Kept.{goal_of_rule, named_goals}

-- what holds of the first of some items and of the one found later holds of the one found
found_first : {X : Type 0} (P : X → Type 0) (passes : Bool) (y : X) (rest : Option X) (x : X) → cond passes (Some y) rest ≡ Some x
    → P y → (rest ≡ Some x → P x) → P x
found_first P true y rest x found first later = let same : y ≡ x = cc in subst P same first
found_first P false y rest x found first later = later found

-- what holds of each item holds of the one that is found
pub found_holds : {X : Type 0} (P : X → Type 0) (test : X → Bool) (xs : List X) (x : X) → find test xs ≡ Some x → All P xs → P x
found_holds P test [] x found all = let no : ⊥ = cc in absurd no
found_holds P test (y ∷ xs) x found all =
    found_first P (test y) y (find test xs) x found (all 0 y (omega arith))
    (λ later. found_holds P test xs x later (λ k d within. all (suc k) d (omega arith)))

-- the image of the first of some items, or of the one found later, is the image of the one found
find_first : {X Y : Type 0} (f : X → Y) (passes : Bool) (x : X) (rest : Option X) (others : Option Y) → others ≡ option_map f rest
    → cond passes (Some (f x)) others ≡ option_map f (cond passes (Some x) rest)
find_first f true x rest others same = refl
find_first f false x rest others same = same

-- what is found among images is the image of what is found
find_map : {X Y : Type 0} (f : X → Y) (test : Y → Bool) (xs : List X) → find test (map f xs) ≡ option_map f (find (λ x. test (f x)) xs)
find_map f test [] = refl
find_map f test (x ∷ xs) = find_first f (test (f x)) x (find (λ other. test (f other)) xs) (find test (map f xs)) (find_map f test xs)

-- a goal's name is looked for among the rules, and then among the watches
pub goal_found : (document : Document) (name : List ℕ)
    → find (λ named. bytes_eq name named.name) (named_goals (document_lists document))
    ≡ option_or (option_map goal_of_rule (find (λ (rule : RuleLists). bytes_eq name rule.name) document.rules.items))
    (option_map lists_of_watch (find (λ (watch : Watch). bytes_eq name watch.name) document.watches.items))
goal_found document name =
    let lists = document_lists document in
    let is_named : WatchLists → Bool = λ named. bytes_eq name named.name in
    rw (find-append is_named (map goal_of_rule lists.rules) lists.watches, find_map goal_of_rule is_named lists.rules, find_map lists_of_watch is_named document.watches.items) refl
