-- The goals of a document whose lists are kept, and these lists.
use Rattle.std.specs.Prelude.{◌≤◌, ℕ, List, length, map, ◌++◌}
use Rattle.std.specs.List.{All}
use Rattle.rw_schema.specs.Presentation.{signature_of}
use Rattle.rw_schema.specs.RowLists.{RowLists}
use Rattle.rw_spec.specs.Instance.{instance_of}
use Rattle.rw_spec.specs.Tabled.{IsOver}
use Rattle.rw_rule.specs.RuleLists.{RuleLists, WatchLists}
use Rattle.rw_lists.specs.Fresh.{IsListable, fresh_list}
use Rattle.rw_document.specs.Models.{DocumentLists}

-- the instance is over the schema, all goals can be listed, and there are few of them
pub record HasGoals (document : DocumentLists) : Type 0 where
  pub table : IsOver document.schema document.table
  pub rules : All (λ (rule : RuleLists). IsListable (signature_of document.schema) rule.goal) document.rules
  pub watches : All (λ (watch : WatchLists). IsListable (signature_of document.schema) watch.goal) document.watches
  pub few_rules : length document.rules ≤ 256
  pub few_watches : length document.watches ≤ 64

-- a rule's goal under its name
abbrev pub goal_of_rule : RuleLists → WatchLists
goal_of_rule rule = record { name = rule.name; goal = rule.goal }

-- the goals whose lists are kept, each under its name: those of the rules, and then the watches
abbrev pub named_goals : DocumentLists → List WatchLists
named_goals document = map goal_of_rule document.rules ++ document.watches

-- the list of a goal in an instance over the document's schema
abbrev pub list_in : DocumentLists → RowLists → WatchLists → List (List ℕ)
list_in document rows named = fresh_list (signature_of document.schema) (instance_of (signature_of document.schema) rows) named.goal

-- the kept lists in an instance: of each goal all its matches, in lexicographic order
abbrev pub lists_in : DocumentLists → RowLists → List (List (List ℕ))
lists_in document rows = map (list_in document rows) (named_goals document)
