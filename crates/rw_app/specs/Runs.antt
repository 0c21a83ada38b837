-- The run of a document: the firings of its schedule, one after the other.
use Rattle.std.specs.Prelude.{◌≡◌, ◌<◌, ◌-◌, ℕ, List, [], ◌∷◌, ◌++◌, length, map, Option, Some, None, slice_get}
use Rattle.std.specs.List.{All}
use Rattle.rw_schema.specs.Presentation.{signature_of}
use Rattle.rw_schema.specs.RowLists.{RowLists}
use Rattle.rw_schema.specs.Signature.{Signature, IsCategory}
use Rattle.rw_spec.specs.Instance.{instance_of}
use Rattle.rw_terms.specs.declared.code.OpCode.{OpCode}
use Rattle.rw_rule.specs.RuleLists.{RuleLists}
use Rattle.rw_rule.specs.declared.refusal.Refusal.{Refusal}
use Rattle.rw_rule.specs.RuleFaults.{IsRuleOver}
use Rattle.rw_rule.specs.declared.kind.RuleKind.TheVariants.{Dpo}
use Rattle.rw_table.specs.TableFaults.{table_fault}
use Rattle.rw_redex.specs.Step.{IsStep}
use Rattle.rw_redex.specs.Verdicts.{Obstructs}
use Rattle.rw_lists.specs.Fresh.{fresh_list}
use Rattle.rw_document.specs.Models.{DocumentLists}
use Rattle.rw_print.specs.declared.last.End.{End}
use Rattle.rw_print.specs.declared.last.End.TheVariants.{Done, Failed, Spent}

-- ---- one firing

-- a firing of a rule's box: the instance before and after, the matches that were refused, each with its obstruction, and
-- the match that was applied
pub record Firing : Type 0 where
  pub place : ℕ
  pub rule : RuleLists
  pub before : RowLists
  pub refused : List (List ℕ × Refusal)
  pub applied : Option (List ℕ)
  pub after : RowLists

-- this is what obstructs the rule first at the match in the instance of the lists
abbrev pub IsObstructed : Signature → List OpCode → RuleLists → RowLists → List ℕ → Refusal → Type 0
IsObstructed C codes rule rows tuple refusal = Obstructs C codes rule tuple (instance_of C rows) rows.next refusal

-- the step of the rule at the match in the instance of the lists leaves these lists
abbrev pub StepsTo : Signature → List OpCode → RuleLists → RowLists → List ℕ → RowLists → Type 0
StepsTo C codes rule rows tuple after = IsStep C codes rule (instance_of C rows) rows.next tuple after

-- there is a step
abbrev pub HasStep : Signature → List OpCode → RuleLists → RowLists → List ℕ → Type 0
HasStep C codes rule rows tuple = (after : RowLists) × StepsTo C codes rule rows tuple after

abbrev pub tuples_of : List (List ℕ × Refusal) → List (List ℕ)
tuples_of refused = map (λ (entry : List ℕ × Refusal). entry.0) refused

-- each refused match has this first obstruction
abbrev pub AreRefused : Signature → List OpCode → RuleLists → RowLists → List (List ℕ × Refusal) → Type 0
AreRefused C codes rule rows refused = All (λ (entry : List ℕ × Refusal). IsObstructed C codes rule rows entry.0 entry.1) refused

-- of a list of tuples the first that fits is taken, and those before it are refused, each for its reason; where none fits all
-- are refused
abbrev pub TakesFirst : (List ℕ → Type 0) → (List ℕ → Refusal → Type 0) → List (List ℕ) → List (List ℕ × Refusal) → Option (List ℕ) → Type 0
TakesFirst Fits Fails found refused None = (found ≡ tuples_of refused) × All (λ (entry : List ℕ × Refusal). Fails entry.0 entry.1) refused
TakesFirst Fits Fails found refused (Some tuple) =
    ((rest : List (List ℕ)) × (found ≡ tuples_of refused ++ tuple ∷ rest)) × All (λ (entry : List ℕ × Refusal). Fails entry.0 entry.1) refused × Fits tuple

-- of a list of matches the first that has a step is picked, and those before it are refused, each with its first obstruction;
-- where none has a step none is picked, and all are refused
abbrev pub Picks : Signature → List OpCode → RuleLists → RowLists → List (List ℕ) → List (List ℕ × Refusal) → Option (List ℕ) → Type 0
Picks C codes rule rows = TakesFirst (HasStep C codes rule rows) (IsObstructed C codes rule rows)

-- a picked match is applied; where none is picked the instance stays
abbrev pub Changes : Signature → List OpCode → RuleLists → RowLists → Option (List ℕ) → RowLists → Type 0
Changes C codes rule before None after = after ≡ before
Changes C codes rule before (Some tuple) after = StepsTo C codes rule before tuple after

-- the matches are tried in the order of the rule's list, and the one that is picked is applied
pub record Fires (C : Signature) (codes : List OpCode) (firing : Firing) : Type 0 where
  pub picks : Picks C codes firing.rule firing.before (fresh_list C (instance_of C firing.before) firing.rule.goal) firing.refused firing.applied
  pub changes : Changes C codes firing.rule firing.before firing.applied firing.after

-- ---- the schedule

pub data Box : Type 0 where
  rule : RuleLists → Box
  exit : Box

-- the default schedule: the first rule until it fails, and then the exit; without rules the exit alone
abbrev pub default_schedule : List RuleLists → List Box
default_schedule [] = exit ∷ []
default_schedule (first ∷ others) = rule first ∷ exit ∷ []

-- where the rule's box leads: back to itself where it was applied, else to the exit
abbrev pub place_after : Option (List ℕ) → ℕ
place_after None = 1
place_after (Some tuple) = 0

-- where a run stands: at which box, with how much fuel, in which instance
pub record Stand : Type 0 where
  pub place : ℕ
  pub fuel : ℕ
  pub rows : RowLists

-- a firing takes one fuel
abbrev pub stand_after : Stand → Firing → Stand
stand_after stand firing = record { place = place_after firing.applied; fuel = stand.fuel - 1; rows = firing.after }

-- the box at which the run stands fires
pub record IsFired (C : Signature) (codes : List OpCode) (boxes : List Box) (stand : Stand) (firing : Firing) : Type 0 where
  pub box : slice_get boxes stand.place ≡ Some (rule firing.rule)
  pub fuel : 0 < stand.fuel
  pub place : firing.place ≡ stand.place
  pub before : firing.before ≡ stand.rows
  pub fires : Fires C codes firing

-- a run ends at the exit, or at a rule's box without fuel; no box fails yet
abbrev pub EndsAt : List Box → Stand → End → Type 0
EndsAt boxes stand Done = slice_get boxes stand.place ≡ Some exit
EndsAt boxes stand Failed = ⊥
EndsAt boxes stand Spent = ((first : RuleLists) × (slice_get boxes stand.place ≡ Some (rule first))) × (stand.fuel ≡ 0)

-- ---- the run

-- the firings, in order, and where and how the run ends
pub record Run : Type 0 where
  pub firings : List Firing
  pub last : Stand
  pub end : End

-- the firings lead from where the run stands to its end
abbrev pub Leads : Signature → List OpCode → List Box → Stand → List Firing → Stand → End → Type 0
Leads C codes boxes stand [] last end = (last ≡ stand) × EndsAt boxes stand end
Leads C codes boxes stand (firing ∷ firings) last end = IsFired C codes boxes stand firing × Leads C codes boxes (stand_after stand firing) firings last end

-- what a run is of: an instance of the category that the schema presents, and double-pushout rules over it
pub record CanRun (ops : ℕ) (document : DocumentLists) : Type 0 where
  pub category : IsCategory (signature_of document.schema)
  pub instance : table_fault (signature_of document.schema) document.table.rows ≡ None
  pub rules : All (IsRuleOver (signature_of document.schema) ops) document.rules
  pub kinds : All (λ (rule : RuleLists). rule.kind ≡ Dpo) document.rules

-- the run of a document with so much fuel, from its instance and its schedule's first box
abbrev pub IsRun : List OpCode → DocumentLists → ℕ → Run → Type 0
IsRun codes document fuel run = CanRun (length codes) document
    × Leads (signature_of document.schema) codes (default_schedule document.rules)
    (record { place = 0; fuel = fuel; rows = document.table.rows }) run.firings run.last run.end
