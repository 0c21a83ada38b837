-- When lists are a rule, and the first fault of those that are none.
use Rattle.std.specs.Prelude.{◌≡◌, ◌<◌, ℕ, Bool, true, false, not, ◌&&◌, ◌||◌, is_none, length, map, List, [], Option, Some, None, Result, Ok, Err}
use Rattle.std.specs.List.{All, list_all}
use Rattle.rw_schema.specs.First.{or_else, fault_unless}
use Rattle.rw_schema.specs.Signature.{Signature}
use Rattle.rw_schema.specs.Topological.{HasCycle}
use Rattle.rw_schema.specs.declared.atom.Kind.{Kind}
use Rattle.rw_pattern.specs.MapFaults.{map_fault}
use Rattle.rw_pattern.specs.PatternFaults.{IsPatternOver}
use Rattle.rw_pattern.specs.PatternLists.{PatternLists}
use Rattle.rw_rule.specs.Images.{is_injective}
use Rattle.rw_rule.specs.RuleLists.{ConditionLists, GoalLists, RuleLists}
use Rattle.rw_rule.specs.Sets.{unbound_set, bad_set, set_again, value_missing}
use Rattle.rw_rule.specs.declared.fault.RuleFault.{RuleFault}
use Rattle.rw_rule.specs.declared.fault.RuleFault.TheVariants.{NotHom, NotInjective, CyclicSqpo, Unbound, BadTerm, SetTwice, NoValueGiven, OutOfMemory}
use Rattle.rw_rule.specs.declared.kind.RuleKind.{RuleKind}
use Rattle.rw_rule.specs.declared.kind.RuleKind.TheVariants.{Dpo, Spo, Sqpo}
use Rattle.rw_rule.specs.declared.set.SetCell.{SetCell}

-- ---- the maps

-- the images are a map of patterns
abbrev pub is_map : Signature → PatternLists → PatternLists → List (List ℕ) → Bool
is_map C from to images = is_none (map_fault C from to images)

-- both maps from the kept pattern are maps of patterns, and so is that of each condition from the left pattern
abbrev pub are_maps : Signature → RuleLists → Bool
are_maps C rule = is_map C rule.keep rule.goal.left rule.l && is_map C rule.keep rule.right rule.r
    && list_all (λ (condition : ConditionLists). is_map C rule.goal.left condition.pattern condition.images) rule.goal.conditions

-- the kind is that of a sesqui-pushout
abbrev pub is_sqpo : RuleKind → Bool
is_sqpo Dpo = false
is_sqpo Spo = false
is_sqpo Sqpo = true

-- only a sesqui-pushout has one left part for two kept ones
abbrev pub is_apart : RuleLists → Bool
is_apart rule = is_sqpo rule.kind || is_injective rule.keep rule.l

-- ---- the faults

-- why the lists are no rule, where so many operations are there and it is known whether arrows of the schema lead round a
-- cycle: the first of the conditions that fails, at its least place
abbrev pub rule_fault : Signature → ℕ → Bool → RuleLists → Option RuleFault
rule_fault C ops cyclic rule =
    or_else (fault_unless (are_maps C rule) NotHom)
    (or_else (fault_unless (is_apart rule) NotInjective)
    (or_else (fault_unless (not (is_sqpo rule.kind && cyclic)) CyclicSqpo)
    (or_else (unbound_set rule)
    (or_else (bad_set C ops rule)
    (or_else (set_again rule.sets)
    (value_missing C rule))))))

-- it is told whether arrows lead round a cycle
pub record TellsCycle (C : Signature) (cyclic : Bool) : Type 0 where
  pub there : cyclic ≡ true → HasCycle C
  pub absent : cyclic ≡ false → ¬ HasCycle C

-- the first fault of the lists is this one
abbrev pub HasFault : Signature → ℕ → RuleLists → Option RuleFault → Type 0
HasFault C ops rule fault = (cyclic : Bool) × TellsCycle C cyclic × (rule_fault C ops cyclic rule ≡ fault)

-- ---- what a build is given and gives

-- the condition's pattern is over the signature with the goal's variables, and each object has one entry in the list of
-- monic objects
pub record IsConditionOver (C : Signature) (kinds : List Kind) (condition : ConditionLists) : Type 0 where
  pub pattern : IsPatternOver C kinds condition.pattern
  pub monic : length condition.monic ≡ C.objects

-- the patterns are over the signature with the goal's variables, and each object has one entry in the list of monic objects
pub record IsGoalOver (C : Signature) (goal : GoalLists) : Type 0 where
  pub left : IsPatternOver C goal.kinds goal.left
  pub monic : length goal.monic ≡ C.objects
  pub conditions : All (IsConditionOver C goal.kinds) goal.conditions

-- the patterns are over the signature, what is kept and what stands there afterwards have no entries on cells, and sets
-- are on attributes of the signature
pub record AreOver (C : Signature) (rule : RuleLists) : Type 0 where
  pub goal : IsGoalOver C rule.goal
  pub keep : IsPatternOver C [] rule.keep
  pub right : IsPatternOver C [] rule.right
  pub keep_free : rule.keep.cells ≡ []
  pub right_free : rule.right.cells ≡ []
  pub attributes : All (λ (set : SetCell). set.attr.0 < length C.attributes) rule.sets

-- in a sesqui-pushout rule all objects are monic
abbrev pub monic_of : RuleKind → List Bool → List Bool
monic_of Dpo monic = monic
monic_of Spo monic = monic
monic_of Sqpo monic = map (λ listed. true) monic

-- the lists as they are built: in a sesqui-pushout rule all objects are monic, whatever was given
abbrev pub built : RuleLists → RuleLists
built rule = record {
  name = rule.name;
  kind = rule.kind;
  goal = record { left = rule.goal.left; monic = monic_of rule.kind rule.goal.monic; conditions = rule.goal.conditions; kinds = rule.goal.kinds };
  keep = rule.keep;
  right = rule.right;
  sets = rule.sets;
  l = rule.l;
  r = rule.r;
}

-- the lists are a rule over the signature, whose terms have operations below this number
pub record IsRuleOver (C : Signature) (ops : ℕ) (rule : RuleLists) : Type 0 where
  pub parts : AreOver C rule
  pub sound : HasFault C ops rule None
  pub monic : monic_of rule.kind rule.goal.monic ≡ rule.goal.monic

-- what a build of the lists answers; want of memory may come at any lists
abbrev pub BuildsRule : Signature → ℕ → RuleLists → Result RuleLists RuleFault → Type 0
BuildsRule C ops lists (Ok rule) = (rule ≡ built lists) × HasFault C ops lists None
BuildsRule C ops lists (Err NotHom) = HasFault C ops lists (Some NotHom)
BuildsRule C ops lists (Err NotInjective) = HasFault C ops lists (Some NotInjective)
BuildsRule C ops lists (Err CyclicSqpo) = HasFault C ops lists (Some CyclicSqpo)
BuildsRule C ops lists (Err (Unbound set)) = HasFault C ops lists (Some (Unbound set))
BuildsRule C ops lists (Err (BadTerm set)) = HasFault C ops lists (Some (BadTerm set))
BuildsRule C ops lists (Err (SetTwice set)) = HasFault C ops lists (Some (SetTwice set))
BuildsRule C ops lists (Err (NoValueGiven attr part)) = HasFault C ops lists (Some (NoValueGiven attr part))
BuildsRule C ops lists (Err OutOfMemory) = Unit {0}

-- what is built of lists without another fault than a cycle: nothing exactly where they are a sesqui-pushout rule and arrows
-- lead round a cycle
abbrev pub BuildsUnlessCyclic : Signature → ℕ → RuleLists → Option RuleLists → Type 0
BuildsUnlessCyclic C ops lists (Some rule) = (rule ≡ built lists) × HasFault C ops lists None
BuildsUnlessCyclic C ops lists None = HasFault C ops lists (Some CyclicSqpo)
