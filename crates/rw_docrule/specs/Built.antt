-- Rules whose steps are built so far.
use Rattle.std.specs.Prelude.{Bool, not, ◌&&◌, map, List, Result, Ok}
use Rattle.std.specs.List.{list_all}
use Rattle.rw_schema.specs.declared.section.Section.TheVariants.{Whole}
use Rattle.rw_rule.specs.PlainRules.{has_no_conditions, is_dpo}
use Rattle.rw_rule.specs.RuleLists.{RuleLists}
use Rattle.rw_doc.specs.declared.fault.DocFault.{DocFault}
use Rattle.rw_doc.specs.Chain.{checked}
use Rattle.rw_doc.specs.Faults.{fault_of}
use Rattle.rw_docrule.specs.Rules.{RuleRead}

-- the document has no other fault, and something in it is not built yet
abbrev pub not_built : DocFault
not_built = fault_of 16 Whole

-- a double-pushout rule without conditions: steps of such rules are built so far
abbrev pub is_built_rule : RuleLists → Bool
is_built_rule rule = is_dpo rule.kind && has_no_conditions rule.goal.conditions

-- what is read is such a rule, and no conditions are written
abbrev pub is_built : RuleRead → Bool
is_built read = not read.has_conditions && is_built_rule read.rule

-- the rules, where steps of each are built: code 16
abbrev pub build_rules : List RuleRead → Result (List RuleLists) DocFault
build_rules reads = checked not_built (list_all is_built reads) (Ok (map (λ (read : RuleRead). read.rule) reads))
