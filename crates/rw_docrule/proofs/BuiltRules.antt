-- Rules that are read, and rules that are built of them.
use Rattle.std.proofs.Common.{◌≡◌, Bool, true, false, ◌&&◌, Ok, List, [], ◌∷◌, ◌++◌, map, refl, append_assoc, ◌∙◌}
use Rattle.std.specs.List.{list_all}
use Rattle.rw_rule.specs.RuleLists.{RuleLists}
use Rattle.rw_doc.specs.Chain.{checked}
use Rattle.rw_docrule.specs.Built.{is_built, not_built}
use Rattle.rw_docrule.specs.Rules.{RuleRead}

-- the lists of what is read
abbrev pub rule_in : RuleRead → RuleLists
rule_in read = read.rule

-- all are built where these are that are left, which stand behind the rules that were built
abbrev pub BuiltSo : List RuleRead → List RuleLists → List RuleRead → Type 0
BuiltSo reads rules left = checked not_built (list_all is_built reads) (Ok (map rule_in reads))
    ≡ checked not_built (list_all is_built left) (Ok (rules ++ map rule_in left))

-- where all are built, one that is stands behind the others
put_behind : (test later : Bool) (lists rule : RuleLists) (rules others : List RuleLists) → checked not_built test (Ok lists) ≡ Ok rule
    → checked not_built (test && later) (Ok (rules ++ lists ∷ others)) ≡ checked not_built later (Ok ((rules ++ rule ∷ []) ++ others))
put_behind true later lists rule rules others is = let same : lists ≡ rule = cc in rw (same, append_assoc rules (rule ∷ []) others) refl
put_behind false later lists rule rules others is = let never : ⊥ = cc in absurd never

-- one that was left is built
pub one_more : (reads left : List RuleRead) (read : RuleRead) (rules : List RuleLists) (rule : RuleLists) → BuiltSo reads rules (read ∷ left)
    → checked not_built (is_built read) (Ok read.rule) ≡ Ok rule → BuiltSo reads (rules ++ rule ∷ []) left
one_more reads left read rules rule so is = so ∙ put_behind (is_built read) (list_all is_built left) read.rule rule rules (map rule_in left) is
