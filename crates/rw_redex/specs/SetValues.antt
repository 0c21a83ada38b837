-- The values that a step sets cells to.
use Rattle.std.specs.Prelude.{◌==◌, ℕ, pos, Bool, not, ◌&&◌, is_none, map, unwrap_or, length, List, Option}
use Rattle.std.specs.List.{list_any, range_with_len}
use Rattle.rw_schema.specs.declared.atom.Atom.{Atom}
use Rattle.rw_schema.specs.declared.atom.Atom.TheVariants.{Int}
use Rattle.rw_schema.specs.declared.signature.AttrEnds.{AttrEnds}
use Rattle.rw_schema.specs.First.{first_in, fault_unless}
use Rattle.rw_schema.specs.Signature.{Signature}
use Rattle.rw_spec.specs.Instance.{Instance}
use Rattle.rw_pattern.specs.Matches.{value_of}
use Rattle.rw_terms.specs.declared.code.OpCode.{OpCode}
use Rattle.rw_terms.specs.Terms as terms
use Rattle.rw_rule.specs.Images.{parts_of}
use Rattle.rw_rule.specs.RuleLists.{RuleLists}
use Rattle.rw_rule.specs.Sets.{is_on_cell}
use Rattle.rw_rule.specs.declared.refusal.Refusal.{Refusal}
use Rattle.rw_rule.specs.declared.refusal.Refusal.TheVariants.{NoValue}
use Rattle.rw_rule.specs.declared.set.SetCell.{SetCell}

-- the match's values of the variables, by their numbers; 0 stands for one that is on no cell of the left pattern
abbrev pub valuation : RuleLists → List ℕ → Instance → List Atom
valuation rule tuple X =
    map (λ variable. unwrap_or (value_of rule.goal.left X tuple variable) (Int (pos 0))) (range_with_len 0 (length rule.goal.kinds))

-- the value of a set: that of its term
abbrev pub set_value : List OpCode → RuleLists → List ℕ → Instance → SetCell → Option Atom
set_value codes rule tuple X set = terms.value_of codes (valuation rule tuple X) set.term

-- of each set its value
abbrev pub set_values : List OpCode → RuleLists → List ℕ → Instance → List (Option Atom)
set_values codes rule tuple X = map (set_value codes rule tuple X) rule.sets

-- a set on the cell has no value
abbrev pub lacks_value : List OpCode → RuleLists → List ℕ → Instance → ℕ → ℕ → Bool
lacks_value codes rule tuple X attr part =
    list_any (λ (set : SetCell). is_on_cell attr part set && is_none (set_value codes rule tuple X set)) rule.sets

-- the first attribute of the object whose set on the part has no value
abbrev pub no_value_on : Signature → List OpCode → RuleLists → List ℕ → Instance → ℕ → ℕ → Option Refusal
no_value_on C codes rule tuple X object part =
    first_in (λ attr (ends : AttrEnds). fault_unless (not (ends.object.0 == object && lacks_value codes rule tuple X attr part))
    (NoValue part (record { 0 = attr }))) 0 C.attributes

-- the first set without a value: by the attribute's object, the right part, and then the attribute
abbrev pub no_value : Signature → List OpCode → RuleLists → List ℕ → Instance → Option Refusal
no_value C codes rule tuple X =
    first_in (λ object size. first_in (λ place part. no_value_on C codes rule tuple X object part) 0 (parts_of rule.right object)) 0 rule.right.sizes
