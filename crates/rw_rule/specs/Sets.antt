-- The cells of a rule's right pattern that are set, and the first fault of those that do not fit.
use Rattle.std.specs.Prelude.{◌==◌, ℕ, Bool, false, not, ◌&&◌, ◌||◌, nat_lt, nat_le, take, List, Option, Some, None, slice_get}
use Rattle.std.specs.List.{list_any}
use Rattle.rw_schema.specs.declared.atom.Kind.{Kind}
use Rattle.rw_schema.specs.declared.signature.AttrEnds.{AttrEnds}
use Rattle.rw_schema.specs.First.{first_in, fault_unless}
use Rattle.rw_schema.specs.Signature.{Signature}
use Rattle.rw_pattern.specs.declared.cell.PatternCell.{PatternCell}
use Rattle.rw_pattern.specs.Matches.{wants}
use Rattle.rw_pattern.specs.PatternFaults.{has_kind}
use Rattle.rw_pattern.specs.PatternLists.{PatternLists, size_of, holder}
use Rattle.rw_terms.specs.declared.term.Term.{Term}
use Rattle.rw_terms.specs.TermKinds.{depth_of, has_only_variables, kind_of_term}
use Rattle.rw_rule.specs.Images.{is_image, parts_of}
use Rattle.rw_rule.specs.RuleLists.{RuleLists}
use Rattle.rw_rule.specs.declared.fault.RuleFault.{RuleFault}
use Rattle.rw_rule.specs.declared.fault.RuleFault.TheVariants.{Unbound, BadTerm, SetTwice, NoValueGiven}
use Rattle.rw_rule.specs.declared.set.SetCell.{SetCell}

-- the variable is on a cell of the pattern
abbrev pub is_bound : PatternLists → ℕ → Bool
is_bound left variable = list_any (λ (entry : PatternCell). wants variable entry.want) left.cells

-- each variable of the term is on a cell of the pattern
abbrev pub is_closed : PatternLists → Term → Bool
is_closed left term = has_only_variables (is_bound left) term

-- the first set whose term has a variable that is on no cell of the left pattern
abbrev pub unbound_set : RuleLists → Option RuleFault
unbound_set rule = first_in (λ place (set : SetCell). fault_unless (is_closed rule.goal.left set.term) (Unbound place)) 0 rule.sets

-- the greatest number of levels of a term
abbrev pub most_levels : ℕ
most_levels = 32

-- the set is on a part of the right pattern
abbrev pub is_on_part : PatternLists → SetCell → Bool
is_on_part right set = nat_lt set.part (size_of right (holder right set.attr.0))

-- the term has a kind, which is that of the attribute
abbrev pub is_kind_of : Option AttrEnds → Option Kind → Bool
is_kind_of ends None = false
is_kind_of ends (Some kind) = has_kind kind ends

-- where so many operations are there: the term has the kind of the attribute and is not too deep
abbrev pub fits_term : Signature → ℕ → List Kind → SetCell → Bool
fits_term C ops kinds set =
    is_kind_of (slice_get C.attributes set.attr.0) (kind_of_term ops kinds set.term) && nat_le (depth_of set.term) most_levels

-- the set is on a part, and its term fits
abbrev pub fits_set : Signature → ℕ → RuleLists → SetCell → Bool
fits_set C ops rule set = is_on_part rule.right set && fits_term C ops rule.goal.kinds set

-- the first set that does not fit
abbrev pub bad_set : Signature → ℕ → RuleLists → Option RuleFault
bad_set C ops rule = first_in (λ place (set : SetCell). fault_unless (fits_set C ops rule set) (BadTerm place)) 0 rule.sets

-- the set is on the cell
abbrev pub is_on_cell : ℕ → ℕ → SetCell → Bool
is_on_cell attr part set = set.attr.0 == attr && set.part == part

-- a set is on the cell
abbrev pub is_set : List SetCell → ℕ → ℕ → Bool
is_set sets attr part = list_any (is_on_cell attr part) sets

-- the first set on a cell that an earlier one is on
abbrev pub set_again : List SetCell → Option RuleFault
set_again sets = first_in (λ place (set : SetCell). fault_unless (not (is_set (take place sets) set.attr.0 set.part)) (SetTwice place)) 0 sets

-- the part is the image of a kept one, or the attribute is set on it
abbrev pub is_given : RuleLists → ℕ → ℕ → ℕ → Bool
is_given rule attr object part = is_image rule.r object part || is_set rule.sets attr part

-- the first new part on which the attribute is not set
abbrev pub part_without : RuleLists → ℕ → AttrEnds → Option RuleFault
part_without rule attr ends =
    first_in (λ place part. fault_unless (is_given rule attr ends.object.0 part) (NoValueGiven (record { 0 = attr }) part)) 0
    (parts_of rule.right ends.object.0)

-- the first attribute that is not set on a new part
abbrev pub value_missing : Signature → RuleLists → Option RuleFault
value_missing C rule = first_in (part_without rule) 0 C.attributes
