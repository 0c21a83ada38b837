-- What the faults that a rule does not have say of it.
use Rattle.std.proofs.Common.{◌≡◌, ℕ, Bool, true, not, ◌&&◌, is_none, Option, Some, None, slice_get, refl}
use Rattle.std.specs.List.{list_all}
use Rattle.std.proofs.lemmas.Bool.{and_parts}
use Rattle.rw_schema.specs.First.{or_else, fault_unless}
use Rattle.rw_schema.specs.Signature.{Signature}
use Rattle.rw_schema.proofs.Firsts.{all_unless, or_else_none, passed_unless}
use Rattle.rw_schema.proofs.Lists.{list_all_at}
use Rattle.rw_pattern.specs.MapFaults.{map_fault}
use Rattle.rw_spec.proofs.Sequences.{list_all_from_each}
use Rattle.rw_rule.specs.RuleFaults.{are_maps, is_apart, is_map, is_sqpo, IsRuleOver}
use Rattle.rw_rule.specs.RuleLists.{ConditionLists, RuleLists}
use Rattle.rw_rule.specs.Sets.{bad_set, fits_set, fits_term, is_closed, is_on_part, set_again, unbound_set, value_missing}
use Rattle.rw_rule.specs.declared.fault.RuleFault.{RuleFault}
use Rattle.rw_rule.specs.declared.fault.RuleFault.TheVariants.{NotHom, NotInjective, CyclicSqpo, Unbound, BadTerm}
use Rattle.rw_rule.specs.declared.set.SetCell.{SetCell}
use Rattle.rw_redex.specs.RuleParts.{IsSpanOver}

-- nothing is there where a test finds nothing
none_there : {A : Type 0} (answer : Option A) → is_none answer ≡ true → answer ≡ None
none_there None none = refl
none_there (Some a) none = cc

-- the patterns and the maps of a rule, the kept parts of which lie apart, and each set: its variables are on cells of the left pattern, and it fits
pub record IsKnown (C : Signature) (ops : ℕ) (rule : RuleLists) : Type 0 where
  pub span : IsSpanOver C rule
  pub apart : is_apart rule ≡ true
  pub bound : (place : ℕ) (set : SetCell) → slice_get rule.sets place ≡ Some set → is_closed rule.goal.left set.term ≡ true
  pub fitting : (place : ℕ) (set : SetCell) → slice_get rule.sets place ≡ Some set → fits_term C ops rule.goal.kinds set ≡ true

-- a rule over a signature has all of this
pub rule_known : (C : Signature) (ops : ℕ) (rule : RuleLists) → IsRuleOver C ops rule → IsKnown C ops rule
rule_known C ops rule over =
    let cyclic : Bool = over.sound.0 in
    let maps_fault : Option RuleFault = fault_unless (are_maps C rule) NotHom in
    let apart_fault : Option RuleFault = fault_unless (is_apart rule) NotInjective in
    let cycle_fault : Option RuleFault = fault_unless (not (is_sqpo rule.kind && cyclic)) CyclicSqpo in
    let last : Option RuleFault = or_else (set_again rule.sets) (value_missing C rule) in
    let fitting_on : Option RuleFault = or_else (bad_set C ops rule) last in
    let bound_on : Option RuleFault = or_else (unbound_set rule) fitting_on in
    let first = or_else_none maps_fault (or_else apart_fault (or_else cycle_fault bound_on)) over.sound.2 in
    let second = or_else_none apart_fault (or_else cycle_fault bound_on) first.1 in
    let third = or_else_none cycle_fault bound_on second.1 in
    let fourth = or_else_none (unbound_set rule) fitting_on third.1 in
    let fifth = or_else_none (bad_set C ops rule) last fourth.1 in
    let l : Bool = is_map C rule.keep rule.goal.left rule.l in
    let r : Bool = is_map C rule.keep rule.right rule.r in
    let maps = and_parts (l && r) (list_all (λ (condition : ConditionLists). is_map C rule.goal.left condition.pattern condition.images) rule.goal.conditions)
    (passed_unless (are_maps C rule) NotHom first.0) in
    let both = and_parts l r maps.0 in
    let closed : list_all (λ (set : SetCell). is_closed rule.goal.left set.term) rule.sets ≡ true =
    all_unless (λ (set : SetCell). is_closed rule.goal.left set.term) (λ place. Unbound place) 0 rule.sets fourth.0 in
    let fits : list_all (fits_set C ops rule) rule.sets ≡ true = all_unless (fits_set C ops rule) (λ place. BadTerm place) 0 rule.sets fifth.0 in
    let parts = λ (place : ℕ) (set : SetCell) (there : slice_get rule.sets place ≡ Some set).
    and_parts (is_on_part rule.right set) (fits_term C ops rule.goal.kinds set) (list_all_at (fits_set C ops rule) rule.sets place set fits there) in
    record {
      span = record {
        parts = over.parts;
        l = none_there (map_fault C rule.keep rule.goal.left rule.l) both.0;
        r = none_there (map_fault C rule.keep rule.right rule.r) both.1;
        sets = list_all_from_each (is_on_part rule.right) rule.sets (λ place set there. (parts place set there).0);
      };
      apart = passed_unless (is_apart rule) NotInjective second.0;
      bound = λ place set there. list_all_at (λ (set : SetCell). is_closed rule.goal.left set.term) rule.sets place set closed there;
      fitting = λ place set there. (parts place set there).1;
    }
