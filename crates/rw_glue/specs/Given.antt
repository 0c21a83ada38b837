-- What is given: a rule at a match, with the context and the values of its sets.
use Rattle.std.specs.Prelude.{◌≡◌, ◌<◌, ℕ, true, length, map, List, Some, None, Contains, slice_index}
use Rattle.rw_schema.specs.declared.atom.Atom.{Atom}
use Rattle.rw_schema.specs.Signature.{Signature}
use Rattle.rw_spec.specs.Instance.{Instance, Has}
use Rattle.rw_terms.specs.declared.code.OpCode.{OpCode}
use Rattle.rw_pattern.specs.Matches.{matches}
use Rattle.rw_rule.specs.Images.{is_injective}
use Rattle.rw_rule.specs.RuleFaults.{IsRuleOver}
use Rattle.rw_rule.specs.RuleLists.{RuleLists}
use Rattle.rw_delta.specs.ContextLists.{ContextLists}
use Rattle.rw_dpo.specs.Contexts.{IsContextOf}
use Rattle.rw_redex.specs.Gluing.{identification}
use Rattle.rw_redex.specs.Obstructions.{dangling}
use Rattle.rw_redex.specs.SetValues.{set_values}

-- kept parts lie apart on the left side; the tuple is a match of the rule in X, whose names are below the next names; there is a pushout complement, and the context is it
pub record CanGlue (C : Signature) (rule : RuleLists) (tuple : List ℕ) (X : Instance) (context : ContextLists) : Type 0 where
  pub operations : ℕ
  pub over : IsRuleOver C operations rule
  pub split : is_injective rule.keep rule.l ≡ true
  pub matched : Contains (matches C rule.goal.left rule.goal.monic X) tuple
  pub apart : identification rule tuple ≡ None
  pub undangling : dangling C rule tuple X ≡ None
  pub is_context : IsContextOf C rule tuple X context.next context
  pub counted : length context.next ≡ C.objects
  pub below : (object x : ℕ) → object < C.objects → Has X object x → x < slice_index context.next object

-- each set has a value at the match, and these are the values
abbrev pub AreValues : List OpCode → RuleLists → List ℕ → Instance → List Atom → Type 0
AreValues codes rule tuple X values = set_values codes rule tuple X ≡ map (λ atom. Some atom) values
