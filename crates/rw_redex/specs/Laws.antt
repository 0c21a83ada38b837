-- What holds at each match of a double-pushout rule: a complement or a refusal, and one verdict at most.
use Rattle.std.specs.Prelude.{◌≡◌, ℕ, List, Option, Some, None, Contains}
use Rattle.rw_schema.specs.First.{or_else}
use Rattle.rw_schema.specs.RowLists.{RowLists}
use Rattle.rw_schema.specs.Signature.{Signature}
use Rattle.rw_spec.specs.Instance.{Instance, IsInstance}
use Rattle.rw_spec.specs.Natural.{Map}
use Rattle.rw_pattern.specs.Matches.{matches}
use Rattle.rw_terms.specs.declared.code.OpCode.{OpCode}
use Rattle.rw_rule.specs.RuleLists.{RuleLists}
use Rattle.rw_rule.specs.declared.refusal.Refusal.{Refusal}
use Rattle.rw_complement.specs.Complement.{IsComplement, IsContext}
use Rattle.rw_redex.specs.Gluing.{identification}
use Rattle.rw_redex.specs.Instantiated.{redex_of}
use Rattle.rw_redex.specs.Obstructions.{dangling}
use Rattle.rw_redex.specs.Step.{IsStep}
use Rattle.rw_redex.specs.Verdicts.{Obstructs}

-- the first refusal for want of a pushout complement: parts that are identified, or an arrow that dangles
abbrev pub gluing : Signature → RuleLists → List ℕ → Instance → Option Refusal
gluing C rule tuple X = or_else (identification rule tuple) (dangling C rule tuple X)

-- what the gluing condition says of a match: without a refusal there is a least complement under names of the host, and with one
-- there is no complement, under any names
pub record GluesAt (C : Signature) (rule : RuleLists) (tuple : List ℕ) (X : Instance) : Type 0 where
  pub context : gluing C rule tuple X ≡ None → (D : Instance) × (k : Map) × IsContext C (redex_of rule tuple X) D k
  pub nowhere : (refusal : Refusal) → gluing C rule tuple X ≡ Some refusal → (D : Instance) (k e : Map) → IsComplement C (redex_of rule tuple X) D k e → ⊥

-- so it is at each match in an instance
abbrev pub GluingDecides : Signature → RuleLists → Type 0
GluingDecides C rule = (X : Instance) (tuple : List ℕ) → IsInstance C X → Contains (matches C rule.goal.left rule.goal.monic X) tuple → GluesAt C rule tuple X

-- a match has one step at most, one first obstruction at most, and never both
pub record AgreeAt (C : Signature) (codes : List OpCode) (rule : RuleLists) (X : Instance) (next tuple : List ℕ) : Type 0 where
  pub step : (one other : RowLists) → IsStep C codes rule X next tuple one → IsStep C codes rule X next tuple other → one ≡ other
  pub obstruction : (one other : Refusal) → Obstructs C codes rule tuple X next one → Obstructs C codes rule tuple X next other → one ≡ other
  pub either : (after : RowLists) (refusal : Refusal) → IsStep C codes rule X next tuple after → Obstructs C codes rule tuple X next refusal → ⊥

-- so it is at each match in an instance, whatever the next names are
abbrev pub VerdictsAgree : Signature → List OpCode → RuleLists → Type 0
VerdictsAgree C codes rule = (X : Instance) (next tuple : List ℕ) → IsInstance C X → Contains (matches C rule.goal.left rule.goal.monic X) tuple
    → AgreeAt C codes rule X next tuple
