-- What is known of steps: each match has exactly one verdict, and what is glued over a host is a change of it or has a clash.
use Rattle.std.specs.Prelude.{◌≡◌, ◌<◌, ◌⊎◌, ℕ, true, List, Contains, slice_index}
use Rattle.rw_schema.specs.declared.atom.Atom.{Atom}
use Rattle.rw_schema.specs.Signature.{Signature, IsCategory}
use Rattle.rw_spec.specs.Ascending.{ascends}
use Rattle.rw_spec.specs.Cocone.{Frame, IsCocone, IsInitialCocone}
use Rattle.rw_spec.specs.Instance.{Instance, Has, IsInstance, lists_of}
use Rattle.rw_spec.specs.Natural.{Map}
use Rattle.rw_columns.specs.Changes.{ChangeLists, Fits, changed}
use Rattle.rw_pattern.specs.MapFaults.{image_of}
use Rattle.rw_pattern.specs.Matches.{matches}
use Rattle.rw_terms.specs.declared.code.OpCode.{OpCode}
use Rattle.rw_rule.specs.declared.refusal.Refusal.{Refusal}
use Rattle.rw_rule.specs.RuleLists.{RuleLists}
use Rattle.rw_complement.specs.Named.{IsNamed}
use Rattle.rw_glued.specs.Clash.{Clashes}
use Rattle.rw_glued.specs.OneGluing.{IsNaturalFrame}
use Rattle.rw_redex.specs.Instantiated.{redex_of, right_at}
use Rattle.rw_redex.specs.Laws.{AgreeAt}
use Rattle.rw_redex.specs.Step.{IsStep}
use Rattle.rw_redex.specs.Verdicts.{Obstructs}
use Rattle.rw_local.specs.Answer.{IsAnswer}
use Rattle.rw_local.specs.Over.{IsOver}

-- X can be a host: it is an instance whose names ascend, each object's below its next name
pub record IsHost (C : Signature) (X : Instance) (next : List ℕ) : Type 0 where
  pub instance : IsInstance C X
  pub ascends : (object : ℕ) → object < C.objects → ascends (X.names object) ≡ true
  pub below : (object x : ℕ) → object < C.objects → Has X object x → x < slice_index next object

-- a change of X fits and leaves the step, in lists
pub record IsChangeOfStep (C : Signature) (codes : List OpCode) (rule : RuleLists) (X : Instance) (next tuple : List ℕ) (change : ChangeLists) : Type 0 where
  pub answer : IsAnswer C (redex_of rule tuple X) (right_at codes rule tuple X) (image_of rule.r) next change
  pub step : IsStep C codes rule X next tuple (lists_of C (changed C X change) change.added.next)

-- the match has one verdict: a step, which a change leaves, or an obstruction; one of these at most, and never both
pub record HasOneVerdict (C : Signature) (codes : List OpCode) (rule : RuleLists) (X : Instance) (next tuple : List ℕ) : Type 0 where
  pub exists : ((change : ChangeLists) × IsChangeOfStep C codes rule X next tuple change) ⊎ ((refusal : Refusal) × Obstructs C codes rule tuple X next refusal)
  pub only : AgreeAt C codes rule X next tuple

-- so it is at each match in a host
abbrev pub HaveOneVerdict : Signature → List OpCode → RuleLists → Type 0
HaveOneVerdict C codes rule = (X : Instance) (next tuple : List ℕ) → IsHost C X next → Contains (matches C rule.goal.left rule.goal.monic X) tuple
    → HasOneVerdict C codes rule X next tuple

-- a change of X leaves a pushout of F, named as a step names it
pub record IsPushoutChange (C : Signature) (F : Frame) (X : Instance) (next next_copied : List ℕ) (change : ChangeLists) : Type 0 where
  pub d : Map
  pub s : Map
  pub fits : Fits C X (slice_index next) change
  pub pushout : IsInitialCocone C F (changed C X change) d s
  pub named : IsNamed C F next_copied d s

-- there is a clash, and no cocone
pub record HasClash (C : Signature) (F : Frame) (next : List ℕ) : Type 0 where
  pub object : ℕ
  pub name : ℕ
  pub attribute : ℕ
  pub one : Atom
  pub other : Atom
  pub clash : Clashes C F next object name attribute one other
  pub none : (T : Instance) (d s : Map) → IsCocone C F T d s → ⊥

-- what lies over a host and a right side whose names ascend have a pushout that a change of the host leaves, or they clash
abbrev pub GluingsAreChanges : Type 0
GluingsAreChanges = (C : Signature) → IsCategory C → (F : Frame) → IsNaturalFrame C F
    → (X : Instance) (gone copies : ℕ → List ℕ) (next next_copied : List ℕ) → IsOver C X F.left gone copies next next_copied
    → ((object : ℕ) → object < C.objects → ascends (F.right.names object) ≡ true)
    → ((change : ChangeLists) × IsPushoutChange C F X next next_copied change) ⊎ HasClash C F next_copied
