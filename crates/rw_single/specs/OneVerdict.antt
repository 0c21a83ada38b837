-- What is known of steps of single-pushout rules: each match has exactly one verdict, and the largest pair is glued by a change of the
-- host or has a clash.
use Rattle.std.specs.Prelude.{◌≡◌, ◌<◌, ◌⊎◌, ℕ, true, List, Contains, slice_index}
use Rattle.rw_schema.specs.declared.atom.Atom.{Atom}
use Rattle.rw_schema.specs.RowLists.{RowLists}
use Rattle.rw_schema.specs.Signature.{Signature, IsCategory}
use Rattle.rw_spec.specs.Ascending.{ascends}
use Rattle.rw_spec.specs.Instance.{Instance, lists_of}
use Rattle.rw_spec.specs.Natural.{Map}
use Rattle.rw_columns.specs.Changes.{ChangeLists, Fits, changed}
use Rattle.rw_pattern.specs.Matches.{matches}
use Rattle.rw_terms.specs.declared.code.OpCode.{OpCode}
use Rattle.rw_rule.specs.declared.refusal.Refusal.{Refusal}
use Rattle.rw_rule.specs.RuleLists.{RuleLists}
use Rattle.rw_complement.specs.Named.{IsNamed}
use Rattle.rw_glued.specs.Clash.{Clashes}
use Rattle.rw_partial.specs.SinglePushout.{Applied, IsApplied, IsInitialPartialCocone, IsLargestPair, IsPartialCocone, frame_of_pair}
use Rattle.rw_partial.specs.SubInstance.{Elements}
use Rattle.rw_local.specs.OneVerdict.{IsHost}
use Rattle.rw_single.specs.Answer.{IsSingleAnswer}
use Rattle.rw_single.specs.Instantiated.{applied_of}
use Rattle.rw_single.specs.Step.{IsSingleStep}
use Rattle.rw_single.specs.Verdicts.{ObstructsSingle}

-- a change of X fits and leaves the step, in lists
pub record IsChangeOfSingleStep (C : Signature) (codes : List OpCode) (rule : RuleLists) (X : Instance) (next tuple : List ℕ) (change : ChangeLists) : Type 0 where
  pub answer : IsSingleAnswer C (applied_of codes rule tuple X) next change
  pub step : IsSingleStep C codes rule X next tuple (lists_of C (changed C X change) change.added.next)

-- the match has one verdict: a step, which a change leaves, or an obstruction; one of these at most, and never both
pub record HasOneSingleVerdict (C : Signature) (codes : List OpCode) (rule : RuleLists) (X : Instance) (next tuple : List ℕ) : Type 0 where
  pub exists : ((change : ChangeLists) × IsChangeOfSingleStep C codes rule X next tuple change) ⊎ ((refusal : Refusal) × ObstructsSingle C codes rule tuple X next refusal)
  pub step : (one other : RowLists) → IsSingleStep C codes rule X next tuple one → IsSingleStep C codes rule X next tuple other → one ≡ other
  pub obstruction : (one other : Refusal) → ObstructsSingle C codes rule tuple X next one → ObstructsSingle C codes rule tuple X next other → one ≡ other
  pub either : (after : RowLists) (refusal : Refusal) → IsSingleStep C codes rule X next tuple after → ObstructsSingle C codes rule tuple X next refusal → ⊥

-- so it is at each match in a host
abbrev pub HaveOneSingleVerdict : Signature → List OpCode → RuleLists → Type 0
HaveOneSingleVerdict C codes rule = (X : Instance) (next tuple : List ℕ) → IsHost C X next → Contains (matches C rule.goal.left rule.goal.monic X) tuple
    → HasOneSingleVerdict C codes rule X next tuple

-- a change of the host leaves an initial partial cocone over the pair, named as a step names it
pub record IsPairChange (C : Signature) (S : Applied) (D R : Elements) (next : List ℕ) (change : ChangeLists) : Type 0 where
  pub d : Map
  pub s : Map
  pub fits : Fits C S.host (slice_index next) change
  pub pushout : IsInitialPartialCocone C S D R (changed C S.host change) d s
  pub named : IsNamed C (frame_of_pair S D R) next d s

-- there is a clash, and no partial cocone with this pair
pub record HasPairClash (C : Signature) (S : Applied) (D R : Elements) (next : List ℕ) : Type 0 where
  pub object : ℕ
  pub name : ℕ
  pub attribute : ℕ
  pub one : Atom
  pub other : Atom
  pub clash : Clashes C (frame_of_pair S D R) next object name attribute one other
  pub none : (T : Instance) (d s : Map) → IsPartialCocone C S D R T d s → ⊥

-- the largest pair of a host and a right side whose names ascend has an initial partial cocone that a change of the host leaves, or
-- a clash
abbrev pub LargestPairsAreChanges : Type 0
LargestPairsAreChanges = (C : Signature) → IsCategory C → (S : Applied) → IsApplied C S → (D R : Elements) → IsLargestPair C S D R
    → (next : List ℕ) → IsHost C S.host next → ((object : ℕ) → object < C.objects → ascends (S.right.names object) ≡ true)
    → ((change : ChangeLists) × IsPairChange C S D R next change) ⊎ HasPairClash C S D R next
