-- What obstructs a single-pushout rule at a match.
use Rattle.std.specs.Prelude.{◌≡◌, ℕ, List, Some, None}
use Rattle.rw_schema.specs.Signature.{Signature}
use Rattle.rw_spec.specs.Instance.{Instance}
use Rattle.rw_terms.specs.declared.code.OpCode.{OpCode}
use Rattle.rw_rule.specs.RuleLists.{RuleLists}
use Rattle.rw_rule.specs.declared.refusal.Refusal.{Refusal}
use Rattle.rw_rule.specs.declared.refusal.Refusal.TheVariants.{Identification, Dangling, NoValue, TooLarge, Clash}
use Rattle.rw_glued.specs.Clash.{Clashes}
use Rattle.rw_partial.specs.SinglePushout.{IsLargestPair, frame_of_pair}
use Rattle.rw_partial.specs.SubInstance.{Elements}
use Rattle.rw_single.specs.Instantiated.{applied_of}
use Rattle.rw_single.specs.Obstructions.{early_pair}

-- this is what obstructs the match first, where these are the sets of the host and of the right side: parts are never identified
-- and no arrow dangles, and atoms are compared where nothing is in the way before
abbrev pub ObstructsPair : Signature → List OpCode → RuleLists → List ℕ → Instance → List ℕ → Elements → Elements → Refusal → Type 0
ObstructsPair C codes rule tuple X next host right (Identification object first second) = ⊥
ObstructsPair C codes rule tuple X next host right (Dangling arrow part) = ⊥
ObstructsPair C codes rule tuple X next host right (NoValue part attr) = early_pair C codes rule tuple X next right ≡ Some (NoValue part attr)
ObstructsPair C codes rule tuple X next host right (TooLarge object) = early_pair C codes rule tuple X next right ≡ Some (TooLarge object)
ObstructsPair C codes rule tuple X next host right (Clash object name attr first second) =
    (early_pair C codes rule tuple X next right ≡ None)
    × Clashes C (frame_of_pair (applied_of codes rule tuple X) host right) next object.0 name attr.0 first second

-- this is what obstructs the match first
pub record ObstructsSingle (C : Signature) (codes : List OpCode) (rule : RuleLists) (tuple : List ℕ) (X : Instance) (next : List ℕ) (refusal : Refusal) : Type 0 where
  pub host : Elements
  pub right : Elements
  pub largest : IsLargestPair C (applied_of codes rule tuple X) host right
  pub obstructs : ObstructsPair C codes rule tuple X next host right refusal
