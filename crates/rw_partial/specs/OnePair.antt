-- What is known of all fitting pairs of a rule at a match: there is a largest one, it is the only one, and it is what removal leaves.
use Rattle.std.specs.Prelude.{ℕ, Bool}
use Rattle.rw_schema.specs.Signature.{Signature, IsCategory}
use Rattle.rw_partial.specs.SubInstance.{AreSameElements, Elements}
use Rattle.rw_partial.specs.SinglePushout.{Applied, IsApplied, IsLargestPair}
use Rattle.rw_partial.specs.Removal.{IsClosed, IsExcluded, left_of}

-- there is a largest fitting pair, and only one; where nothing more has to go and nothing went that a fitting pair can have, it is
-- what is left
pub record HasOnePair (C : Signature) (S : Applied) : Type 0 where
  pub exists : (D : Elements) × (R : Elements) × IsLargestPair C S D R
  pub removal : (gone cut right_gone right_cut : ℕ → ℕ → Bool) → IsClosed C S gone cut right_gone right_cut → IsExcluded C S gone cut right_gone right_cut
      → IsLargestPair C S (left_of C gone cut) (left_of C right_gone right_cut)
  pub only : (D R E Q : Elements) → IsLargestPair C S D R → IsLargestPair C S E Q → AreSameElements C S.host D E × AreSameElements C S.right R Q

-- so it is with each rule at each match
abbrev pub HaveOnePair : Type 0
HaveOnePair = (C : Signature) → IsCategory C → (S : Applied) → IsApplied C S → HasOnePair C S
