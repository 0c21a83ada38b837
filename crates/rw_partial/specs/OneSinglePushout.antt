-- What is known of single pushouts: they are what is glued of the largest fitting pair, and under the names that they take there is
-- only one.
use Rattle.std.specs.Prelude.{◌≡◌, ◌<◌, ◌↔◌, ℕ, List, slice_index}
use Rattle.rw_schema.specs.Signature.{Signature, IsCategory}
use Rattle.rw_spec.specs.Cocone.{IsCocone, IsInitialCocone}
use Rattle.rw_spec.specs.Instance.{Instance}
use Rattle.rw_spec.specs.Natural.{Map}
use Rattle.rw_spec.specs.Same.{AreSame}
use Rattle.rw_universal.specs.Gluing.{IsGluing}
use Rattle.rw_partial.specs.SubInstance.{Elements}
use Rattle.rw_partial.specs.SinglePushout.{Applied, IsApplied, IsInitialPartialCocone, IsLargestPair, IsPartialCocone, frame_of_pair}
use Rattle.rw_partial.specs.Named.{IsSinglePushout}

-- over the largest pair a gluing is an initial partial cocone, each of these is a pushout, and partial cocones with this pair are the
-- cocones; and single pushouts are one, names and next names included
pub record HasOneSinglePushout (C : Signature) (S : Applied) : Type 0 where
  pub initial : (D R : Elements) → IsLargestPair C S D R → (H : Instance) (i j : Map) → IsGluing C (frame_of_pair S D R) H i j → IsInitialPartialCocone C S D R H i j
  pub pushout : (D R : Elements) (H : Instance) (i j : Map) → IsInitialPartialCocone C S D R H i j → IsInitialCocone C (frame_of_pair S D R) H i j
  pub cocones : (D R : Elements) → IsLargestPair C S D R → (T : Instance) (d s : Map) → IsPartialCocone C S D R T d s ↔ IsCocone C (frame_of_pair S D R) T d s
  pub only : (next : List ℕ) (H H' : Instance) (after after' : List ℕ) → IsSinglePushout C S next H after → IsSinglePushout C S next H' after'
      → AreSame C H H' × ((object : ℕ) → object < C.objects → slice_index after object ≡ slice_index after' object)

-- so it is with each rule at each match
abbrev pub HaveOneSinglePushout : Type 0
HaveOneSinglePushout = (C : Signature) → IsCategory C → (S : Applied) → IsApplied C S → HasOneSinglePushout C S
