-- What is known of single pushouts, in one place.
use Rattle.std.proofs.Common.{◌≡◌, ◌∙◌, ◌+◌, ◌<◌, ℕ, length, List, slice_index, sym, ap}
use Rattle.rw_schema.specs.Signature.{Signature, IsCategory}
use Rattle.rw_spec.specs.Cocone.{Frame, IsInitialCocone}
use Rattle.rw_spec.specs.Instance.{Instance}
use Rattle.rw_spec.specs.Same.{AreSame}
use Rattle.rw_complement.specs.Named.{IsNamed}
use Rattle.rw_complement.proofs.Named.{only_result}
use Rattle.rw_partial.specs.Named.{IsSinglePushout}
use Rattle.rw_partial.specs.OneSinglePushout.{HaveOneSinglePushout}
use Rattle.rw_partial.specs.SinglePushout.{Applied, IsApplied, IsLargestPair, frame_of_pair}
use Rattle.rw_partial.proofs.Pairs.{pair_host, pair_right, pair_to_host}
use Rattle.rw_partial.proofs.Partial.{cocone_of_pair, largest_once, partial_from_gluing}
use Rattle.rw_partial.proofs.SameFrames.{AreSameFrames, initial_over_same, named_over_same, new_parts_same, pairs_frame}
use Rattle.rw_partial.proofs.Total.{initial_from_partial}

-- the pairs of two single pushouts have the same frame
pub one_frame : (C : Signature) → IsCategory C → (S : Applied) → IsApplied C S → (next : List ℕ) (H H' : Instance) (after after' : List ℕ)
    → (first : IsSinglePushout C S next H after) (second : IsSinglePushout C S next H' after')
    → AreSameFrames C (frame_of_pair S first.host first.right) (frame_of_pair S second.host second.right)
one_frame C category S applied next H H' after after' first second =
    pairs_frame C category S applied first.host first.right second.host second.right
    (largest_once C S first.host first.right second.host second.right first.pushout.largest second.pushout.largest)

-- a single pushout is the only one, names and next names included
pub only_single_pushout : (C : Signature) → IsCategory C → (S : Applied) → IsApplied C S → (next : List ℕ) (H H' : Instance) (after after' : List ℕ)
    → IsSinglePushout C S next H after → IsSinglePushout C S next H' after'
    → AreSame C H H' × ((object : ℕ) → object < C.objects → slice_index after object ≡ slice_index after' object)
only_single_pushout C category S applied next H H' after after' first second =
    let F : Frame = frame_of_pair S first.host first.right in
    let F' : Frame = frame_of_pair S second.host second.right in
    let largest : IsLargestPair C S first.host first.right = first.pushout.largest in
    let same : AreSameFrames C F F' = one_frame C category S applied next H H' after after' first second in
    let initial : IsInitialCocone C F H first.d first.s = initial_from_partial C category S applied first.host first.right H first.d first.s first.pushout in
    let other : IsInitialCocone C F H' second.d second.s =
    initial_over_same C category F F' same H' second.d second.s
    (initial_from_partial C category S applied second.host second.right H' second.d second.s second.pushout) in
    let named : IsNamed C F next second.d second.s = named_over_same C F F' same next second.d second.s second.named in (
      only_result C category F (pair_host C category S applied first.host first.right largest) (pair_right C category S applied first.host first.right largest)
          (pair_to_host C category S applied first.host first.right largest) next H H' first.d first.s second.d second.s initial other first.named named,
      λ object known.
          first.grown object known
          ∙ ap (λ (parts : List ℕ). slice_index next object + length parts) (new_parts_same C F F' same object known)
          ∙ sym (second.grown object known),
    )

-- what is glued of the largest pair is the only single pushout
pub one_single_pushout : HaveOneSinglePushout
one_single_pushout C category S applied = record {
  initial = partial_from_gluing C category S applied;
  pushout = initial_from_partial C category S applied;
  cocones = cocone_of_pair C S;
  only = only_single_pushout C category S applied;
}
