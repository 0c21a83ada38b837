-- The single pushout under the names that it takes.
use Rattle.std.specs.Prelude.{◌≡◌, ◌<◌, ◌+◌, ℕ, length, List, slice_index}
use Rattle.rw_schema.specs.Signature.{Signature}
use Rattle.rw_spec.specs.Instance.{Instance}
use Rattle.rw_spec.specs.Natural.{Map}
use Rattle.rw_complement.specs.Named.{IsNamed, new_parts}
use Rattle.rw_partial.specs.SubInstance.{Elements}
use Rattle.rw_partial.specs.SinglePushout.{Applied, IsInitialPartialCocone, frame_of_pair}

-- H is the two sets of the largest fitting pair, glued, where old parts keep the least of their names and new ones take next names
pub record IsSinglePushout (C : Signature) (S : Applied) (next : List ℕ) (H : Instance) (next_after : List ℕ) : Type 0 where
  pub host : Elements
  pub right : Elements
  pub d : Map
  pub s : Map
  pub pushout : IsInitialPartialCocone C S host right H d s
  pub named : IsNamed C (frame_of_pair S host right) next d s
  pub grown : (object : ℕ) → object < C.objects
      → slice_index next_after object ≡ slice_index next object + length (new_parts (frame_of_pair S host right) object)
