-- The change that answers a step of a single-pushout rule.
use Rattle.std.specs.Prelude.{◌≡◌, ◌<◌, ℕ, true, List, slice_index}
use Rattle.rw_schema.specs.Signature.{Signature}
use Rattle.rw_spec.specs.Ascending.{ascends}
use Rattle.rw_spec.specs.Instance.{Has}
use Rattle.rw_columns.specs.Changes.{ChangeLists, Fits, changed}
use Rattle.rw_partial.specs.Named.{IsSinglePushout}
use Rattle.rw_partial.specs.SinglePushout.{Applied}

-- the change carries the host to the single pushout; names ascend and are below the next names
pub record IsSingleAnswer (C : Signature) (S : Applied) (next : List ℕ) (change : ChangeLists) : Type 0 where
  pub fits : Fits C S.host (slice_index next) change
  pub pushout : IsSinglePushout C S next (changed C S.host change) change.added.next
  pub ascending : (object : ℕ) → object < C.objects → ascends ((changed C S.host change).names object) ≡ true
  pub below : (object x : ℕ) → object < C.objects → Has (changed C S.host change) object x → x < slice_index change.added.next object
