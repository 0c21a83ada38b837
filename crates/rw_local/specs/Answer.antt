-- The change that answers a step.
use Rattle.std.specs.Prelude.{◌≡◌, ◌<◌, ℕ, true, List, slice_index}
use Rattle.rw_schema.specs.Signature.{Signature}
use Rattle.rw_spec.specs.Ascending.{ascends}
use Rattle.rw_spec.specs.Instance.{Instance, Has}
use Rattle.rw_spec.specs.Natural.{Map}
use Rattle.rw_spec.specs.Redex.{Redex}
use Rattle.rw_columns.specs.Changes.{ChangeLists, Fits, changed}
use Rattle.rw_complement.specs.Named.{IsDoublePushout}

-- the change carries the host to the double pushout; names ascend and are below the next names
pub record IsAnswer (C : Signature) (R : Redex) (right : Instance) (r : Map) (next : List ℕ) (change : ChangeLists) : Type 0 where
  pub fits : Fits C R.host (slice_index next) change
  pub pushout : IsDoublePushout C R right r next (changed C R.host change) change.added.next
  pub ascending : (object : ℕ) → object < C.objects → ascends ((changed C R.host change).names object) ≡ true
  pub below : (object x : ℕ) → object < C.objects → Has (changed C R.host change) object x → x < slice_index change.added.next object
