-- A frame has one pushout or one first clash, and a cospan has one pullback.
use Rattle.std.specs.Prelude.{◌≡◌, ◌≢◌, Result, Err}
use Rattle.rw_schema.specs.Signature.{Signature}
use Rattle.rw_spec.specs.Cocone.{Frame}
use Rattle.rw_spec.specs.Pullback.{Cospan}
use Rattle.rw_limits.specs.Pullbacks.{PullsBack}
use Rattle.rw_limits.specs.Pushouts.{PushesOut}
use Rattle.rw_limits.specs.declared.colimit.GlueFault as glue_faults
use Rattle.rw_limits.specs.declared.colimit.GlueFault.TheVariants as glue_ends
use Rattle.rw_limits.specs.declared.colimit.PushoutResult.{PushoutResult}
use Rattle.rw_limits.specs.declared.limit.PullbackResult.{PullbackResult}
use Rattle.rw_limits.specs.declared.limit.PullEnd as pull_ends
use Rattle.rw_limits.specs.declared.limit.PullEnd.TheVariants as pull_variants

-- any two answers of the pushout of the frame are the same, but for want of memory
abbrev pub HasOnePushout : Signature → Frame → Type 0
HasOnePushout C F = (one other : Result PushoutResult glue_faults.GlueFault) → PushesOut C F one → PushesOut C F other
    → one ≢ Err glue_ends.OutOfMemory → other ≢ Err glue_ends.OutOfMemory → one ≡ other

-- any two answers of the pullback of the cospan are the same, but for want of memory
abbrev pub HasOnePullback : Signature → Cospan → Type 0
HasOnePullback C S = (one other : Result PullbackResult pull_ends.PullEnd) → PullsBack C S one → PullsBack C S other
    → one ≢ Err pull_variants.OutOfMemory → other ≢ Err pull_variants.OutOfMemory → one ≡ other
