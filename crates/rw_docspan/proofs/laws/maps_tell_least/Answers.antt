-- The law is a fact about what is written.
use Rattle.rw_docspan.proofs.MapEntries.{maps_tell}
use Rattle.rw_docspan.proofs.laws.maps_tell_least.Goals as goal

pub returns : goal.returns
returns c = maps_tell
