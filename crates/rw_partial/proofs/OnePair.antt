-- What is known of all fitting pairs, in one place.
use Rattle.rw_partial.specs.OnePair.{HaveOnePair}
use Rattle.rw_partial.proofs.Largest.{largest_from_removal}
use Rattle.rw_partial.proofs.Partial.{largest_once}
use Rattle.rw_partial.proofs.SomePair.{largest_host, largest_is, largest_right}

-- there is one largest fitting pair
pub one_pair : HaveOnePair
one_pair C category S applied = record {
  exists = (largest_host C S, largest_right C S, largest_is C category S applied);
  removal = largest_from_removal C category S applied;
  only = largest_once C S;
}
