-- Where a rule is to be applied.
use Rattle.rw_spec.specs.Instance.{Instance}
use Rattle.rw_spec.specs.Natural.{Map}

-- the left half of a rule at its place in a host: what is kept, what is matched, and two maps that lead from the one into the
-- other, and on into the host
pub record Redex : Type 0 where
  pub keep : Instance
  pub left : Instance
  pub host : Instance
  pub l : Map
  pub m : Map
