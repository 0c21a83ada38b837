-- The arrows are the schema's.
use Rattle.rw_limits.proofs.colimit.instance_lists.Goals as goal

pub class_rows-requires-clause-values : goal.class_rows-requires-clause-values
class_rows-requires-clause-values c = rw c.arrow_list.ensures.value c.requires.values
