use Rattle.std.proofs.Common.{◌≡◌, take}
use Rattle.rw_lists.specs.News.{without as without_list}
use Rattle.rw_lists.proofs.compare.without.Given as goal

abbrev pub invariant-loop-tuple : goal.invariant-loop-tuple
invariant-loop-tuple l = l.rest.items ≡ without_list (take l.tuple-index l.tuples) l.others
