use Rattle.std.proofs.Common.{◌≡◌, map, take}
use Rattle.rw_schema.specs.First.{flat_map_in}
use Rattle.rw_lists.specs.News.{lists_of_entry, news_at}
use Rattle.rw_lists.proofs.compare.differences.Given as goal

abbrev pub invariant-loop-number : goal.invariant-loop-number
invariant-loop-number l =
    map lists_of_entry l.lists.items ≡ flat_map_in (news_at (map (λ list. list.items) l.after)) 0 (take l.number (map (λ list. list.items) l.before))
