use Rattle.std.proofs.Common.{◌≡◌, map, take}
use Rattle.serde_json.specs.View.{view}
use Rattle.rw_lists.specs.News.{lists_of_entry}
use Rattle.rw_print.specs.Lines.{news_data}
use Rattle.rw_print.proofs.news.news_values.Given as goal

abbrev pub invariant-loop-number : goal.invariant-loop-number
invariant-loop-number l = map view l.values.items ≡ map news_data (map lists_of_entry (take l.number-index l.lists))
