-- The laws are facts about tables of codes.
use Rattle.rw_docwatch.proofs.WatchCodes.{watch_tells, watches_tell}
use Rattle.rw_docwatch.proofs.laws.watches_tell_first.Goals as goal

pub returns-clause-watch : goal.returns-clause-watch
returns-clause-watch c = watch_tells

pub returns-clause-list : goal.returns-clause-list
returns-clause-list c = watches_tell
