-- The members of watches, behind the references that code has to them.
use Rattle.std.specs.Prelude.{option_map}
use Rattle.serde_json.specs.View.{view}
use Rattle.rw_docwatch.specs.declared.members.WatchMembers as watches
use Rattle.rw_docwatch.specs.Heads.{WatchMembers}

abbrev pub members_of_watch : watches.WatchMembers → WatchMembers
members_of_watch members = record {
  name = view members.name.now;
  pattern = view members.pattern.now;
  monic = option_map (λ value. view value.now) members.monic;
}
