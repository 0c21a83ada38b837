-- The names of one object more.
use Rattle.std.proofs.Common.{All, IsSome}
use Rattle.rw_glue.proofs.Steps.{all_mapped_list}
use Rattle.rw_glue.proofs.kept.kept_lists.Goals as goal

pub kept_names-requires : goal.kept_names-requires
kept_names-requires c = rw c.as_slice.ensures.value (all_mapped_list (All IsSome) (λ list. list.items) c.args.of_keep.now c.requires c.loop-list.list-index c.list-item.result c.loop-list-test.true c.list-item.is)
