-- What a range collects is the list of its numbers.
use Rattle.std.proofs.Common.{◌≡◌, ◌-◌, refl, arith, vec_items}
use Rattle.std.specs.List.{range_with_len}
use Rattle.std.proofs.lemmas.Iterator.{YieldsList-from_range, items_from_collect}
use Rattle.std.proofs.lemmas.Result.{IfOk-at_ok}
use Rattle.graph_example.proofs.graphs.below.Goals as goal

pub returns : goal.returns
returns c =
    let whole : c.args.bound - 0 ≡ c.args.bound = omega arith in
    IfOk-at_ok (λ names. vec_items names ≡ range_with_len 0 c.args.bound) c.in_ok-names.was
    (items_from_collect c.collect.result c.collect.ensures.ran (YieldsList-from_range 0 c.args.bound c.args.bound refl whole))
