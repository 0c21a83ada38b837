-- A test of each number against the next one says whether the numbers ascend.
use Rattle.std.proofs.Common.{nat_lt, rules}
use Rattle.std.proofs.lemmas.List.Sorted.{answers_always}
use Rattle.rw_spec.proofs.Ascending.{ascends_answer}
use Rattle.rw_table.proofs.names.are_ascending.Goals as goal

pub returns : goal.returns
returns c = ascends_answer c.args.names.now c.is_sorted_by.result (c.is_sorted_by.ensures.cases nat_lt (answers_always _ _ _ (λ f a r q k. search rules)))
