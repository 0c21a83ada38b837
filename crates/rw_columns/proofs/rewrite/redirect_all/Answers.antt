-- The rows in another order are written.
use Rattle.std.proofs.Common.{◌≢◌, ◌<◌, ℕ, IsPermutation, sym, subst}
use Rattle.rw_spec.proofs.Ascending.{ascends_distinct}
use Rattle.rw_column.specs.Threads.{nothing}
use Rattle.rw_columns.specs.Changes.{entry_names}
use Rattle.rw_columns.specs.inner.Written.{number_at}
use Rattle.rw_columns.proofs.Permuted.{distinct_permuted, each_permuted, written_permuted}
use Rattle.rw_columns.proofs.rewrite.redirect_all.Goals as goal

pub redirect_each-requires-clause-distinct : goal.redirect_each-requires-clause-distinct
redirect_each-requires-clause-distinct c =
    let rows = c.args.rows.items in
    let moved = subst (IsPermutation rows) (sym c.as_slice.ensures.value) c.sort_unstable_by_key.ensures.permutation in
    distinct_permuted rows c.as_slice.result.now moved (ascends_distinct (entry_names rows) c.requires.ascend)

pub redirect_each-requires-clause-there : goal.redirect_each-requires-clause-there
redirect_each-requires-clause-there c =
    let rows = c.args.rows.items in
    let moved = subst (IsPermutation rows) (sym c.as_slice.ensures.value) c.sort_unstable_by_key.ensures.permutation in
    each_permuted (λ (name value : ℕ). number_at c.args.column.now name ≢ nothing) rows c.as_slice.result.now moved c.requires.there

pub redirect_each-requires-clause-within : goal.redirect_each-requires-clause-within
redirect_each-requires-clause-within c =
    let rows = c.args.rows.items in
    let moved = subst (IsPermutation rows) (sym c.as_slice.ensures.value) c.sort_unstable_by_key.ensures.permutation in
    each_permuted (λ (name value : ℕ). value < c.args.column.now.targets) rows c.as_slice.result.now moved c.requires.within

pub returns : goal.returns
returns c =
    let rows = c.args.rows.items in
    let moved = subst (IsPermutation rows) (sym c.as_slice.ensures.value) c.sort_unstable_by_key.ensures.permutation in
    record {
      long = c.redirect_each.ensures.long;
      wide = c.redirect_each.ensures.wide;
      written = written_permuted rows c.as_slice.result.now (number_at c.args.column.now) (number_at c.redirect_each.new.column) moved c.redirect_each.ensures.written;
    }
