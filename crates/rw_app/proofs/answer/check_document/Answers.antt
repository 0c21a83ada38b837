-- The lengths are those of the kept lists.
use Rattle.std.proofs.Common.{◌≡◌, List, ℕ, map, length}
use Rattle.rw_document.specs.Models.{document_lists}
use Rattle.rw_app.specs.Kept.{lists_in}
use Rattle.rw_app.proofs.KeptLists.{kept_lengths}
use Rattle.rw_app.proofs.answer.check_document.Goals as goal

pub returns : goal.returns
returns g c =
    let lists : List (List (List ℕ)) = lists_in (document_lists c.args.document.now) c.args.document.now.table.rows in
    let fresh : map (λ list. list.items) c.in_ok-kept.kept.items ≡ lists = rw c.in_ok-columns.ensures.rows at c.in_ok-kept.ensures in
    let lengths : map (λ list. length list.items) c.in_ok-kept.kept.items ≡ map length lists = kept_lengths (λ list. list.items) c.in_ok-kept.kept.items lists fresh in
    rw (c.as_slice.ensures.value, lengths) at c.count_lists.ensures
