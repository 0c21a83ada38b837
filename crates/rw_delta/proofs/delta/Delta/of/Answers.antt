-- The lists are copied from the change, gathered from it and joined.
use Rattle.std.proofs.Common.{◌≡◌, ◌∙◌, ℕ, Vec, Global, length, map, ap, sym}
use Rattle.std.proofs.lemmas.List.{length-map}
use Rattle.rw_delta.proofs.Differing.{delta_is}
use Rattle.rw_delta.proofs.delta.Delta.of.Goals as goal

pub returns : goal.returns
returns c =
    let items = λ (list : Vec ℕ Global). list.items in
    let change = c.args.change.now in
    let removed : map items c.in_ok-removed.removed.items ≡ change.removed = c.in_ok-removed.ensures ∙ c.removed_list.ensures in
    let added : map items c.in_ok-added.added.items ≡ change.added.names = c.in_ok-added.ensures ∙ c.added_list.ensures in
    let objects : length c.removed_list-2.result.now ≡ length change.removed = sym (length-map c.removed_list-2.result.now items) ∙ ap length c.removed_list-2.ensures in
    let removed_long : length c.in_ok-removed.removed.items ≡ length change.removed = sym (length-map c.in_ok-removed.removed.items items) ∙ ap length removed in
    let added_long : length c.in_ok-added.added.items ≡ length change.added.names = sym (length-map c.in_ok-added.added.items items) ∙ ap length added in
    let touched = rw (objects, c.arrow_list.ensures, c.rows_list.ensures, c.attribute_list.ensures, c.cells_list.ensures) at c.in_ok-touched.ensures in
    let before = rw (c.as_slice.ensures.value, c.as_slice-2.ensures.value, removed_long, removed) at c.in_ok-before.ensures in
    let after = rw (c.as_slice-3.ensures.value, c.as_slice-4.ensures.value, added_long, added) at c.in_ok-after.ensures in
    rw (c.from_lists.ensures, c.from_lists-2.ensures, c.from_lists-3.ensures, c.from_lists-4.ensures, c.from_lists-5.ensures, removed, added)
    (delta_is c.args.columns.now change c.requires (map items c.in_ok-touched.touched.items) (map items c.in_ok-before.before.items) (map items c.in_ok-after.after.items)
    touched before after)
