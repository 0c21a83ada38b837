-- What the steps write, put together.
use Rattle.std.proofs.Common.{◌≡◌, ◌∙◌, ◌<◌, ℕ, List, length, map, slice_index, slice_index_or, sym, ap, arith}
use Rattle.std.proofs.lemmas.List.{length-map}
use Rattle.rw_column.specs.Threads.{nothing}
use Rattle.rw_spec.specs.Instance.{look}
use Rattle.rw_columns.specs.Changes.{entry_names, entry_values}
use Rattle.rw_columns.specs.inner.Written.{number_at, IsWritten}
use Rattle.rw_columns.proofs.Replaced.{looked, each_same, each_beside, replaced_by}
use Rattle.rw_columns.proofs.rewrite.change_arrow.Goals as goal

pub returns : goal.returns
returns c =
    let removed = c.args.removed.now in
    let rows = c.args.rows.items in
    let added = c.args.added.now in
    let images = c.args.images.now in
    let old = number_at c.args.column.now in
    let grown = number_at c.add_targets.new.column in
    let off = number_at c.unlink_all.new.column in
    let led = number_at c.redirect_all.new.column in
    let on = number_at c.link_all.new.column in
    let same : (x : ℕ) → grown x ≡ old x = λ x. ap (λ (values : List ℕ). slice_index_or values x nothing) c.add_targets.ensures.values ∙ c.add_places.ensures.same x in
    let nothings : List ℕ = map (λ name. nothing) removed in
    let taken : (x : ℕ) → off x ≡ look (old x) removed nothings x = λ x.
    looked removed nothings (λ k. nothing) grown off c.requires.fits.removed_ascend (each_same removed nothing) c.unlink_all.ensures.written x
    ∙ ap (λ (n : ℕ). look n removed nothings x) (same x) in
    let count : length (entry_names rows) ≡ length rows = length-map rows (λ entry. entry.0) in
    let beside_each : length (entry_values rows) ≡ length (entry_names rows) = length-map rows (λ entry. entry.1) ∙ sym count in
    let all_rows : IsWritten (λ k. k < length (entry_names rows)) (entry_names rows) (slice_index (entry_values rows)) off led = record {
      beside = λ k within. c.redirect_all.ensures.written.beside k (omega (arith, within, count));
      elsewhere = λ x others. c.redirect_all.ensures.written.elsewhere x (λ k within. others k (omega (arith, within, count)));
    } in
    record {
      long = c.link_all.ensures.long ∙ c.redirect_all.ensures.long ∙ c.unlink_all.ensures.long ∙ ap length c.add_targets.ensures.values ∙ c.add_places.ensures.long;
      wide = c.link_all.ensures.wide ∙ c.redirect_all.ensures.wide ∙ c.unlink_all.ensures.wide ∙ c.add_targets.ensures.wide;
      few = c.add_targets.ensures.few;
      numbers = replaced_by nothing removed rows added images old off led on taken
          (looked (entry_names rows) (entry_values rows) (slice_index (entry_values rows)) off led c.requires.fits.rows_ascend
          (each_beside (entry_names rows) (entry_values rows) 0 beside_each) all_rows)
          (looked added images (slice_index images) led on c.requires.fits.added_ascend (each_beside added images 0 c.requires.fits.beside) c.link_all.ensures.written);
    }
