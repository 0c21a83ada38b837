-- What the steps write, put together.
use Rattle.std.proofs.Common.{◌≡◌, ◌∙◌, ℕ, List, [], map, refl, ap, arith}
use Rattle.rw_column.specs.Threads.{nothing}
use Rattle.rw_spec.specs.Instance.{look}
use Rattle.rw_columns.specs.inner.Written.{number_at}
use Rattle.rw_columns.proofs.Replaced.{looked, each_same, replaced_by}
use Rattle.rw_columns.proofs.rewrite.change_names.Goals as goal

pub returns : goal.returns
returns c =
    let removed = c.args.removed.now in
    let added = c.args.added.now in
    let old = number_at c.args.column.now in
    let grown = number_at c.add_places.new.column in
    let off = number_at c.unlink_all.new.column in
    let on = number_at c.link_names.new.column in
    let nothings : List ℕ = map (λ name. nothing) removed in
    let zeros : List ℕ = map (λ name. 0) added in
    let taken : (x : ℕ) → off x ≡ look (old x) removed nothings x = λ x.
    looked removed nothings (λ k. nothing) grown off c.requires.fits.removed_ascend (each_same removed nothing) c.unlink_all.ensures.written x
    ∙ ap (λ (n : ℕ). look n removed nothings x) (c.add_places.ensures.same x) in
    record {
      long = c.link_names.ensures.long ∙ c.unlink_all.ensures.long ∙ c.add_places.ensures.long;
      wide = c.link_names.ensures.wide ∙ c.unlink_all.ensures.wide ∙ c.add_places.ensures.wide ∙ c.requires.alone;
      few = omega arith;
      numbers = replaced_by nothing removed [] added zeros old off off on taken (λ x. refl)
          (looked added zeros (λ k. 0) off on c.requires.fits.added_ascend (each_same added 0) c.link_names.ensures.written);
    }
