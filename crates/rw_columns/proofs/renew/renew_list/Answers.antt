-- What the steps write, put together.
use Rattle.std.proofs.Common.{◌∙◌, List, Option, None, map, slice_index_or, ap}
use Rattle.rw_schema.specs.declared.atom.Atom.{Atom}
use Rattle.rw_spec.specs.Instance.{look}
use Rattle.rw_columns.specs.inner.Written.{cell_at}
use Rattle.rw_columns.proofs.Replaced.{looked, each_same, each_beside}
use Rattle.rw_columns.proofs.renew.renew_list.Goals as goal

pub returns : goal.returns
returns c =
    let removed = c.args.removed.now in
    let added = c.args.added.now in
    let atoms = c.args.cells.items in
    let old = cell_at c.args.list.now.items in
    let off = cell_at c.blank_all.new.list.items in
    let grown = cell_at c.lengthen.new.list.items in
    let on = cell_at c.put_all.new.list.items in
    let nones : List (Option Atom) = map (λ name. None) removed in
    let taken = looked removed nones (λ k. None) old off c.requires.fits.removed_ascend (each_same removed None) c.blank_all.ensures.written.written in
    let put = looked added atoms (λ k. slice_index_or atoms k None) grown on c.requires.fits.added_ascend (each_beside added atoms None c.requires.fits.beside) c.put_all.ensures.written in
    record {
      long = c.put_all.ensures.long ∙ c.lengthen.ensures.long;
      cells = λ x. put x ∙ ap (λ (cell : Option Atom). look cell added atoms x) (c.lengthen.ensures.same x ∙ taken x);
    }
