-- The element is put behind the others unless it is there.
use Rattle.std.proofs.Common.{List, Some, ◌∙◌, ap, sym, subst}
use Rattle.indexmap.specs.IndexSet.{insert_key}
use Rattle.rw_spo.specs.declared.element.Element.{Element}
use Rattle.rw_spo.specs.inner.Removed.{Marks, is_same}
use Rattle.rw_spo.proofs.Going.{marked}
use Rattle.rw_spo.proofs.removed.Removed.insert.Goals as goal

pub returns : goal.returns
returns c =
    let element : Element = c.args.element in
    subst (Marks c.args.self.now (Some element)) (ap (λ (elements : List Element). insert_key is_same elements element) (sym c.self.view_is) ∙ sym c.in_ok-insert.ensures.keys)
    (marked c.args.self.now element)
