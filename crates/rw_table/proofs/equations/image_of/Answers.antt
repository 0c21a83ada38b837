-- The names of the source ascend, and the row is beside them.
use Rattle.std.proofs.Common.{◌≡◌, ◌∙◌, ℕ, List, [], length, slice_get, Some, ap, refl}
use Rattle.std.specs.Option.{unwrap_or}
use Rattle.std.proofs.lemmas.Option.{slice_get-get_or}
use Rattle.rw_schema.specs.declared.signature.ArrowEnds.{ArrowEnds}
use Rattle.rw_schema.specs.RowLists.{RowLists, list_at}
use Rattle.rw_spec.specs.Instance.{look}
use Rattle.rw_spec.proofs.Signatures.{source_is}
use Rattle.rw_table.specs.inner.Along.{instance_along}
use Rattle.rw_table.proofs.Checked.{names_ascend}
use Rattle.rw_table.proofs.Places.{entry_or}
use Rattle.rw_table.proofs.equations.image_of.Goals as goal

-- what is looked up in an arrow's row, beside the names of its source, is the arrow's value
image_is : (arrows : List ArrowEnds) (rows : RowLists) (a : ℕ) (ends : ArrowEnds) (name : ℕ) (names images : List ℕ) → slice_get arrows a ≡ Some ends
    → names ≡ list_at rows.names ends.source.0 → images ≡ list_at rows.arrows a → look 0 names images name ≡ (instance_along arrows rows).value a name
image_is arrows rows a ends name names images there names_are images_are =
    rw (names_are, images_are, ← source_is (record { objects = length rows.names; arrows = arrows; attributes = []; equations = [] }) a ends there) refl

pub entry_beside-requires-clause-ascend : goal.entry_beside-requires-clause-ascend
entry_beside-requires-clause-ascend c = rw c.names.ensures (names_ascend c.args.rows.now _ c.requires.names)

pub entry_beside-requires-clause-beside : goal.entry_beside-requires-clause-beside
entry_beside-requires-clause-beside c =
    rw (c.row.ensures, c.names.ensures) (c.requires.rows.whole c.args.arrow.0 _ (slice_get-get_or c.args.arrows.now c.args.arrow.0 _ c.requires.arrow))

pub returns : goal.returns
returns c =
    let names = c.names.result.now in
    let images = c.row.result.now in
    c.unwrap_or.ensures ∙ ap (λ found. unwrap_or found 0) c.entry_beside.ensures ∙ entry_or 0 names images c.args.name
    ∙ image_is c.args.arrows.now c.args.rows.now c.args.arrow.0 _ c.args.name names images
    (slice_get-get_or c.args.arrows.now c.args.arrow.0 _ c.requires.arrow) c.names.ensures c.row.ensures
