-- The names of checked lists ascend, and maps between them have an image for each.
use Rattle.std.proofs.Common.{◌≡◌, true, arith}
use Rattle.rw_schema.specs.RowLists.{list_at}
use Rattle.rw_spec.specs.Ascending.{ascends}
use Rattle.rw_spec.proofs.Ascending.{ascends_distinct}
use Rattle.rw_table.proofs.Checked.{checked_known, names_ascend, shape_known}
use Rattle.rw_limits.specs.inner.RowCospans.{cospan_in, signature_in}
use Rattle.rw_limits.proofs.ImagesWithin.{images_within}
use Rattle.rw_limits.proofs.cospan.sides_of.Goals as goal

pub returns-clause-sides : goal.returns-clause-sides
returns-clause-sides c =
    let rows = c.args.cospan.now in
    let C = signature_in rows in
    let object = c.args.object.0 in
    let cospan = c.requires.cospan in
    let left_up : ascends (list_at rows.left.now.names object) ≡ true = names_ascend rows.left.now object (checked_known C rows.left.now cospan.left_sound).names in
    record {
      base_ascends = rw c.names.ensures (names_ascend rows.base.now object (checked_known C rows.base.now cospan.base_sound).names);
      left_ascends = rw c.names-2.ensures left_up;
      right_ascends = rw c.names-3.ensures (names_ascend rows.right.now object (checked_known C rows.right.now cospan.right_sound).names);
      left_beside = rw (c.images.ensures, c.names-2.ensures) (cospan.from_left.shape.each object c.requires.object);
      right_beside = rw (c.images-2.ensures, c.names-3.ensures) (cospan.from_right.shape.each object c.requires.object);
      left_within =
          rw (c.images.ensures, c.names.ensures)
          (images_within C (cospan_in rows).left (cospan_in rows).base rows.left_map.now object cospan.from_left.shape cospan.from_left.homomorphism.natural
          (ascends_distinct (list_at rows.left.now.names object) left_up) c.requires.object);
    }

pub names-requires : goal.names-requires
names-requires c =
    let rows = c.args.cospan.now in
    omega (arith, (shape_known (signature_in rows) rows.base.now (checked_known (signature_in rows) rows.base.now c.requires.cospan.base_sound).shape).names)

pub names-requires-2 : goal.names-requires-2
names-requires-2 c =
    let rows = c.args.cospan.now in
    omega (arith, (shape_known (signature_in rows) rows.left.now (checked_known (signature_in rows) rows.left.now c.requires.cospan.left_sound).shape).names)

pub names-requires-3 : goal.names-requires-3
names-requires-3 c =
    let rows = c.args.cospan.now in
    omega (arith, (shape_known (signature_in rows) rows.right.now (checked_known (signature_in rows) rows.right.now c.requires.cospan.right_sound).shape).names)
