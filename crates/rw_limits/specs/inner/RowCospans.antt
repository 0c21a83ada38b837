-- Cospans in lists.
use Rattle.std.specs.Prelude.{◌≡◌, None}
use Rattle.rw_schema.specs.Presentation.{signature_of}
use Rattle.rw_schema.specs.Signature.{Signature, IsCategory}
use Rattle.rw_spec.specs.Homomorphism.{map_of}
use Rattle.rw_spec.specs.Instance.{instance_of}
use Rattle.rw_spec.specs.Pullback.{Cospan}
use Rattle.rw_table.specs.TableFaults.{table_fault}
use Rattle.rw_map.specs.Homs.{IsHom}
use Rattle.rw_limits.specs.declared.cospan.RowCospan.{RowCospan}

-- the signature of the cospan's schema
abbrev pub signature_in : RowCospan → Signature
signature_in rows = signature_of rows.schema.now

-- the cospan of instances that the lists stand for
abbrev pub cospan_in : RowCospan → Cospan
cospan_in rows = record {
  left = instance_of (signature_in rows) rows.left.now;
  right = instance_of (signature_in rows) rows.right.now;
  base = instance_of (signature_in rows) rows.base.now;
  left_map = map_of (instance_of (signature_in rows) rows.left.now) rows.left_map.now;
  right_map = map_of (instance_of (signature_in rows) rows.right.now) rows.right_map.now;
}

-- the lists are instances of the schema, and both maps are homomorphisms
pub record IsCospan (rows : RowCospan) : Type 0 where
  pub category : IsCategory (signature_in rows)
  pub left_sound : table_fault (signature_in rows) rows.left.now ≡ None
  pub right_sound : table_fault (signature_in rows) rows.right.now ≡ None
  pub base_sound : table_fault (signature_in rows) rows.base.now ≡ None
  pub from_left : IsHom (signature_in rows) (cospan_in rows).left (cospan_in rows).base rows.left_map.now
  pub from_right : IsHom (signature_in rows) (cospan_in rows).right (cospan_in rows).base rows.right_map.now
