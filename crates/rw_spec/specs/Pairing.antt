-- A pullback, object by object: a part for each pair of parts with one image in the base.
use Rattle.std.specs.Prelude.{◌≡◌, ◌<◌, ℕ, Some, slice_get}
use Rattle.rw_schema.specs.declared.atom.Atom.{Atom}
use Rattle.rw_schema.specs.declared.signature.AttrEnds.{AttrEnds}
use Rattle.rw_schema.specs.Signature.{Signature}
use Rattle.rw_spec.specs.Homomorphism.{IsHomomorphism, after}
use Rattle.rw_spec.specs.Instance.{Instance, Has}
use Rattle.rw_spec.specs.Natural.{Map, SameOn}
use Rattle.rw_spec.specs.Pullback.{Cospan}
use Rattle.rw_spec.specs.Values.{HasValues}

-- each pair of parts with one image has one part of P, and its cell has each atom that both parts have
pub record IsPairing (C : Signature) (S : Cospan) (P : Instance) (p q : Map) : Type 0 where
  pub values : HasValues C P
  pub to_left : IsHomomorphism C P S.left p
  pub to_right : IsHomomorphism C P S.right q
  pub agrees : SameOn C P (after S.left_map p) (after S.right_map q)
  pub each : (object x y : ℕ) → object < C.objects → Has S.left object x → Has S.right object y → S.left_map object x ≡ S.right_map object y
      → (w : ℕ) × Has P object w × (p object w ≡ x) × (q object w ≡ y)
  pub once : (object v w : ℕ) → object < C.objects → Has P object v → Has P object w → p object v ≡ p object w → q object v ≡ q object w → v ≡ w
  pub cells : (c : ℕ) (ends : AttrEnds) (w : ℕ) (atom : Atom) → slice_get C.attributes c ≡ Some ends → Has P ends.object.0 w
      → S.left.cell c (p ends.object.0 w) ≡ Some atom → S.right.cell c (q ends.object.0 w) ≡ Some atom → P.cell c w ≡ Some atom
