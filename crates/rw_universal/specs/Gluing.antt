-- A pushout, object by object: the parts of both sides, divided by what the apex joins.
use Rattle.std.specs.Prelude.{◌≡◌, ◌<◌, ◌⊎◌, ℕ, Some, slice_get}
use Rattle.rw_schema.specs.declared.atom.Atom.{Atom}
use Rattle.rw_schema.specs.declared.signature.AttrEnds.{AttrEnds}
use Rattle.rw_schema.specs.Signature.{Signature}
use Rattle.rw_spec.specs.Cocone.{Frame}
use Rattle.rw_spec.specs.Homomorphism.{IsHomomorphism, after}
use Rattle.rw_spec.specs.Instance.{Instance, Has}
use Rattle.rw_spec.specs.Natural.{Map, SameOn}
use Rattle.rw_spec.specs.Values.{HasValues}

-- some part of X that meets P goes to w
abbrev pub From : Instance → Map → (ℕ → Type 0) → ℕ → ℕ → Type 0
From X f P object w = (x : ℕ) × Has X object x × (f object x ≡ w) × P x

-- v after f is d, at one object
abbrev pub Through : Instance → Map → ℕ → (ℕ → ℕ) → (ℕ → ℕ) → Type 0
Through X f object d v = (x : ℕ) → Has X object x → v (f object x) ≡ d x

-- both sides cover H, and a function of parts of both sides that agrees on the apex factors through H; each atom of H comes
-- from a side
pub record IsGluing (C : Signature) (F : Frame) (H : Instance) (l r : Map) : Type 0 where
  pub values : HasValues C H
  pub from_left : IsHomomorphism C F.left H l
  pub from_right : IsHomomorphism C F.right H r
  pub agrees : SameOn C F.apex (after l F.to_left) (after r F.to_right)
  pub covers : (object w : ℕ) → object < C.objects → Has H object w
      → From F.left l (λ x. Unit {0}) object w ⊎ From F.right r (λ y. Unit {0}) object w
  pub finest : (object : ℕ) (d s : ℕ → ℕ) → object < C.objects
      → ((z : ℕ) → Has F.apex object z → d (F.to_left object z) ≡ s (F.to_right object z))
      → (v : ℕ → ℕ) × Through F.left l object d v × Through F.right r object s v
  pub cells : (c : ℕ) (ends : AttrEnds) (w : ℕ) (atom : Atom) → slice_get C.attributes c ≡ Some ends → Has H ends.object.0 w → H.cell c w ≡ Some atom
      → From F.left l (λ x. F.left.cell c x ≡ Some atom) ends.object.0 w ⊎ From F.right r (λ y. F.right.cell c y ≡ Some atom) ends.object.0 w
