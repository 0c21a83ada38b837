-- How the parts of a copying over one object are made from those over the objects that its arrows lead to.
use Rattle.std.specs.Prelude.{◌≡◌, ◌==◌, ℕ, suc, Bool, false, cond, List, [], ◌∷◌, length, Option, Some, slice_get, slice_index}
use Rattle.rw_schema.specs.declared.atom.Atom.{Atom}
use Rattle.rw_schema.specs.declared.signature.ArrowEnds.{ArrowEnds}
use Rattle.rw_schema.specs.declared.signature.AttrEnds.{AttrEnds}
use Rattle.rw_schema.specs.Signature.{Signature, source_of, holder_of}
use Rattle.rw_spec.specs.Distinct.{AreDistinct}
use Rattle.rw_spec.specs.Ends.{target_of}
use Rattle.rw_spec.specs.Instance.{Instance, Has, look}
use Rattle.rw_spec.specs.Natural.{Map}
use Rattle.rw_spec.specs.Redex.{Redex}
use Rattle.rw_copies.specs.Copying.{IsOutside, IsFamily}

-- a part that is made: a kept part, or a copy of a host part outside the match, with one value for each arrow (those of arrows that leave other objects say nothing)
pub data Made : Type 0 where
  Kept : (part : ℕ) → Made
  Copied : (host : ℕ) (row : List ℕ) → Made

-- the host part that it is over, its value under an arrow, its cell
abbrev pub made_host : Redex → ℕ → Made → ℕ
made_host R object (Kept z) = R.m object (R.l object z)
made_host R object (Copied g row) = g

abbrev pub made_value : Signature → Redex → Map → ℕ → Made → ℕ
made_value C R k a (Kept z) = k (target_of C a) (R.keep.value a z)
made_value C R k a (Copied g row) = slice_index row a

abbrev pub made_cell : Redex → ℕ → Made → Option Atom
made_cell R c (Kept z) = R.keep.cell c z
made_cell R c (Copied g row) = R.host.cell c g

-- it is the kept part
abbrev pub is_kept : ℕ → Made → Bool
is_kept z (Kept y) = y == z
is_kept z (Copied g row) = false

-- where the kept part stands
abbrev pub kept_place : ℕ → List Made → ℕ
kept_place z [] = 0
kept_place z (made ∷ more) = cond (is_kept z made) 0 (suc (kept_place z more))

-- the list has each kept part once, and once each family over each host part outside the match
pub record AreMade (C : Signature) (R : Redex) (D : Instance) (e : Map) (object : ℕ) (all : List Made) : Type 0 where
  pub kept : (p z : ℕ) → slice_get all p ≡ Some (Kept z) → Has R.keep object z
  pub copied : (p g : ℕ) (row : List ℕ) → slice_get all p ≡ Some (Copied g row) → Has R.host object g × IsOutside R object g × IsFamily C R D e object g (slice_index row)
  pub all_kept : (z : ℕ) → Has R.keep object z → (p : ℕ) × (slice_get all p ≡ Some (Kept z))
  pub all_copied : (g : ℕ) (family : ℕ → ℕ) → Has R.host object g → IsOutside R object g → IsFamily C R D e object g family
      → (p : ℕ) × (row : List ℕ) × (slice_get all p ≡ Some (Copied g row))
      × ((a : ℕ) (ends : ArrowEnds) → slice_get C.arrows a ≡ Some ends → ends.source.0 ≡ object → slice_index row a ≡ family a)
  pub kept_once : (p q z : ℕ) → slice_get all p ≡ Some (Kept z) → slice_get all q ≡ Some (Kept z) → p ≡ q
  pub copied_once : (p q g : ℕ) (row other : List ℕ) → slice_get all p ≡ Some (Copied g row) → slice_get all q ≡ Some (Copied g other)
      → ((a : ℕ) (ends : ArrowEnds) → slice_get C.arrows a ≡ Some ends → ends.source.0 ≡ object → slice_index row a ≡ slice_index other a) → p ≡ q

-- what stands beside a name
abbrev pub made_at : List ℕ → List Made → ℕ → Made
made_at names all v = look (Kept 0) names all v

-- E has these parts over the object, under these names, where k tells of the kept parts over other objects
pub record ArePlaced (C : Signature) (R : Redex) (k : Map) (object : ℕ) (names : List ℕ) (all : List Made) (E : Instance) (j i : Map) : Type 0 where
  pub distinct : AreDistinct names
  pub beside : length all ≡ length names
  pub parts : E.names object ≡ names
  pub values : (a : ℕ) (ends : ArrowEnds) (v : ℕ) → slice_get C.arrows a ≡ Some ends → ends.source.0 ≡ object → E.value a v ≡ made_value C R k a (made_at names all v)
  pub cells : (c : ℕ) (ends : AttrEnds) (v : ℕ) → slice_get C.attributes c ≡ Some ends → ends.object.0 ≡ object → E.cell c v ≡ made_cell R c (made_at names all v)
  pub from_keep : (z : ℕ) → j object z ≡ slice_index names (kept_place z all)
  pub to_host : (v : ℕ) → i object v ≡ made_host R object (made_at names all v)

-- D with parts over one object more
abbrev pub with_parts : Signature → Redex → Instance → Map → ℕ → List ℕ → List Made → Instance
with_parts C R D k object names all = record {
  names = λ o. cond (o == object) names (D.names o);
  value = λ a v. cond (source_of C a == object) (made_value C R k a (made_at names all v)) (D.value a v);
  cell = λ c v. cond (holder_of C c == object) (made_cell R c (made_at names all v)) (D.cell c v);
}

-- its map to the host
abbrev pub with_hosts : Redex → Map → ℕ → List ℕ → List Made → Map
with_hosts R e object names all o v = cond (o == object) (made_host R object (made_at names all v)) (e o v)

-- its map from the kept parts
abbrev pub with_keep : Map → ℕ → List ℕ → List Made → Map
with_keep k object names all o z = cond (o == object) (slice_index names (kept_place z all)) (k o z)
