-- Pushouts of partial homomorphisms (Löwe, "Algebraic approach to single-pushout graph transformation", 1993), where cells are elements too.
use Rattle.std.specs.Prelude.{◌≡◌, ◌<◌, ◌↔◌, ℕ, Bool, true, false, filter, Some, None, slice_get}
use Rattle.rw_schema.specs.declared.signature.AttrEnds.{AttrEnds}
use Rattle.rw_schema.specs.Signature.{Signature}
use Rattle.rw_spec.specs.Cocone.{Frame}
use Rattle.rw_spec.specs.Homomorphism.{IsHomomorphism}
use Rattle.rw_spec.specs.Instance.{Instance, IsInstance, Has}
use Rattle.rw_spec.specs.Natural.{Map, IsNatural}
use Rattle.rw_complement.specs.Redex.{IsInjective}
use Rattle.rw_partial.specs.SubInstance.{AreSameElements, Elements, IsSubInstance, restricted, IsPartialHomomorphism, IsInside}

-- a rule at a match: a span, the cells of its right side that are set, and a map from its left side to the host. The cells of
-- the right side have the values that are set
pub record Applied : Type 0 where
  pub left : Instance
  pub keep : Instance
  pub right : Instance
  pub host : Instance
  pub l : Map
  pub r : Map
  pub m : Map
  pub set : ℕ → ℕ → Bool

-- the left part is that of a kept part whose right part is in the set
abbrev pub IsKeptPart : Applied → Elements → ℕ → ℕ → Type 0
IsKeptPart S R object x = (z : ℕ) × Has S.keep object z × (S.l object z ≡ x) × (R.part object (S.r object z) ≡ true)

-- the left cell is that of a kept part whose right cell is not set and in the set
abbrev pub IsKeptCell : Applied → Elements → ℕ → ℕ → ℕ → Type 0
IsKeptCell S R object c x =
    (z : ℕ) × Has S.keep object z × (S.l object z ≡ x) × (S.set c (S.r object z) ≡ false) × (R.cell c (S.r object z) ≡ true)

-- sub-instances of the host and of the right side fit: the right one has the set cells of its parts, and the elements of the left side
-- that go to the one are those that the rule sends to the other
pub record Fits (C : Signature) (S : Applied) (D R : Elements) : Type 0 where
  pub host : IsSubInstance C S.host D
  pub right : IsSubInstance C S.right R
  pub sets : (c : ℕ) (ends : AttrEnds) (y : ℕ) → slice_get C.attributes c ≡ Some ends → Has S.right ends.object.0 y
      → R.part ends.object.0 y ≡ true → S.set c y ≡ true → R.cell c y ≡ true
  pub parts : (object x : ℕ) → object < C.objects → Has S.left object x → (D.part object (S.m object x) ≡ true) ↔ IsKeptPart S R object x
  pub cells : (c : ℕ) (ends : AttrEnds) (x : ℕ) → slice_get C.attributes c ≡ Some ends → Has S.left ends.object.0 x
      → (D.cell c (S.m ends.object.0 x) ≡ true) ↔ IsKeptCell S R ends.object.0 c x

-- the fitting pair that contains every fitting pair
pub record IsLargestPair (C : Signature) (S : Applied) (D R : Elements) : Type 0 where
  pub fits : Fits C S D R
  pub host : (E Q : Elements) → Fits C S E Q → IsInside C S.host E D
  pub right : (E Q : Elements) → Fits C S E Q → IsInside C S.right Q R

-- T takes both sets of a fitting pair, and the two ways from each common part are one
pub record IsPartialCocone (C : Signature) (S : Applied) (D R : Elements) (T : Instance) (d s : Map) : Type 0 where
  pub instance : IsInstance C T
  pub fits : Fits C S D R
  pub from_host : IsHomomorphism C (restricted S.host D) T d
  pub from_right : IsHomomorphism C (restricted S.right R) T s
  pub agrees : (object z : ℕ) → object < C.objects → Has S.keep object z → R.part object (S.r object z) ≡ true
      → d object (S.m object (S.l object z)) ≡ s object (S.r object z)

-- the partial homomorphism u with domain U leads from the partial cocone H to the partial cocone T, and commutes, with equal domains
pub record IsMediatingPartial (C : Signature) (S : Applied) (D R : Elements) (H : Instance) (i j : Map) (E Q : Elements) (T : Instance) (d s : Map)
    (U : Elements) (u : Map) : Type 0 where
  pub partial : IsPartialHomomorphism C H T U u
  pub host_parts : (object x : ℕ) → object < C.objects → Has S.host object x
      → (E.part object x ≡ true) ↔ ((D.part object x ≡ true) × (U.part object (i object x) ≡ true))
  pub host_cells : (c : ℕ) (ends : AttrEnds) (x : ℕ) → slice_get C.attributes c ≡ Some ends → Has S.host ends.object.0 x
      → (E.cell c x ≡ true) ↔ ((D.cell c x ≡ true) × (U.cell c (i ends.object.0 x) ≡ true))
  pub right_parts : (object y : ℕ) → object < C.objects → Has S.right object y
      → (Q.part object y ≡ true) ↔ ((R.part object y ≡ true) × (U.part object (j object y) ≡ true))
  pub right_cells : (c : ℕ) (ends : AttrEnds) (y : ℕ) → slice_get C.attributes c ≡ Some ends → Has S.right ends.object.0 y
      → (Q.cell c y ≡ true) ↔ ((R.cell c y ≡ true) × (U.cell c (j ends.object.0 y) ≡ true))
  pub from_host : (object x : ℕ) → object < C.objects → Has S.host object x → E.part object x ≡ true → u object (i object x) ≡ d object x
  pub from_right : (object y : ℕ) → object < C.objects → Has S.right object y → Q.part object y ≡ true → u object (j object y) ≡ s object y

-- two partial maps from H are one: the same domains, and the same values there
pub record AreSamePartial (C : Signature) (H : Instance) (U : Elements) (u : Map) (V : Elements) (v : Map) : Type 0 where
  pub domain : AreSameElements C H U V
  pub values : (object w : ℕ) → object < C.objects → Has H object w → U.part object w ≡ true → u object w ≡ v object w

-- H is a partial cocone over the largest pair, and exactly one partial homomorphism leads from it to each partial cocone and commutes
pub record IsInitialPartialCocone (C : Signature) (S : Applied) (D R : Elements) (H : Instance) (i j : Map) : Type 0 where
  pub largest : IsLargestPair C S D R
  pub cocone : IsPartialCocone C S D R H i j
  pub mediating : (E Q : Elements) (T : Instance) (d s : Map) → IsPartialCocone C S E Q T d s
      → (U : Elements) × (u : Map) × IsMediatingPartial C S D R H i j E Q T d s U u
  pub unique : (E Q : Elements) (T : Instance) (d s : Map) (U : Elements) (u : Map) (V : Elements) (v : Map) → IsPartialCocone C S E Q T d s
      → IsMediatingPartial C S D R H i j E Q T d s U u → IsMediatingPartial C S D R H i j E Q T d s V v → AreSamePartial C H U u V v

-- what is glued: the two sets, along the kept parts whose right part is in the set
abbrev pub frame_of_pair : Applied → Elements → Elements → Frame
frame_of_pair S D R = record {
  apex = record { names = λ object. filter (λ z. R.part object (S.r object z)) (S.keep.names object); value = S.keep.value; cell = λ c z. None };
  left = restricted S.host D;
  right = restricted S.right R;
  to_left = λ object z. S.m object (S.l object z);
  to_right = S.r;
}

-- what is kept, the host and the right side are instances, the maps are natural, and l sends no two kept parts to one
pub record IsApplied (C : Signature) (S : Applied) : Type 0 where
  pub keep : IsInstance C S.keep
  pub host : IsInstance C S.host
  pub right : IsInstance C S.right
  pub l : IsNatural C S.keep S.left S.l
  pub r : IsNatural C S.keep S.right S.r
  pub m : IsNatural C S.left S.host S.m
  pub injective : IsInjective C S.keep S.l
