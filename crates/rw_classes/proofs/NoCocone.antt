-- Where two parts of one class have different atoms there is no cocone.
use Rattle.std.proofs.Common.{◌≡◌, ◌<◌, ◌+◌, ◌-◌, ℕ, List, length, Contains, Option, Some, slice_get, slice_index, sym, ap, ◌∙◌, subst, inl, inr, arith}
use Rattle.std.proofs.lemmas.Bool.{cases_lt}
use Rattle.std.proofs.lemmas.List.{get_or_default}
use Rattle.std.proofs.lemmas.List.Elements.{All-contains_itself, All-map, All-weaker}
use Rattle.rw_schema.specs.declared.atom.Atom.{Atom}
use Rattle.rw_schema.specs.declared.signature.AttrEnds.{AttrEnds}
use Rattle.rw_schema.specs.Signature.{Signature}
use Rattle.rw_spec.specs.Cocone.{Frame, IsCocone}
use Rattle.rw_spec.specs.Instance.{Instance}
use Rattle.rw_spec.specs.Natural.{Map, IsNatural}
use Rattle.rw_classes.specs.Classes.{Joins, AreClasses}
use Rattle.rw_classes.specs.FirstClash.{IsClashAt}
use Rattle.rw_classes.specs.Places.{cell_of, count_at, either, joined_at, spot}
use Rattle.rw_classes.proofs.Sides.{either_left, either_right, spot_here, spot_within}

-- a name at a place is there
has_at : (names : List ℕ) (e : ℕ) → e < length names → Contains names (slice_index names e)
has_at names e within = (e, within, get_or_default names e (slice_index names e) 0 within)

-- a cocone takes the atom of each part to the part's image
pub carried : (C : Signature) (F : Frame) (c : ℕ) (ends : AttrEnds) (T : Instance) (d s : Map) → slice_get C.attributes c ≡ Some ends → IsCocone C F T d s
    → (e : ℕ) (atom : Atom) → e < count_at F ends.object.0 → cell_of F ends.object.0 c e ≡ Some atom
    → T.cell c (either (F.left.names ends.object.0) (F.right.names ends.object.0) (d ends.object.0) (s ends.object.0) e) ≡ Some atom
carried C F c ends T d s there cocone e atom within has =
    let object : ℕ = ends.object.0 in
    let left : List ℕ = F.left.names object in
    let right : List ℕ = F.right.names object in
    elim (cases_lt e (length left)) [
      | inl on_left ↦
          ap (T.cell c) (either_left left right (d object) (s object) e on_left)
          ∙ cocone.from_left.keeps c ends (slice_index left e) atom there (has_at left e on_left)
          (sym (either_left left right (F.left.cell c) (F.right.cell c) e on_left) ∙ has)
      | inr on_right ↦
          let place : ℕ = e - length left in
          ap (T.cell c) (either_right left right (d object) (s object) e on_right)
          ∙ cocone.from_right.keeps c ends (slice_index right place) atom there (has_at right place (omega arith))
          (sym (either_right left right (F.left.cell c) (F.right.cell c) e on_right) ∙ has)
    ]

-- the two maps of a cocone do not tell the two images of a part of the apex apart
pub cocone_joins : (C : Signature) (F : Frame) (object : ℕ) (T : Instance) (d s : Map) → object < C.objects → IsNatural C F.apex F.left F.to_left → IsNatural C F.apex F.right F.to_right
    → IsCocone C F T d s → Joins (joined_at F object) (either (F.left.names object) (F.right.names object) (d object) (s object))
cocone_joins C F object T d s within to_left to_right cocone =
    let left : List ℕ = F.left.names object in
    let right : List ℕ = F.right.names object in
    let names : List ℕ = F.apex.names object in
    let h : ℕ → ℕ = either left right (d object) (s object) in
    let left_place : ℕ → ℕ = λ z. spot left (F.to_left object z) in
    let right_place : ℕ → ℕ = λ z. length left + spot right (F.to_right object z) in
    let one : (z : ℕ) → Contains names z → h (left_place z) ≡ h (right_place z) =
    λ z there.
    let on_left = to_left.parts object z within there in
    let on_right = to_right.parts object z within there in
    let place : right_place z - length left ≡ spot right (F.to_right object z) = omega arith in
    either_left left right (d object) (s object) (left_place z) (spot_within left (F.to_left object z) on_left)
    ∙ ap (d object) (spot_here left (F.to_left object z) on_left)
    ∙ cocone.agrees object z within there
    ∙ sym (ap (s object) (spot_here right (F.to_right object z) on_right))
    ∙ sym (ap (λ (e : ℕ). s object (slice_index right e)) place)
    ∙ sym (either_right left right (d object) (s object) (right_place z) (omega arith)) in
    All-map (λ (pair : ℕ × ℕ). h pair.0 ≡ h pair.1) (λ z. (left_place z, right_place z)) names
    (All-weaker (Contains names) (λ z. h (left_place z) ≡ h (right_place z)) one names (All-contains_itself names))

-- two parts of one class with different atoms would be taken to one part with both atoms
pub no_cocone : (C : Signature) (F : Frame) (object c w : ℕ) (numbers firsts : List ℕ) (a b : Atom) (ends : AttrEnds)
    → object < C.objects → slice_get C.attributes c ≡ Some ends → ends.object.0 ≡ object
    → IsNatural C F.apex F.left F.to_left → IsNatural C F.apex F.right F.to_right
    → AreClasses (count_at F object) (joined_at F object) numbers firsts → IsClashAt F numbers object c w a b
    → (T : Instance) (d s : Map) → IsCocone C F T d s → ⊥
no_cocone C F object c w numbers firsts a b ends within there holder to_left to_right classes (first, second, clash) T d s cocone =
    let h : ℕ → ℕ = either (F.left.names object) (F.right.names object) (d object) (s object) in
    let joins : Joins (joined_at F object) h = cocone_joins C F object T d s within to_left to_right cocone in
    let second_within : second < count_at F object = subst (λ (n : ℕ). second < n) classes.numbered.each clash.within in
    let first_within : first < count_at F object = omega (arith, clash.order) in
    let image : (e : ℕ) → e < count_at F object → slice_index numbers e ≡ w → h (slice_index firsts w) ≡ h e =
    λ e e_within class. ap (λ (w : ℕ). h (slice_index firsts w)) (sym class) ∙ classes.finest h joins e e_within in
    let one : h first ≡ h second =
    sym (image first first_within clash.first_class) ∙ image second second_within clash.second_class in
    let atom_of_image : (e : ℕ) (atom : Atom) → e < count_at F object → cell_of F object c e ≡ Some atom → T.cell c (h e) ≡ Some atom =
    subst (λ (object : ℕ). (e : ℕ) (atom : Atom) → e < count_at F object → cell_of F object c e ≡ Some atom
    → T.cell c (either (F.left.names object) (F.right.names object) (d object) (s object) e) ≡ Some atom) holder (carried C F c ends T d s there cocone) in
    let first_atom : T.cell c (h first) ≡ Some a = atom_of_image first a first_within clash.first_atom in
    let second_atom : T.cell c (h second) ≡ Some b = atom_of_image second b second_within clash.second_atom in
    clash.differ (same_atom (T.cell c (h first)) a b first_atom (ap (T.cell c) one ∙ second_atom))
  where
    same_atom : (cell : Option Atom) (a b : Atom) → cell ≡ Some a → cell ≡ Some b → a ≡ b
    same_atom cell a b first second = cc
