-- Frames that are the same on their names have the same clashes.
use Rattle.std.proofs.Common.{◌≡◌, ◌∙◌, ◌<◌, ◌+◌, ◌-◌, ℕ, List, Contains, length, get_or, Some, slice_get, refl, sym, ap, subst, inl, inr, arith}
use Rattle.std.proofs.lemmas.Bool.{cases_lt}
use Rattle.std.proofs.lemmas.List.Elements.{Contains-get_or}
use Rattle.rw_schema.specs.declared.atom.Atom.{Atom}
use Rattle.rw_schema.specs.declared.signature.AttrEnds.{AttrEnds}
use Rattle.rw_schema.specs.Signature.{Signature, IsCategory}
use Rattle.rw_spec.specs.Cocone.{Frame}
use Rattle.rw_spec.specs.Natural.{Map}
use Rattle.rw_classes.specs.Places.{cell_of, count_at, either}
use Rattle.rw_classes.proofs.Sides.{either_left, either_right}
use Rattle.rw_glued.specs.Clash.{Clashes, IsClashOf, IsFirstClashOf, frame_without_cells, part_of_place}
use Rattle.rw_partial.proofs.SameFrames.{AreSameFrames, frames_back, initial_over_same, named_over_same}

-- what two functions give at a place is one where they agree on the names
either_same : {A : Type 0} (left right : List ℕ) (d s d' s' : ℕ → A) (e : ℕ) → e < length left + length right
    → ((x : ℕ) → Contains left x → d x ≡ d' x) → ((y : ℕ) → Contains right y → s y ≡ s' y) → either left right d s e ≡ either left right d' s' e
either_same left right d s d' s' e within on_left on_right =
    elim (cases_lt e (length left)) [
      | inl below ↦ either_left left right d s e below ∙ on_left (get_or left e 0) (Contains-get_or left e 0 below) ∙ sym (either_left left right d' s' e below)
      | inr past ↦
          let short : e - length left < length right = omega (arith, within, past) in
          either_right left right d s e past ∙ on_right (get_or right (e - length left) 0) (Contains-get_or right (e - length left) 0 short)
          ∙ sym (either_right left right d' s' e past)
    ]

module _ (C : Signature) (category : IsCategory C) (F F' : Frame) (same : AreSameFrames C F F') where
  -- there are as many places
  count_same : (object : ℕ) → object < C.objects → count_at F object ≡ count_at F' object
  count_same object known =
      ap (λ (names : List ℕ). length names + length (F.right.names object)) (same.left_names object known)
      ∙ ap (λ (names : List ℕ). length (F'.left.names object) + length names) (same.right_names object known)

  -- functions give the same at them
  names_same : {A : Type 0} (object : ℕ) → object < C.objects → (d s : ℕ → A) (e : ℕ)
      → either (F.left.names object) (F.right.names object) d s e ≡ either (F'.left.names object) (F'.right.names object) d s e
  names_same object known d s e =
      ap (λ (names : List ℕ). either names (F.right.names object) d s e) (same.left_names object known)
      ∙ ap (λ (names : List ℕ). either (F'.left.names object) names d s e) (same.right_names object known)

  -- so the parts at the places go to the same parts
  part_same : (d s : Map) (object e : ℕ) → object < C.objects → part_of_place F d s object e ≡ part_of_place F' d s object e
  part_same d s object e known = names_same object known (d object) (s object) e

  -- and have the same cells
  cell_same : (c : ℕ) (ends : AttrEnds) (e : ℕ) → slice_get C.attributes c ≡ Some ends → e < count_at F ends.object.0
      → cell_of F ends.object.0 c e ≡ cell_of F' ends.object.0 c e
  cell_same c ends e there within =
      let object : ℕ = ends.object.0 in
      either_same (F.left.names object) (F.right.names object) (F.left.cell c) (F.right.cell c) (F'.left.cell c) (F'.right.cell c) e within
      (λ x has. same.left.cells c ends x there has) (λ y has. same.right.cells c ends y there has)
      ∙ names_same object (category.holders c ends there) (F'.left.cell c) (F'.right.cell c) e

  -- a clash over one frame is one over the other
  clash_same : (d s : Map) (c : ℕ) (ends : AttrEnds) (w : ℕ) (a b : Atom) → slice_get C.attributes c ≡ Some ends
      → IsClashOf F d s ends.object.0 c w a b → IsClashOf F' d s ends.object.0 c w a b
  clash_same d s c ends w a b there clash =
      let object : ℕ = ends.object.0 in
      let known : object < C.objects = category.holders c ends there in
      let first_within : clash.first < count_at F object = omega (arith, clash.order, clash.within) in
      record {
        first = clash.first;
        second = clash.second;
        order = clash.order;
        within = subst (λ (n : ℕ). clash.second < n) (count_same object known) clash.within;
        first_part = sym (part_same d s object clash.first known) ∙ clash.first_part;
        second_part = sym (part_same d s object clash.second known) ∙ clash.second_part;
        first_atom = sym (cell_same c ends clash.first there first_within) ∙ clash.first_atom;
        second_atom = sym (cell_same c ends clash.second there clash.within) ∙ clash.second_atom;
        differ = clash.differ;
        none_before = λ e before goes.
            sym (cell_same c ends e there (omega (arith, before, first_within))) ∙ clash.none_before e before (part_same d s object e known ∙ goes);
        same_between = λ e atom after before goes has.
            clash.same_between e atom after before (part_same d s object e known ∙ goes)
            (cell_same c ends e there (omega (arith, before, clash.within)) ∙ has);
      }

-- the frames without cells are the same too
bare_same : (C : Signature) (F F' : Frame) → AreSameFrames C F F' → AreSameFrames C (frame_without_cells F) (frame_without_cells F')
bare_same C F F' same = record {
  apex_names = same.apex_names;
  left_names = same.left_names;
  right_names = same.right_names;
  left = record { names = same.left.names; values = same.left.values; cells = λ c ends x there has. refl };
  right = record { names = same.right.names; values = same.right.values; cells = λ c ends x there has. refl };
  to_left = same.to_left;
  to_right = same.to_right;
}

-- the first clash over one frame is the first over the other
pub clashes_of_same : (C : Signature) → IsCategory C → (F F' : Frame) → AreSameFrames C F F' → (next : List ℕ) (object w c : ℕ) (a b : Atom)
    → Clashes C F' next object w c a b → Clashes C F next object w c a b
clashes_of_same C category F F' same next object w c a b clashes =
    let back : AreSameFrames C F' F = frames_back C category F F' same in
    let bare = bare_same C F F' same in
    let first : IsFirstClashOf C F' clashes.d clashes.s object w c a b = clashes.clash in
    record {
      shape = clashes.shape;
      d = clashes.d;
      s = clashes.s;
      pushout = initial_over_same C category (frame_without_cells F) (frame_without_cells F') bare clashes.shape clashes.d clashes.s clashes.pushout;
      named = named_over_same C (frame_without_cells F) (frame_without_cells F') bare next clashes.d clashes.s clashes.named;
      clash = record {
        ends = first.ends;
        there = first.there;
        holder = first.holder;
        clash =
            subst (λ (o : ℕ). IsClashOf F clashes.d clashes.s o c w a b) first.holder
            (clash_same C category F' F back clashes.d clashes.s c first.ends w a b first.there
            (subst (λ (o : ℕ). IsClashOf F' clashes.d clashes.s o c w a b) (sym first.holder) first.clash));
        least = λ o' w' c' ends' a' b' there' holder' clash' earlier.
            first.least o' w' c' ends' a' b' there' holder'
            (subst (λ (o : ℕ). IsClashOf F' clashes.d clashes.s o c' w' a' b') holder'
            (clash_same C category F F' same clashes.d clashes.s c' ends' w' a' b' there'
            (subst (λ (o : ℕ). IsClashOf F clashes.d clashes.s o c' w' a' b') (sym holder') clash'))) earlier;
      };
    }
