-- A local gluing is answered by a change or by the first clash, and never by neither.
use Rattle.std.proofs.Common.{◌≡◌, ◌∙◌, ◌⊎◌, ◌<◌, ◌+◌, ◌-◌, ℕ, true, List, Contains, length, Option, None, slice_index, refl, sym, ap, subst, inl, inr, arith}
use Rattle.std.proofs.lemmas.Bool.{cases_lt}
use Rattle.std.proofs.lemmas.List.Elements.{Contains-get_or}
use Rattle.rw_schema.specs.declared.atom.Atom.{Atom}
use Rattle.rw_schema.specs.RowLists.{list_at}
use Rattle.rw_schema.specs.Signature.{Signature, IsCategory}
use Rattle.rw_spec.specs.Cocone.{Frame, IsInitialCocone}
use Rattle.rw_spec.specs.Instance.{Instance, Has}
use Rattle.rw_spec.specs.Natural.{Map, IsNatural}
use Rattle.rw_spec.specs.Ascending.{ascends}
use Rattle.rw_spec.specs.Same.{AreSame}
use Rattle.rw_spec.proofs.Sequences.{contains_filter, contained_in_map}
use Rattle.rw_spec.proofs.Ascending.{ascends_distinct}
use Rattle.rw_universal.specs.Gluing.{IsGluing}
use Rattle.rw_universal.proofs.Gluing.{pushout_from_gluing}
use Rattle.rw_classes.specs.Places.{count_at, joined_at, spot}
use Rattle.rw_classes.specs.FirstClash.{IsFirstClash}
use Rattle.rw_classes.proofs.Sides.{spot_within, spot_at, either_left, either_right}
use Rattle.rw_columns.specs.Changes.{ChangeLists, Fits, changed}
use Rattle.rw_complement.specs.Named.{IsNamed, is_new, new_parts, new_before}
use Rattle.rw_complement.proofs.Named.{same_back}
use Rattle.rw_glued.specs.Clash.{frame_without_cells, part_of_place, IsFirstClashOf, Clashes}
use Rattle.rw_glued.specs.OneGluing.{IsNaturalFrame}
use Rattle.rw_glued.specs.Result.{Classing, HaveOneAtom, class_name, left_name, right_name, name_at, next_after}
use Rattle.rw_glued.proofs.Clashes.{bare_instance, bare_natural, first_clash_named}
use Rattle.rw_glued.proofs.Counts.{less_some}
use Rattle.rw_local.specs.inner.ChangeTo.{IsReached}
use Rattle.rw_local.specs.Over.{IsOver}
use Rattle.rw_local.specs.inner.Glued.{added_names, local_change, removed_names}
use Rattle.rw_local.specs.inner.Local.{AreCells, AreLocal, IsRenaming, local_cell, narrow, only_parts, placed, renamed, wanted}
use Rattle.rw_local.proofs.ChangeTo.{change_fits, changed_instance, changed_names, changed_same}
use Rattle.rw_local.proofs.Classes.{local_cells, parts_category, parts_joined, renamed_is, small_agrees, small_frame, small_fresh, small_stays}
use Rattle.rw_local.proofs.Exists.{classes_exist, firsts_of, numbers_of}
use Rattle.rw_local.proofs.FirstClash.{first_clash_or_none, one_without_clash}
use Rattle.rw_local.proofs.Reached.{glued_reached}
use Rattle.rw_local.proofs.Renamed.{gluing_of_same, new_or_old, wanted_is_gluing, wanted_is_initial}
use Rattle.rw_local.proofs.Widened.{first_clash_widens}

-- of each object the touched names and right parts with which classes begin
abbrev pub firsts_at : Frame → (ℕ → List ℕ) → Classing
firsts_at F touched object = firsts_of (count_at (narrow F touched) object) (joined_at (narrow F touched) object)

-- and the classes of all
abbrev pub numbers_at : Frame → (ℕ → List ℕ) → Classing
numbers_at F touched object = numbers_of (count_at (narrow F touched) object) (joined_at (narrow F touched) object)

-- touched names have classes
pub local_exists : (C : Signature) (F : Frame) (next : List ℕ) (touched : ℕ → List ℕ) → IsNatural C F.apex F.right F.to_right
    → ((object : ℕ) → object < C.objects → ascends (touched object) ≡ true)
    → ((object : ℕ) → object < C.objects → ascends (F.right.names object) ≡ true)
    → ((object x : ℕ) → object < C.objects → Has F.left object x → x < slice_index next object)
    → ((object x : ℕ) → object < C.objects → Contains (touched object) x → Has F.left object x)
    → ((object z : ℕ) → object < C.objects → Has F.apex object z → Contains (touched object) (F.to_left object z))
    → AreLocal C F next touched (numbers_at F touched) (firsts_at F touched)
local_exists C F next touched to_right touched_ascends right_ascends below in_left under = record {
  touched_ascends = touched_ascends;
  right_ascends = right_ascends;
  below = below;
  in_left = in_left;
  under = under;
  classes = λ object known.
      classes_exist (count_at (narrow F touched) object) (joined_at (narrow F touched) object)
      (λ (pair : ℕ × ℕ) there.
      let found = contained_in_map (λ z. (spot (touched object) (F.to_left object z), length (touched object) + spot (F.right.names object) (F.to_right object z))) (F.apex.names object) pair there in
      let z : ℕ = found.0 in
      let first : spot (touched object) (F.to_left object z) < length (touched object) = spot_within (touched object) (F.to_left object z) (under object z known found.1) in
      let second : spot (F.right.names object) (F.to_right object z) < length (F.right.names object) = spot_within (F.right.names object) (F.to_right object z) (to_right.parts object z known found.1) in
      subst (λ (pair : ℕ × ℕ). (pair.0 < count_at (narrow F touched) object) × (pair.1 < count_at (narrow F touched) object)) found.2 (omega arith, omega arith));
}

module _ (C : Signature) (category : IsCategory C) (F : Frame) (frame : IsNaturalFrame C F)
    (next : List ℕ) (touched : ℕ → List ℕ) (numbers firsts : Classing) (local : AreLocal C F next touched numbers firsts)
  where
    -- the part to which a small part goes has the name of its class
    small_part : (object e : ℕ) → object < C.objects → e < count_at (narrow F touched) object
        → part_of_place (narrow F touched) (left_name (narrow F touched) next numbers firsts) (right_name (narrow F touched) next numbers firsts) object e
        ≡ name_at (narrow F touched) next numbers firsts object e
    small_part object e known within =
        let lefts : List ℕ = touched object in
        let rights : List ℕ = F.right.names object in
        let l : ℕ → ℕ = left_name (narrow F touched) next numbers firsts object in
        let s : ℕ → ℕ = right_name (narrow F touched) next numbers firsts object in
        elim (cases_lt e (length lefts)) [
          | inl here ↦
              either_left lefts rights l s e here
              ∙ ap (name_at (narrow F touched) next numbers firsts object) (spot_at lefts e (ascends_distinct lefts (local.touched_ascends object known)) here)
          | inr past ↦
              let k : ℕ = e - length lefts in
              let k_within : k < length rights = omega arith in
              let whole : length lefts + k ≡ e = omega arith in
              either_right lefts rights l s e past
              ∙ ap (λ (k : ℕ). name_at (narrow F touched) next numbers firsts object (length lefts + k)) (spot_at rights k (ascends_distinct rights (local.right_ascends object known)) k_within)
              ∙ ap (name_at (narrow F touched) next numbers firsts object) whole
        ]

    -- and is below the next names afterwards
    small_bound : (object e : ℕ) → object < C.objects → e < count_at (narrow F touched) object
        → part_of_place (narrow F touched) (left_name (narrow F touched) next numbers firsts) (right_name (narrow F touched) next numbers firsts) object e
        < slice_index next object + length (new_parts F object)
    small_bound object e known within =
        let lefts : List ℕ = touched object in
        let rights : List ℕ = F.right.names object in
        let l : ℕ → ℕ = left_name (narrow F touched) next numbers firsts object in
        let s : ℕ → ℕ = right_name (narrow F touched) next numbers firsts object in
        let at_left : (x : ℕ) → Contains lefts x → l x < slice_index next object = λ x there.
        local.below object (l x) known (local.in_left object (l x) known (small_stays C category F frame next touched numbers firsts local object x known there)) in
        elim (cases_lt e (length lefts)) [
          | inl here ↦
              let under : l (slice_index lefts e) < slice_index next object = at_left (slice_index lefts e) (Contains-get_or lefts e 0 here) in
              rw (either_left lefts rights l s e here) (omega (arith, under))
          | inr past ↦
              let k : ℕ = e - length lefts in
              let k_within : k < length rights = omega arith in
              let y : ℕ = slice_index rights k in
              let has : Has F.right object y = Contains-get_or rights k 0 k_within in
              rw (either_right lefts rights l s e past)
              (elim (new_or_old F object y) [
                | inl new ↦
                    let name : s y ≡ slice_index next object + new_before F object y =
                    small_fresh C category F frame next touched numbers firsts local object y known has new in
                    let fewer : new_before F object y < length (new_parts F object) = less_some (new_parts F object) y (contains_filter (is_new F object) rights y has new) in
                    omega (arith, name, fewer)
                | inr (z, has_z, old) ↦
                    let under : l (F.to_left object z) < slice_index next object = at_left (F.to_left object z) (local.under object z known has_z) in
                    let same : l (F.to_left object z) ≡ s y =
                    small_agrees C category F frame next touched numbers firsts local object z known has_z ∙ ap s old in
                    omega (arith, under, same)
              ])
        ]

    -- either the atoms of each class are one, or there is a first clash of the touched names and right parts
    pub one_or_clash : HaveOneAtom C (narrow F touched) numbers
        ⊎ ((object : ℕ) × (w : ℕ) × (c : ℕ) × (a : Atom) × (b : Atom)
        × IsFirstClashOf C (narrow F touched) (left_name (narrow F touched) next numbers firsts) (right_name (narrow F touched) next numbers firsts) object w c a b)
    one_or_clash =
        let G : Frame = narrow F touched in
        let l : Map = left_name (narrow F touched) next numbers firsts in
        let s : Map = right_name (narrow F touched) next numbers firsts in
        let bound : ℕ → ℕ = λ object. slice_index next object + length (new_parts F object) in
        elim (first_clash_or_none C G l s bound small_bound) [
          | inl clash ↦ inr clash
          | inr none ↦ inl (λ c ends e other a b there within other_within same is other_is.
              let known : ends.object.0 < C.objects = category.holders c ends there in
              let goes : part_of_place G l s ends.object.0 other ≡ part_of_place G l s ends.object.0 e =
              small_part ends.object.0 other known other_within
              ∙ ap (λ (k : ℕ). class_name G next ends.object.0 (slice_index (firsts ends.object.0) k)) (sym same)
              ∙ sym (small_part ends.object.0 e known within) in
              one_without_clash C G l s bound small_bound none c ends (part_of_place G l s ends.object.0 e) there known e other a b within other_within refl goes is other_is)
        ]

    -- the frame without cells
    bare_frame : IsNaturalFrame C (frame_without_cells F)
    bare_frame = record {
      apex = bare_instance C F.apex frame.apex;
      left = bare_instance C F.left frame.left;
      right = bare_instance C F.right frame.right;
      to_left = bare_natural C F.apex F.left F.to_left frame.to_left;
      to_right = bare_natural C F.apex F.right F.to_right frame.to_right;
    }

    -- names are the same without cells
    bare_renaming : IsRenaming C (frame_without_cells F) next (renamed F next touched numbers firsts) (placed F next touched numbers firsts)
    bare_renaming =
        let is = renamed_is C category F frame next touched numbers firsts local in
        record {
          named = record { kept = is.named.kept; fresh = is.named.fresh };
          agrees = is.agrees;
          finest = is.finest;
        }

    -- and no atom is there
    bare_cells : AreCells C (frame_without_cells F) (renamed F next touched numbers firsts) (placed F next touched numbers firsts) (λ c w. None)
    bare_cells = record {
      of_left = λ c ends x atom there has blank. let none : ⊥ = cc in absurd none;
      of_right = λ c ends z atom there has blank. let none : ⊥ = cc in absurd none;
      from_some = λ c ends w atom there has stays blank. let none : ⊥ = cc in absurd none;
    }

    -- the first clash of touched names and right parts is the first of what is glued; then there is no cocone
    pub local_clashes : (left_ascends : (object : ℕ) → object < C.objects → ascends (F.left.names object) ≡ true) → (object w c : ℕ) (a b : Atom)
        → IsFirstClashOf C (narrow F touched) (left_name (narrow F touched) next numbers firsts) (right_name (narrow F touched) next numbers firsts) object w c a b
        → Clashes C F next object w c a b
    local_clashes left_ascends object w c a b first =
        let B : Frame = frame_without_cells F in
        record {
          shape = wanted C B (renamed F next touched numbers firsts) (placed F next touched numbers firsts) (λ c w. None);
          d = renamed F next touched numbers firsts;
          s = placed F next touched numbers firsts;
          pushout = wanted_is_initial C category B bare_frame next local.below (renamed F next touched numbers firsts) (placed F next touched numbers firsts) bare_renaming (λ c w. None) bare_cells;
          named = bare_renaming.named;
          clash = first_clash_widens C category F frame next touched numbers firsts local left_ascends object w c a b first;
        }

module _ (C : Signature) (category : IsCategory C) (F : Frame) (frame : IsNaturalFrame C F)
    (next : List ℕ) (touched : ℕ → List ℕ) (numbers firsts : List (List ℕ)) (local : AreLocal C F next touched (list_at numbers) (list_at firsts))
  where
    -- what the search for a clash of classes finds over the small frame is the first clash of what is glued
    pub clashes_from_small : (left_ascends : (object : ℕ) → object < C.objects → ascends (F.left.names object) ≡ true) → (object k c : ℕ) (a b : Atom)
        → IsFirstClash C (narrow F touched) numbers object k c a b
        → Clashes C F next object (class_name (narrow F touched) next object (slice_index (list_at firsts object) k)) c a b
    clashes_from_small left_ascends object k c a b first =
        let w : ℕ = class_name (narrow F touched) next object (slice_index (list_at firsts object) k) in
        let parts = small_frame C category F frame next touched (list_at numbers) (list_at firsts) local in
        let small =
        first_clash_named (only_parts C) (parts_category C category) (narrow F touched)
        parts.left parts.right parts.apex parts.to_left parts.to_right next numbers firsts
        (parts_joined C category F frame next touched (list_at numbers) (list_at firsts) local) object k c a b
        (record { ends = first.ends; there = first.there; holder = first.holder; clash = first.clash; least = first.least }) in
        local_clashes C category F frame next touched (list_at numbers) (list_at firsts) local left_ascends object w c a b
        (record { ends = small.ends; there = small.there; holder = small.holder; clash = small.clash; least = small.least })

module _ (C : Signature) (category : IsCategory C) (F : Frame) (frame : IsNaturalFrame C F)
    (X : Instance) (gone copies : ℕ → List ℕ) (next next_copied : List ℕ) (over : IsOver C X F.left gone copies next next_copied)
    (touched : ℕ → List ℕ) (numbers firsts : Classing) (local : AreLocal C F next_copied touched numbers firsts)
    (one : HaveOneAtom C (narrow F touched) numbers)
  where
    -- where names of the left side go
    abbrev d : Map
    d = renamed F next_copied touched numbers firsts

    -- where right parts go
    abbrev s : Map
    s = placed F next_copied touched numbers firsts

    -- the cells of names that stay
    abbrev cell : ℕ → ℕ → Option Atom
    cell = local_cell C F next_copied touched numbers firsts

    -- the result
    abbrev result : Instance
    result = wanted C F d s cell

    -- the change
    abbrev change : ChangeLists
    change = local_change C X F touched numbers firsts gone copies next_copied

    -- the classes rename the whole
    renaming : IsRenaming C F next_copied d s
    renaming = renamed_is C category F frame next_copied touched numbers firsts local

    -- and give its cells
    cells : AreCells C F d s cell
    cells = local_cells C category F frame next_copied touched numbers firsts local one

    -- the result is reached from the host
    reached : IsReached C X result (removed_names X gone d) (added_names F d s copies) next (next_after C F next_copied)
    reached = glued_reached C category F frame X gone copies next next_copied over local.right_ascends d s renaming cell cells

    -- the change fits
    pub local_fits : Fits C X (slice_index next) change
    local_fits = change_fits C category X result (removed_names X gone d) (added_names F d s copies) next (next_after C F next_copied) reached

    -- it gives the result
    pub local_changed : AreSame C (changed C X change) result
    local_changed = changed_same C category X result (removed_names X gone d) (added_names F d s copies) next (next_after C F next_copied) reached

    -- its names in the same order
    pub local_names : (object : ℕ) → object < C.objects → (changed C X change).names object ≡ result.names object
    local_names = changed_names C category X result (removed_names X gone d) (added_names F d s copies) next (next_after C F next_copied) reached

    -- what it gives is glued of both sides
    pub local_gluing : IsGluing C F (changed C X change) d s
    local_gluing =
        gluing_of_same C category F result (changed C X change) d s (same_back C category (changed C X change) result local_changed)
        (changed_instance C category X result (removed_names X gone d) (added_names F d s copies) next (next_after C F next_copied) reached)
        (wanted_is_gluing C category F frame next_copied local.below d s renaming cell cells)

    -- so it is an initial cocone
    pub local_initial : IsInitialCocone C F (changed C X change) d s
    local_initial = pushout_from_gluing C category F frame.left frame.right (changed C X change) d s local_gluing

    -- named as the step wants
    pub local_named : IsNamed C F next_copied d s
    local_named = renaming.named
