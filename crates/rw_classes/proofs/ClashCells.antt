-- Clashes among the cells of two lists are those of the parts of two instances.
use Rattle.std.proofs.Common.{◌≡◌, ◌<◌, ◌+◌, ◌-◌, ◌++◌, ℕ, List, length, Option, Some, None, get_or, slice_index, sym, ap, ◌∙◌, inl, inr, arith}
use Rattle.std.proofs.lemmas.Bool.{cases_lt}
use Rattle.std.proofs.lemmas.List.{get_or_append_left, get_or-append_right}
use Rattle.rw_schema.specs.declared.atom.Atom.{Atom}
use Rattle.rw_spec.specs.Distinct.{AreDistinct}
use Rattle.rw_spec.specs.Instance.{look}
use Rattle.rw_spec.proofs.Look.{look_at}
use Rattle.rw_classes.specs.Merging.{AreMerged, IsClash, IsFirst, cell_at}
use Rattle.rw_classes.specs.Places.{either}
use Rattle.rw_classes.proofs.Merging.{first_or_none, not_blank}
use Rattle.rw_classes.proofs.Sides.{either_left, either_right}

-- the cells beside the names of both sides, one list behind the other, are the cells of the parts
pub cells_beside_names : (left right : List ℕ) (left_cells right_cells : List (Option Atom)) → AreDistinct left → AreDistinct right
    → length left_cells ≡ length left → (e : ℕ) → e < length left + length right
    → cell_at (left_cells ++ right_cells) e ≡ either left right (look None left left_cells) (look None right right_cells) e
cells_beside_names left right left_cells right_cells left_distinct right_distinct left_long e within =
    elim (cases_lt e (length left)) [
      | inl on_left ↦
          get_or_append_left left_cells right_cells None e (omega arith)
          ∙ sym (look_at None left left_cells e left_distinct on_left)
          ∙ sym (either_left left right (look None left left_cells) (look None right right_cells) e on_left)
      | inr on_right ↦
          let place : ℕ = e - length left in
          get_or-append_right left_cells right_cells (length left) e None left_long on_right
          ∙ sym (look_at None right right_cells place right_distinct (omega arith))
          ∙ sym (either_right left right (look None left left_cells) (look None right right_cells) e on_right)
    ]

-- a clash among cells is a clash among others that are the same
pub clash_of_same : (cells other : ℕ → Option Atom) (numbers : List ℕ) (w first second : ℕ) (a b : Atom)
    → ((e : ℕ) → e < length numbers → cells e ≡ other e) → IsClash cells numbers w first second a b → IsClash other numbers w first second a b
clash_of_same cells other numbers w first second a b same clash =
    let first_within : first < length numbers = omega (arith, clash.order, clash.within) in
    record {
      order = clash.order;
      within = clash.within;
      first_class = clash.first_class;
      second_class = clash.second_class;
      first_atom = sym (same first first_within) ∙ clash.first_atom;
      second_atom = sym (same second clash.within) ∙ clash.second_atom;
      differ = clash.differ;
      none_before = λ e before class. sym (same e (omega arith)) ∙ clash.none_before e before class;
      same_between = λ e atom after before class has.
          let e_within : e < length numbers = omega (arith, clash.within) in
          clash.same_between e atom after before class (same e e_within ∙ has);
    }

-- where the atoms of each class are the same, no class has a clash
pub no_clash_merged : (cells : ℕ → Option Atom) (numbers : List ℕ) (classes : ℕ) (firsts : List (Option ℕ)) (w first second : ℕ) (a b : Atom)
    → AreMerged cells numbers classes firsts → IsClash cells numbers w first second a b → ⊥
no_clash_merged cells numbers classes firsts w first second a b merged clash =
    let first_within : first < length numbers = omega (arith, clash.order, clash.within) in
    clash.differ (merged.same first second a b first_within clash.within (clash.first_class ∙ sym clash.second_class) clash.first_atom clash.second_atom)

-- the atom of a part is that of its class's first part
pub atom_of_first : (cells : ℕ → Option Atom) (numbers : List ℕ) (classes : ℕ) (firsts : List (Option ℕ)) (e : ℕ) (atom : Atom)
    → AreMerged cells numbers classes firsts → e < length numbers → cells e ≡ Some atom
    → (place : ℕ) × (get_or firsts (slice_index numbers e) None ≡ Some place) × (cells place ≡ Some atom)
atom_of_first cells numbers classes firsts e atom merged within has =
    elim (first_or_none (get_or firsts (slice_index numbers e) None)) [
      | inr missing ↦ absurd (not_blank (cells e) atom has (merged.found.missing e within missing))
      | inl some ↦
          let is_first : IsFirst cells numbers (slice_index numbers e) some.0 = merged.found.found (slice_index numbers e) some.0 some.1 in
          let place_within : some.0 < length numbers = merged.found.below (slice_index numbers e) some.0 some.1 in
          let same : is_first.atom ≡ atom = merged.same some.0 e is_first.atom atom place_within within is_first.class is_first.has has in
          (some.0, some.1, is_first.has ∙ ap (λ (atom : Atom). Some atom) same)
    ]
