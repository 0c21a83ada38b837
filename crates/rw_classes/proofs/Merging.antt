-- The first parts of classes that have an atom, and the first parts that differ from them.
use Rattle.std.proofs.Common.{◌≡◌, ◌≢◌, ◌⊎◌, ◌<◌, ◌≤◌, ◌+◌, ◌&&◌, ℕ, true, false, List, length, Option, Some, None, is_some, is_none, set, slice_index, slice_index_or, refl, sym, ap, ◌∙◌, subst, inl, inr, arith, below_more}
use Rattle.std.proofs.lemmas.Bool.{cases_eq, cases_lt, cases_Bool, and_parts}
use Rattle.std.proofs.lemmas.List.{get_or-set_same, get_or-set_other}
use Rattle.rw_schema.specs.declared.atom.Atom.{Atom}
use Rattle.rw_schema.proofs.Atoms.{is_same_atom, atoms_decide}
use Rattle.rw_classes.specs.declared.merge.Difference.{Difference}
use Rattle.rw_classes.specs.Merging.{AreFirsts, AreMerged, IsClash, IsFirst}
use Rattle.rw_classes.specs.inner.Merging.{AreDifferent, DiffersFrom, IsLeastDifference, LeastDifference}

-- two atoms are the same or not
same_or_not : (a b : Atom) → (a ≡ b) ⊎ (a ≢ b)
same_or_not a b =
    elim (cases_Bool (is_same_atom a b)) [
      | inl same ↦ inl ((atoms_decide a b).0 same)
      | inr other ↦ inr (λ equal. let same : is_same_atom a b ≡ true = (atoms_decide a b).1 equal in let no : ⊥ = cc in no)
    ]

-- a cell that is not blank has an atom
atom_of : (cell : Option Atom) → is_some cell ≡ true → (atom : Atom) × (cell ≡ Some atom)
atom_of None there = let no : ⊥ = cc in absurd no
atom_of (Some atom) there = (atom, refl)

-- a class has a first part or none
pub first_or_none : (first : Option ℕ) → ((place : ℕ) × (first ≡ Some place)) ⊎ (first ≡ None)
first_or_none None = inr refl
first_or_none (Some place) = inl (place, refl)

-- cells that differ have different atoms
different_atoms : (one other : Option Atom) → AreDifferent one other → (a : Atom) × (b : Atom) × (one ≡ Some a) × (other ≡ Some b) × (a ≢ b)
different_atoms None None different = absurd different
different_atoms None (Some b) different = absurd different
different_atoms (Some a) None different = absurd different
different_atoms (Some a) (Some b) different = (a, b, refl, refl, different)

-- different atoms make cells differ
cells_differ : (one other : Option Atom) (a b : Atom) → one ≡ Some a → other ≡ Some b → a ≢ b → AreDifferent one other
cells_differ one other a b one_is other_is differ = rw (one_is, other_is) differ

-- a blank cell has no atom
pub not_blank : (cell : Option Atom) (atom : Atom) → cell ≡ Some atom → cell ≡ None → ⊥
not_blank cell atom there blank = cc

-- a part that begins its class is the class's first with an atom
pub firsts_set : (cells : ℕ → Option Atom) (numbers : List ℕ) (n : ℕ) (firsts : List (Option ℕ)) → slice_index numbers n < length firsts
    → (is_some (cells n) && is_none (slice_index_or firsts (slice_index numbers n) None)) ≡ true
    → AreFirsts cells numbers n firsts → AreFirsts cells numbers (n + 1) (set firsts (slice_index numbers n) (Some n))
firsts_set cells numbers n firsts within begins before =
    let class : ℕ = slice_index numbers n in
    let more : List (Option ℕ) = set firsts class (Some n) in
    let parts = and_parts (is_some (cells n)) (is_none (slice_index_or firsts class None)) begins in
    let found : (atom : Atom) × (cells n ≡ Some atom) = atom_of (cells n) parts.0 in
    let none : slice_index_or firsts class None ≡ None = no_first (slice_index_or firsts class None) parts.1 in
    let here : slice_index_or more class None ≡ Some n = get_or-set_same firsts class (Some n) None within in
    let others : (w : ℕ) → w ≢ class → slice_index_or more w None ≡ slice_index_or firsts w None = λ w other. get_or-set_other firsts class w (Some n) None other in
    let this : (w place : ℕ) → w ≡ class → slice_index_or more w None ≡ Some place → n ≡ place =
    λ w place same is. let both : Some n ≡ Some place = sym here ∙ ap (λ (w : ℕ). slice_index_or more w None) (sym same) ∙ is in cc in
    record {
      below = λ w place is.
          elim (cases_eq w class) [
            | inl same ↦ let is_n : n ≡ place = this w place same is in omega arith
            | inr other ↦ let below : place < n = before.below w place (sym (others w other) ∙ is) in omega arith
          ];
      found = λ w place is.
          elim (cases_eq w class) [
            | inl same ↦
                subst (IsFirst cells numbers w) (this w place same is) (record {
                  class = sym same;
                  atom = found.0;
                  has = found.1;
                  earlier = λ e earlier e_class. before.missing e earlier (ap (λ (w : ℕ). slice_index_or firsts w None) (e_class ∙ same) ∙ none);
                })
            | inr other ↦ before.found w place (sym (others w other) ∙ is)
          ];
      missing = λ e e_within is.
          elim (cases_eq (slice_index numbers e) class) [
            | inl same ↦ let no : ⊥ = first_is_none n (slice_index_or more class None) here (ap (λ (w : ℕ). slice_index_or more w None) (sym same) ∙ is) in absurd no
            | inr other ↦
                elim (cases_lt e n) [
                  | inl earlier ↦ before.missing e earlier (sym (others (slice_index numbers e) other) ∙ is)
                  | inr last ↦ let same : e ≡ n = omega arith in absurd (other (ap (slice_index numbers) same))
                ]
          ];
    }
  where
    no_first : (first : Option ℕ) → is_none first ≡ true → first ≡ None
    no_first None none = refl
    no_first (Some place) none = let no : ⊥ = cc in absurd no

    first_is_none : (n : ℕ) (first : Option ℕ) → first ≡ Some n → first ≡ None → ⊥
    first_is_none n first some none = cc

-- a part that does not begin its class leaves the first ones as they are
pub firsts_kept : (cells : ℕ → Option Atom) (numbers : List ℕ) (n : ℕ) (firsts : List (Option ℕ))
    → (is_some (cells n) && is_none (slice_index_or firsts (slice_index numbers n) None)) ≡ false
    → AreFirsts cells numbers n firsts → AreFirsts cells numbers (n + 1) firsts
firsts_kept cells numbers n firsts begins before = record {
  below = λ w place is. let below : place < n = before.below w place is in omega arith;
  found = before.found;
  missing = below_more (λ e. slice_index_or firsts (slice_index numbers e) None ≡ None → cells e ≡ None) n before.missing
      (blank_here (cells n) (slice_index_or firsts (slice_index numbers n) None) begins);
}
  where
    blank_here : (cell : Option Atom) (first : Option ℕ) → (is_some cell && is_none first) ≡ false → first ≡ None → cell ≡ None
    blank_here None first begins none = refl
    blank_here (Some atom) None begins none = let no : ⊥ = cc in absurd no
    blank_here (Some atom) (Some place) begins none = let no : ⊥ = cc in absurd no

-- where a part has another atom than its class's first, it differs from that one
differs : (cells : ℕ → Option Atom) (numbers : List ℕ) (firsts : List (Option ℕ)) (w e first : ℕ) (a b : Atom) → slice_index numbers e ≡ w
    → slice_index_or firsts w None ≡ Some first → cells first ≡ Some a → cells e ≡ Some b → a ≢ b → DiffersFrom cells numbers firsts e first
differs cells numbers firsts w e first a b class is first_is e_is differ = record {
  is_first = ap (λ (w : ℕ). slice_index_or firsts w None) class ∙ is;
  different = cells_differ (cells first) (cells e) a b first_is e_is differ;
}

-- in a clash the first part is the class's first that has an atom
first_of_clash : (cells : ℕ → Option Atom) (numbers : List ℕ) (firsts : List (Option ℕ)) (w first second : ℕ) (a b : Atom) → AreFirsts cells numbers (length numbers) firsts
    → IsClash cells numbers w first second a b → slice_index_or firsts w None ≡ Some first
first_of_clash cells numbers firsts w first second a b are_firsts clash =
    let within : first < length numbers = omega (arith, clash.order, clash.within) in
    elim (first_or_none (slice_index_or firsts w None)) [
      | inr none ↦ absurd (not_blank (cells first) a clash.first_atom (are_firsts.missing first within (ap (λ (w : ℕ). slice_index_or firsts w None) clash.first_class ∙ none)))
      | inl some ↦
          let place : ℕ = some.0 in
          let is_first : IsFirst cells numbers w place = are_firsts.found w place some.1 in
          elim (cases_lt place first) [
            | inl earlier ↦ absurd (not_blank (cells place) is_first.atom is_first.has (clash.none_before place earlier is_first.class))
            | inr later ↦
                elim (cases_lt first place) [
                  | inl earlier ↦ absurd (not_blank (cells first) a clash.first_atom (is_first.earlier first earlier clash.first_class))
                  | inr same ↦ let equal : place ≡ first = omega arith in some.1 ∙ ap (λ (place : ℕ). Some place) equal
                ]
          ]
    ]

-- the least difference is a clash
pub clash_from_difference : (cells : ℕ → Option Atom) (numbers : List ℕ) (firsts : List (Option ℕ)) (difference : Difference)
    → AreFirsts cells numbers (length numbers) firsts → IsLeastDifference cells numbers firsts (length numbers) difference
    → (a : Atom) × (b : Atom) × IsClash cells numbers difference.class difference.first difference.second a b
clash_from_difference cells numbers firsts difference are_firsts least =
    let w : ℕ = difference.class in
    let first : ℕ = difference.first in
    let second : ℕ = difference.second in
    let is : slice_index_or firsts w None ≡ Some first = ap (λ (w : ℕ). slice_index_or firsts w None) (sym least.class) ∙ least.differs.is_first in
    let is_first : IsFirst cells numbers w first = are_firsts.found w first is in
    let atoms : (a : Atom) × (b : Atom) × (cells first ≡ Some a) × (cells second ≡ Some b) × (a ≢ b) = different_atoms (cells first) (cells second) least.differs.different in
    let a : Atom = atoms.0 in
    let b : Atom = atoms.1 in
    let order : first < second =
    elim (cases_lt first second) [
      | inl before ↦ before
      | inr after ↦
          elim (cases_eq second first) [
            | inl same ↦ absurd (atoms.4 (one_atom (cells first) (cells second) a b atoms.2 atoms.3 (ap cells same)))
            | inr other ↦ absurd (not_blank (cells second) b atoms.3 (is_first.earlier second (omega arith) least.class))
          ]
    ] in (
      a,
      b,
      record {
        order = order;
        within = least.within;
        first_class = is_first.class;
        second_class = least.class;
        first_atom = atoms.2;
        second_atom = atoms.3;
        differ = atoms.4;
        none_before = is_first.earlier;
        same_between = λ e atom after before class has.
            elim (same_or_not a atom) [
              | inl same ↦ sym same
              | inr other ↦
                  let e_within : e < length numbers = omega (arith, least.within) in
                  let not_earlier : second ≤ e = least.least_place e first e_within (differs cells numbers firsts w e first a atom class is atoms.2 has other) class in
                  absurd (omega arith)
            ];
      },
    )
  where
    one_atom : (one other : Option Atom) (a b : Atom) → one ≡ Some a → other ≡ Some b → other ≡ one → a ≡ b
    one_atom one other a b one_is other_is same = cc

-- no class before that of the least difference has a clash
pub no_clash_before : (cells : ℕ → Option Atom) (numbers : List ℕ) (firsts : List (Option ℕ)) (difference : Difference)
    → AreFirsts cells numbers (length numbers) firsts → IsLeastDifference cells numbers firsts (length numbers) difference
    → (w first second : ℕ) (a b : Atom) → w < difference.class → IsClash cells numbers w first second a b → ⊥
no_clash_before cells numbers firsts difference are_firsts least w first second a b before clash =
    let is : slice_index_or firsts w None ≡ Some first = first_of_clash cells numbers firsts w first second a b are_firsts clash in
    let second_differs : DiffersFrom cells numbers firsts second first =
    differs cells numbers firsts w second first a b clash.second_class is clash.first_atom clash.second_atom clash.differ in
    let not_before : difference.class ≤ slice_index numbers second = least.least_class second first clash.within second_differs in
    let class : slice_index numbers second ≡ w = clash.second_class in
    omega arith

-- where no part differs from its class's first, the atoms of a class are the same
pub merged_from_firsts : (cells : ℕ → Option Atom) (numbers : List ℕ) (classes : ℕ) (firsts : List (Option ℕ)) → length firsts ≡ classes
    → AreFirsts cells numbers (length numbers) firsts → LeastDifference cells numbers firsts (length numbers) None → AreMerged cells numbers classes firsts
merged_from_firsts cells numbers classes firsts each are_firsts none = record {
  each = each;
  found = are_firsts;
  same = λ e other a b e_within other_within class e_is other_is.
      elim (first_or_none (slice_index_or firsts (slice_index numbers e) None)) [
        | inr missing ↦ absurd (not_blank (cells e) a e_is (are_firsts.missing e e_within missing))
        | inl some ↦
            let is_first : IsFirst cells numbers (slice_index numbers e) some.0 = are_firsts.found (slice_index numbers e) some.0 some.1 in
            as_first cells numbers firsts (slice_index numbers e) e some.0 is_first.atom a none e_within refl some.1 is_first.has e_is
            ∙ sym (as_first cells numbers firsts (slice_index numbers e) other some.0 is_first.atom b none other_within (sym class) some.1 is_first.has other_is)
      ];
}
  where
    as_first : (cells : ℕ → Option Atom) (numbers : List ℕ) (firsts : List (Option ℕ)) (w e first : ℕ) (a b : Atom) → LeastDifference cells numbers firsts (length numbers) None
        → e < length numbers → slice_index numbers e ≡ w → slice_index_or firsts w None ≡ Some first → cells first ≡ Some a → cells e ≡ Some b → b ≡ a
    as_first cells numbers firsts w e first a b none within class is first_is e_is =
        elim (same_or_not a b) [ inl same ↦ sym same | inr other ↦ absurd (none e first within (differs cells numbers firsts w e first a b class is first_is e_is other)) ]
