-- The lists of an instance whose parts are named from 0.
use Rattle.std.proofs.Common.{◌≡◌, ◌∙◌, ℕ, zero, suc, ◌+◌, ◌<◌, ◌≤◌, ◌==◌, Bool, true, nat_lt, Option, Some, None, List, [], ◌∷◌, length, map, slice_get, slice_index, refl, subst, arith, add-zero, zero-add, inl, inr}
use Rattle.std.specs.List.{list_all, list_any, range_with_len}
use Rattle.std.proofs.lemmas.Bool.{and_parts, eq-eqb, lt-ltb, ltb-true, or_left, or_right, cases_eq}
use Rattle.std.proofs.lemmas.List.{length-map}
use Rattle.std.proofs.lemmas.List.FromFn.{length-range_with_len}
use Rattle.std.proofs.lemmas.Option.{get_or_from_slice_get}
use Rattle.rw_schema.specs.declared.atom.Atom.{Atom}
use Rattle.rw_schema.specs.declared.signature.ArrowEnds.{ArrowEnds}
use Rattle.rw_schema.specs.declared.signature.AttrEnds.{AttrEnds}
use Rattle.rw_schema.specs.First.{fault_unless, all_in}
use Rattle.rw_schema.specs.RowLists.{list_at}
use Rattle.rw_schema.specs.Signature.{Signature}
use Rattle.rw_schema.proofs.Firsts.{unless_true, none_from, none_unless}
use Rattle.rw_schema.proofs.Lists.{slice_get_mapped}
use Rattle.rw_table.specs.declared.fault.TableFault.TheVariants as faults
use Rattle.rw_table.specs.TableFaults.{has_length, has_cells, has_shape, are_names, names_fault, row_fault, range_fault, is_cell_of, cell_fault, kind_fault, equation_fault, table_fault}
use Rattle.rw_spec.specs.Ascending.{ascends}
use Rattle.rw_doc.specs.Instances.{rows_of}

-- lists with one image for each part of an arrow's source, each a part of its target, and one cell for each part of an
-- attribute's object, each of its kind
pub record AreLists (C : Signature) (parts : List ℕ) (arrows : List (List ℕ)) (cells : List (List (Option Atom))) : Type 0 where
  pub all_objects : length parts ≡ C.objects
  pub all_arrows : length arrows ≡ length C.arrows
  pub all_attributes : length cells ≡ length C.attributes
  pub row_lengths : (a : ℕ) (ends : ArrowEnds) → slice_get C.arrows a ≡ Some ends → length (list_at arrows a) ≡ slice_index parts ends.source.0
  pub images : (a : ℕ) (ends : ArrowEnds) → slice_get C.arrows a ≡ Some ends → list_all (λ image. nat_lt image (slice_index parts ends.target.0)) (list_at arrows a) ≡ true
  pub cell_lengths : (c : ℕ) (ends : AttrEnds) → slice_get C.attributes c ≡ Some ends → length (list_at cells c) ≡ slice_index parts ends.object.0
  pub kinds : (c : ℕ) (ends : AttrEnds) → slice_get C.attributes c ≡ Some ends → list_all (is_cell_of ends.kind) (list_at cells c) ≡ true

-- the names of an object are those below its number of parts
pub names_at : (parts : List ℕ) (object : ℕ) → list_at (map (range_with_len 0) parts) object ≡ range_with_len 0 (slice_index parts object)
names_at [] object = refl
names_at (count ∷ parts) zero = refl
names_at (count ∷ parts) (suc object) = names_at parts object

-- there are as many as parts
name_count : (parts : List ℕ) (object : ℕ) → length (list_at (map (range_with_len 0) parts) object) ≡ slice_index parts object
name_count parts object = rw (names_at parts object) (length-range_with_len 0 (slice_index parts object))

-- numbers in a row ascend
ascending_range : (first count : ℕ) → ascends (range_with_len first count) ≡ true
ascending_range first zero = refl
ascending_range first (suc zero) = refl
ascending_range first (suc (suc count)) = rw (lt-ltb first (first + 1) (omega arith)) (ascending_range (first + 1) (suc count))

-- they are below a number that is behind them
below_range : (first count most : ℕ) → first + count ≤ most → list_all (λ name. nat_lt name most) (range_with_len first count) ≡ true
below_range first zero most within = refl
below_range first (suc count) most within = rw (lt-ltb first most (omega arith)) (below_range (first + 1) count most (omega arith))

-- a number between the first and the last is among them
among_range : (first count x : ℕ) → first ≤ x → x < first + count → list_any (λ name. name == x) (range_with_len first count) ≡ true
among_range first zero x from to = absurd (omega arith)
among_range first (suc count) x from to =
    elim (cases_eq first x) [
      | inl here ↦ or_left (first == x) (list_any (λ name. name == x) (range_with_len (first + 1) count)) (eq-eqb first x here)
      | inr other ↦ or_right (first == x) (list_any (λ name. name == x) (range_with_len (first + 1) count)) (among_range (first + 1) count x (omega arith) (omega arith))
    ]

-- a test that is passed at each place is passed by all
all_at : {X : Type 0} (f : ℕ → X → Bool) (i : ℕ) (xs : List X) → ((k : ℕ) (x : X) → slice_get xs k ≡ Some x → f (i + k) x ≡ true) → all_in f i xs ≡ true
all_at f i [] holds = refl
all_at f i (x ∷ xs) holds =
    let here : f i x ≡ true = rw add-zero at (holds 0 x refl) in
    rw here (all_at f (i + 1) xs (λ k y found. let same : (i + 1) + k ≡ i + suc k = omega arith in rw same (holds (suc k) y found)))

-- a weaker test is passed too
all_weaker : {X : Type 0} (p q : X → Bool) (xs : List X) → ((x : X) → p x ≡ true → q x ≡ true) → list_all p xs ≡ true → list_all q xs ≡ true
all_weaker p q [] weaker all = refl
all_weaker p q (x ∷ xs) weaker all =
    let both = and_parts (p x) (list_all p xs) all in
    rw (weaker x both.0) (all_weaker p q xs weaker both.1)

-- such lists have the shape of the schema
shape_holds : (C : Signature) (parts : List ℕ) (arrows : List (List ℕ)) (cells : List (List (Option Atom)))
    → AreLists C parts arrows cells → has_shape C (rows_of parts arrows cells) ≡ true
shape_holds C parts arrows cells lists =
    let rows = rows_of parts arrows cells in
    let names : length rows.names ≡ C.objects = length-map parts (range_with_len 0) ∙ lists.all_objects in
    let lengths : all_in (has_length rows) 0 C.arrows ≡ true = all_at (has_length rows) 0 C.arrows
    (λ a ends there. eq-eqb (length (list_at arrows (0 + a))) (length (list_at rows.names ends.source.0))
    (rw (zero-add a, name_count parts ends.source.0) (lists.row_lengths a ends there))) in
    let cell_lengths : all_in (has_cells rows) 0 C.attributes ≡ true = all_at (has_cells rows) 0 C.attributes
    (λ c ends there. eq-eqb (length (list_at cells (0 + c))) (length (list_at rows.names ends.object.0))
    (rw (zero-add c, name_count parts ends.object.0) (lists.cell_lengths c ends there))) in
    rw (
      eq-eqb (length rows.names) C.objects names,
      eq-eqb (length parts) C.objects lists.all_objects,
      eq-eqb (length arrows) (length C.arrows) lists.all_arrows,
      eq-eqb (length cells) (length C.attributes) lists.all_attributes,
      lengths,
      cell_lengths,
    ) refl

-- all numbers below the next name are names
names_below : (count : ℕ) (names : List ℕ) → range_with_len 0 count ≡ names → are_names count names ≡ true
names_below count names are =
    subst (λ names. are_names count names ≡ true) are (rw (ascending_range 0 count, below_range 0 count count (omega arith)) refl)

-- the names are some
names_hold : (parts : List ℕ) (arrows : List (List ℕ)) (cells : List (List (Option Atom))) → names_fault (rows_of parts arrows cells) ≡ None
names_hold parts arrows cells =
    none_from (λ object names. fault_unless (are_names (slice_index parts object) names) (faults.Names (record { 0 = object }))) 0 (map (range_with_len 0) parts)
    (λ k names there.
    let found = slice_get_mapped (range_with_len 0) parts k names there in
    let count : slice_index parts k ≡ found.0 = get_or_from_slice_get parts k found.0 0 found.1 in
    unless_true (are_names (slice_index parts (0 + k)) names) (faults.Names (record { 0 = 0 + k }))
    (rw (zero-add k, count) (names_below found.0 names found.2)))

-- the images are names of the targets
range_holds : (C : Signature) (parts : List ℕ) (arrows : List (List ℕ)) (cells : List (List (Option Atom)))
    → AreLists C parts arrows cells → range_fault C (rows_of parts arrows cells) ≡ None
range_holds C parts arrows cells lists =
    let names = map (range_with_len 0) parts in
    none_from (row_fault (rows_of parts arrows cells)) 0 C.arrows
    (λ a ends there.
    let count = slice_index parts ends.target.0 in
    none_unless (λ image. list_any (λ name. name == image) (list_at names ends.target.0)) (λ position. faults.Range (record { 0 = 0 + a }) position) 0 (list_at arrows (0 + a))
    (rw (zero-add a, names_at parts ends.target.0) (all_weaker (λ image. nat_lt image count) (λ image. list_any (λ name. name == image) (range_with_len 0 count)) (list_at arrows a)
    (λ image below. let within : image < count = ltb-true image count below in among_range 0 count image (omega arith) (omega arith))
    (lists.images a ends there))))

-- the atoms are of the attributes' kinds
kinds_hold : (C : Signature) (parts : List ℕ) (arrows : List (List ℕ)) (cells : List (List (Option Atom)))
    → AreLists C parts arrows cells → kind_fault C (rows_of parts arrows cells) ≡ None
kinds_hold C parts arrows cells lists =
    none_from (cell_fault (rows_of parts arrows cells)) 0 C.attributes
    (λ c ends there. none_unless (is_cell_of ends.kind) (λ position. faults.Kind (record { 0 = 0 + c }) position) 0 (list_at cells (0 + c))
    (rw (zero-add c) (lists.kinds c ends there)))

-- only an equation can fail
pub only_equations_fail : (C : Signature) (parts : List ℕ) (arrows : List (List ℕ)) (cells : List (List (Option Atom)))
    → AreLists C parts arrows cells → table_fault C (rows_of parts arrows cells) ≡ equation_fault C (rows_of parts arrows cells)
only_equations_fail C parts arrows cells lists =
    rw (shape_holds C parts arrows cells lists, names_hold parts arrows cells, range_holds C parts arrows cells lists, kinds_hold C parts arrows cells lists) refl
