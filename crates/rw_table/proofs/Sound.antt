-- Lists that stand for an instance have no fault.
use Rattle.std.proofs.Common.{◌≡◌, ◌∙◌, ℕ, suc, ◌+◌, ◌<◌, true, List, [], ◌∷◌, length, map, Option, Some, None, get_or, slice_get, slice_index, refl, sym, ap, subst, add-zero, zero-add, arith, eq-eqb}
use Rattle.std.proofs.lemmas.List.{ext_get_or, length-map, get_or-map}
use Rattle.std.proofs.lemmas.List.FromFn.{fill_by_all}
use Rattle.std.proofs.lemmas.Option.{slice_get-get_or, slice_get_within, get_or_from_slice_get}
use Rattle.rw_schema.specs.declared.atom.Atom.{Atom}
use Rattle.rw_schema.specs.declared.signature.ArrowEnds.{ArrowEnds}
use Rattle.rw_schema.specs.declared.signature.AttrEnds.{AttrEnds}
use Rattle.rw_schema.specs.First.{fault_unless, map_in, all_in}
use Rattle.rw_schema.specs.RowLists.{RowLists, list_at}
use Rattle.rw_schema.specs.Signature.{Signature, IsCategory}
use Rattle.rw_schema.proofs.Firsts.{first_none, passed_unless, unless_true, none_from}
use Rattle.rw_spec.specs.Distinct.{AreDistinct}
use Rattle.rw_spec.specs.Instance.{IsInstance, instance_of, look}
use Rattle.rw_spec.proofs.Look.{look_at}
use Rattle.rw_spec.proofs.Sequences.{all_in_from_each}
use Rattle.rw_spec.proofs.Signatures.{source_is, holder_is}
use Rattle.rw_table.specs.TableFaults.{has_length, has_cells, has_shape, are_names, names_fault, table_fault}
use Rattle.rw_table.specs.declared.fault.TableFault.TheVariants.{Names}
use Rattle.rw_spec.proofs.Ascending.{ascends_distinct}
use Rattle.rw_table.proofs.Checked.{shape_known, row_whole, cells_whole, names_ascend}
use Rattle.rw_table.proofs.Listed.{listed, listed_unfaulted}

-- a list that has at each place what a map with places gives there is that map
pub mapped_in : {X A : Type 0} (f : ℕ → X → A) (i : ℕ) (xs : List X) (ys : List A) (d : A) → length ys ≡ length xs
    → ((k : ℕ) (x : X) → slice_get xs k ≡ Some x → get_or ys k d ≡ f (i + k) x) → ys ≡ map_in f i xs
mapped_in f i [] [] d long each = refl
mapped_in f i [] (y ∷ ys) d long each = absurd (omega arith)
mapped_in f i (x ∷ xs) [] d long each = absurd (omega arith)
mapped_in f i (x ∷ xs) (y ∷ ys) d long each =
    let here : y ≡ f i x = rw add-zero at (each 0 x refl) in
    let later : ys ≡ map_in f (i + 1) xs =
    mapped_in f (i + 1) xs ys d (omega arith) (λ k next there.
    let same : (i + 1) + k ≡ i + suc k = omega arith in
    rw same (each (suc k) next there)) in
    rw (here, later) refl

-- the entries beside distinct names are what is looked up at each name
entries_beside : {A : Type 0} (none : A) (names : List ℕ) (entries : List A) → AreDistinct names → length entries ≡ length names
    → entries ≡ map (look none names entries) names
entries_beside none names entries distinct beside =
    ext_get_or none entries (map (look none names entries) names) (beside ∙ sym (length-map names (look none names entries)))
    (λ k within.
    let among : k < length names = omega arith in
    sym (get_or-map (look none names entries) names k 0 none among ∙ look_at none names entries k distinct among))

-- lists that are the same one by one are the same
pub same_rows : (left right : RowLists) → left.names ≡ right.names → left.arrows ≡ right.arrows → left.cells ≡ right.cells → left.next ≡ right.next → left ≡ right
same_rows left right names arrows cells next =
    let with_names = λ (lists : List (List ℕ)). record left { names = lists } in
    let with_arrows = λ (lists : List (List ℕ)). record (with_names right.names) { arrows = lists } in
    let with_cells = λ (lists : List (List (Option Atom))). record (with_arrows right.arrows) { cells = lists } in
    let with_next = λ (numbers : List ℕ). record (with_cells right.cells) { next = numbers } in
    ap with_names names ∙ ap with_arrows arrows ∙ ap with_cells cells ∙ ap with_next next

-- the names of each object are distinct
pub names_distinct : (rows : RowLists) (object : ℕ) → names_fault rows ≡ None → AreDistinct (list_at rows.names object)
names_distinct rows object named = ascends_distinct (list_at rows.names object) (names_ascend rows object named)

-- the names of each object ascend below its next name
pub names_below : (C : Signature) (rows : RowLists) (object : ℕ) → has_shape C rows ≡ true → names_fault rows ≡ None → object < C.objects
    → are_names (slice_index rows.next object) (list_at rows.names object) ≡ true
names_below C rows object shaped named known =
    let fault = λ (each : ℕ) (names : List ℕ). fault_unless (are_names (slice_index rows.next each) names) (Names (record { 0 = each })) in
    let names = list_at rows.names object in
    let there = slice_get-get_or rows.names object [] (rw (shape_known C rows shaped).names known) in
    let passed = subst (λ place. fault place names ≡ None) (zero-add object) (first_none fault 0 rows.names named object names there) in
    passed_unless (are_names (slice_index rows.next object) names) (Names (record { 0 = object })) passed

-- lists of the right shape with distinct names are the lists of the instance that they stand for
pub lists_listed : (C : Signature) (rows : RowLists) → has_shape C rows ≡ true → names_fault rows ≡ None
    → rows ≡ listed C (instance_of C rows) (slice_index rows.next)
lists_listed C rows shaped named =
    let X = instance_of C rows in
    let shape = shape_known C rows shaped in
    let names = fill_by_all (list_at rows.names) rows.names C.objects [] shape.names (λ k below. refl) in
    let arrows = mapped_in (λ a (ends : ArrowEnds). map (X.value a) (X.names ends.source.0)) 0 C.arrows rows.arrows [] shape.arrows (λ a ends there.
    let sources = list_at rows.names ends.source.0 in
    let row = list_at rows.arrows a in
    rw (zero-add a)
    (entries_beside 0 sources row (names_distinct rows ends.source.0 named) (row_whole C rows a ends shaped there)
    ∙ ap (λ object. map (look 0 (list_at rows.names object) row) sources) (sym (source_is C a ends there)))) in
    let cells = mapped_in (λ c (ends : AttrEnds). map (X.cell c) (X.names ends.object.0)) 0 C.attributes rows.cells [] shape.cells (λ c ends there.
    let holders = list_at rows.names ends.object.0 in
    let cells = list_at rows.cells c in
    rw (zero-add c)
    (entries_beside None holders cells (names_distinct rows ends.object.0 named) (cells_whole C rows c ends shaped there)
    ∙ ap (λ object. map (look None (list_at rows.names object) cells) holders) (sym (holder_is C c ends there)))) in
    let next = fill_by_all (slice_index rows.next) rows.next C.objects 0 shape.next (λ k below. refl) in
    same_rows rows (listed C X (slice_index rows.next)) names arrows cells next

-- names have no fault where those of each object ascend below its next name
pub names_unfaulted : (rows : RowLists)
    → ((object : ℕ) → object < length rows.names → are_names (slice_index rows.next object) (list_at rows.names object) ≡ true) → names_fault rows ≡ None
names_unfaulted rows each =
    none_from (λ object names. fault_unless (are_names (slice_index rows.next object) names) (Names (record { 0 = object }))) 0 rows.names
    (λ object names there.
    let named : are_names (slice_index rows.next object) names ≡ true =
    ap (are_names (slice_index rows.next object)) (sym (get_or_from_slice_get rows.names object names [] there)) ∙ each object (slice_get_within rows.names object names there) in
    rw (zero-add object) (unless_true (are_names (slice_index rows.next object) names) (Names (record { 0 = object })) named))

-- lists have the right shape where there are as many as there are objects, arrows and attributes, each of the right length
pub shape_from_lengths : (C : Signature) (rows : RowLists) → length rows.names ≡ C.objects → length rows.next ≡ C.objects
    → length rows.arrows ≡ length C.arrows → length rows.cells ≡ length C.attributes
    → ((a : ℕ) (ends : ArrowEnds) → slice_get C.arrows a ≡ Some ends → length (list_at rows.arrows a) ≡ length (list_at rows.names ends.source.0))
    → ((c : ℕ) (ends : AttrEnds) → slice_get C.attributes c ≡ Some ends → length (list_at rows.cells c) ≡ length (list_at rows.names ends.object.0))
    → has_shape C rows ≡ true
shape_from_lengths C rows names next arrows cells each_row each_cells =
    let whole : all_in (has_length rows) 0 C.arrows ≡ true = all_in_from_each (has_length rows) 0 C.arrows (λ a ends there.
    rw (zero-add a) (eq-eqb (length (list_at rows.arrows a)) (length (list_at rows.names ends.source.0)) (each_row a ends there))) in
    let whole_cells : all_in (has_cells rows) 0 C.attributes ≡ true = all_in_from_each (has_cells rows) 0 C.attributes (λ c ends there.
    rw (zero-add c) (eq-eqb (length (list_at rows.cells c)) (length (list_at rows.names ends.object.0)) (each_cells c ends there))) in
    rw (
      eq-eqb (length rows.names) C.objects names,
      eq-eqb (length rows.next) C.objects next,
      eq-eqb (length rows.arrows) (length C.arrows) arrows,
      eq-eqb (length rows.cells) (length C.attributes) cells,
      whole,
      whole_cells,
    ) refl

-- lists of the right shape whose names have no fault, and that stand for an instance, have no fault
pub sound_from_instance : (C : Signature) (rows : RowLists) → IsCategory C → has_shape C rows ≡ true → names_fault rows ≡ None
    → IsInstance C (instance_of C rows) → table_fault C rows ≡ None
sound_from_instance C rows category shaped named is =
    ap (table_fault C) (lists_listed C rows shaped named)
    ∙ listed_unfaulted C (instance_of C rows) (slice_index rows.next) category (λ object known. names_below C rows object shaped named known) is
