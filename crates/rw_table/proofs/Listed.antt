-- When the lists of an instance have no fault.
use Rattle.std.proofs.Common.{◌≡◌, ◌==◌, ◌∙◌, ℕ, ◌<◌, true, List, [], ◌∷◌, length, map, Option, Some, None, slice_get, slice_index, nat_lt, refl, sym, ap, subst, zero-add, eq-eqb}
use Rattle.std.specs.List.{Contains, list_any, list_all, range_with_len}
use Rattle.std.proofs.lemmas.Bool.{and_parts}
use Rattle.std.proofs.lemmas.List.{length-map, get_or-map, get_or_default}
use Rattle.std.proofs.lemmas.List.FromFn.{length-map-range_with_len, get_or-map-range_with_len}
use Rattle.std.proofs.lemmas.Option.{slice_get_within, get_or_from_slice_get}
use Rattle.rw_schema.specs.declared.atom.Atom.{Atom}
use Rattle.rw_schema.specs.declared.atom.Kind as kinds
use Rattle.rw_schema.specs.declared.atom.Kind.TheVariants as variants
use Rattle.rw_schema.specs.declared.ids.ArrowId.{ArrowId}
use Rattle.rw_schema.specs.declared.signature.ArrowEnds.{ArrowEnds}
use Rattle.rw_schema.specs.declared.signature.AttrEnds.{AttrEnds}
use Rattle.rw_schema.specs.Atoms.{kind_of, is_same_kind}
use Rattle.rw_schema.specs.First.{fault_unless, all_in}
use Rattle.rw_schema.specs.RowLists.{RowLists, list_at}
use Rattle.rw_schema.specs.Signature.{Signature, IsPath, IsCategory}
use Rattle.rw_schema.proofs.Firsts.{unless_true, none_from_each}
use Rattle.rw_schema.proofs.Lists.{slice_get_mapped, length_map_in, get_or_map_in}
use Rattle.rw_spec.specs.Distinct.{AreDistinct}
use Rattle.rw_spec.specs.Instance.{Instance, Has, IsInstance, agrees_at, follow, instance_of, lists_of, look}
use Rattle.rw_spec.proofs.Look.{found_contained, look_at}
use Rattle.rw_spec.proofs.Signatures.{source_is}
use Rattle.rw_table.specs.TableFaults.{has_length, has_cells, has_shape, are_names, names_fault, row_fault, range_fault, is_cell_of, cell_fault, kind_fault, failure_of, equation_fault, table_fault}
use Rattle.rw_spec.specs.Ascending.{ascends}
use Rattle.rw_table.specs.declared.fault.TableFault.{TableFault}
use Rattle.rw_table.specs.declared.fault.TableFault.TheVariants.{Names, Range, Kind, Equation}
use Rattle.rw_spec.proofs.Ascending.{ascends_distinct}
use Rattle.rw_spec.proofs.Sequences.{contains_at, all_in_from_each}

-- the lists of an instance, with next names that a function gives
abbrev pub listed : Signature → Instance → (ℕ → ℕ) → RowLists
listed C Y next = lists_of C Y (map next (range_with_len 0 C.objects))

-- the names of an object in the lists are its names
pub names_listed : (C : Signature) (Y : Instance) (next : ℕ → ℕ) (object : ℕ) → object < C.objects
    → list_at (listed C Y next).names object ≡ Y.names object
names_listed C Y next object known = get_or-map-range_with_len Y.names 0 C.objects object object [] known (zero-add object)

-- the row of an arrow in the lists has its value at each name of its source
pub row_listed : (C : Signature) (Y : Instance) (next : ℕ → ℕ) (a : ℕ) (ends : ArrowEnds) → slice_get C.arrows a ≡ Some ends
    → list_at (listed C Y next).arrows a ≡ map (Y.value a) (Y.names ends.source.0)
row_listed C Y next a ends there =
    get_or_map_in (λ a (ends : ArrowEnds). map (Y.value a) (Y.names ends.source.0)) 0 C.arrows a ends [] there
    ∙ rw (zero-add a) refl

-- the cells of an attribute in the lists are its cells at the names of its object
pub cells_listed : (C : Signature) (Y : Instance) (next : ℕ → ℕ) (c : ℕ) (ends : AttrEnds) → slice_get C.attributes c ≡ Some ends
    → list_at (listed C Y next).cells c ≡ map (Y.cell c) (Y.names ends.object.0)
cells_listed C Y next c ends there =
    get_or_map_in (λ c (ends : AttrEnds). map (Y.cell c) (Y.names ends.object.0)) 0 C.attributes c ends [] there
    ∙ rw (zero-add c) refl

-- the lists of an instance have the right shape
shape_listed : (C : Signature) (Y : Instance) (next : ℕ → ℕ) → IsCategory C → has_shape C (listed C Y next) ≡ true
shape_listed C Y next category =
    let rows = listed C Y next in
    let names_long : length rows.names ≡ C.objects = length-map-range_with_len Y.names 0 C.objects in
    let next_long : length rows.next ≡ C.objects = length-map-range_with_len next 0 C.objects in
    let arrows_long : length rows.arrows ≡ length C.arrows =
    length_map_in (λ a (ends : ArrowEnds). map (Y.value a) (Y.names ends.source.0)) 0 C.arrows in
    let cells_long : length rows.cells ≡ length C.attributes =
    length_map_in (λ c (ends : AttrEnds). map (Y.cell c) (Y.names ends.object.0)) 0 C.attributes in
    let whole : all_in (has_length rows) 0 C.arrows ≡ true =
    all_in_from_each (has_length rows) 0 C.arrows (λ a ends there.
    let row_long : length (list_at rows.arrows a) ≡ length (list_at rows.names ends.source.0) =
    rw (row_listed C Y next a ends there, names_listed C Y next ends.source.0 (category.sources a ends there))
    (length-map (Y.names ends.source.0) (Y.value a)) in
    rw (zero-add a) (eq-eqb (length (list_at rows.arrows a)) (length (list_at rows.names ends.source.0)) row_long)) in
    let whole_cells : all_in (has_cells rows) 0 C.attributes ≡ true =
    all_in_from_each (has_cells rows) 0 C.attributes (λ c ends there.
    let list_long : length (list_at rows.cells c) ≡ length (list_at rows.names ends.object.0) =
    rw (cells_listed C Y next c ends there, names_listed C Y next ends.object.0 (category.holders c ends there))
    (length-map (Y.names ends.object.0) (Y.cell c)) in
    rw (zero-add c) (eq-eqb (length (list_at rows.cells c)) (length (list_at rows.names ends.object.0)) list_long)) in
    rw (
      names_long,
      next_long,
      arrows_long,
      cells_long,
      whole,
      whole_cells,
      eq-eqb C.objects C.objects refl,
      eq-eqb (length C.arrows) (length C.arrows) refl,
      eq-eqb (length C.attributes) (length C.attributes) refl,
    ) refl

-- the names in the lists have no fault where those of each object have none
names_unfaulted : (C : Signature) (Y : Instance) (next : ℕ → ℕ)
    → ((object : ℕ) → object < C.objects → are_names (next object) (Y.names object) ≡ true) → names_fault (listed C Y next) ≡ None
names_unfaulted C Y next each =
    let rows = listed C Y next in
    let fault : ℕ → List ℕ → Option TableFault = λ object names. fault_unless (are_names (slice_index rows.next object) names) (Names (record { 0 = object })) in
    none_from_each fault rows.names (λ object names there.
    let known : object < C.objects = rw (length-map-range_with_len Y.names 0 C.objects) at (slice_get_within rows.names object names there) in
    let names_are : Y.names object ≡ names = sym (names_listed C Y next object known) ∙ get_or_from_slice_get rows.names object names [] there in
    let next_is : slice_index rows.next object ≡ next object = get_or-map-range_with_len next 0 C.objects object object 0 known (zero-add object) in
    unless_true (are_names (slice_index rows.next object) names) (Names (record { 0 = object }))
    (rw (next_is, ← names_are) (each object known)))

-- no image in the lists is out of range where each value of an arrow is a name of its target
range_unfaulted : (C : Signature) (Y : Instance) (next : ℕ → ℕ) → IsCategory C
    → ((a : ℕ) (ends : ArrowEnds) (x : ℕ) → slice_get C.arrows a ≡ Some ends → Has Y ends.source.0 x → Has Y ends.target.0 (Y.value a x))
    → range_fault C (listed C Y next) ≡ None
range_unfaulted C Y next category values =
    let rows = listed C Y next in
    none_from_each (row_fault rows) C.arrows (λ a ends there.
    let names = list_at rows.names ends.target.0 in
    let fault : ℕ → ℕ → Option TableFault = λ position image. fault_unless (list_any (λ name. name == image) names) (Range (record { 0 = a }) position) in
    none_from_each fault (list_at rows.arrows a) (λ position image image_there.
    let from : (x : ℕ) × (slice_get (Y.names ends.source.0) position ≡ Some x) × (Y.value a x ≡ image) =
    slice_get_mapped (Y.value a) (Y.names ends.source.0) position image (rw (row_listed C Y next a ends there) at image_there) in
    let value : Has Y ends.target.0 (Y.value a from.0) = values a ends from.0 there (contains_at (Y.names ends.source.0) position from.0 from.1) in
    let named : Contains names image = rw (names_listed C Y next ends.target.0 (category.targets a ends there), ← from.2) value in
    unless_true (list_any (λ name. name == image) names) (Range (record { 0 = a }) position) (found_contained names image named)))

-- a kind is the same as itself
same_as_itself : (kind : kinds.Kind) → is_same_kind kind kind ≡ true
same_as_itself variants.Int = refl
same_as_itself variants.Text = refl
same_as_itself variants.Bool = refl

-- a cell whose atom, if there is one, has the kind is of the kind
cell_of_kind : (kind : kinds.Kind) (cell : Option Atom) → ((atom : Atom) → cell ≡ Some atom → kind_of atom ≡ kind) → is_cell_of kind cell ≡ true
cell_of_kind kind None each = refl
cell_of_kind kind (Some atom) each = rw (each atom refl) (same_as_itself kind)

-- no cell in the lists has an atom of another kind
kinds_unfaulted : (C : Signature) (Y : Instance) (next : ℕ → ℕ) → IsInstance C Y → kind_fault C (listed C Y next) ≡ None
kinds_unfaulted C Y next is =
    let rows = listed C Y next in
    none_from_each (cell_fault rows) C.attributes (λ c ends there.
    let fault : ℕ → Option Atom → Option TableFault = λ position cell. fault_unless (is_cell_of ends.kind cell) (Kind (record { 0 = c }) position) in
    none_from_each fault (list_at rows.cells c) (λ position cell cell_there.
    let from : (x : ℕ) × (slice_get (Y.names ends.object.0) position ≡ Some x) × (Y.cell c x ≡ cell) =
    slice_get_mapped (Y.cell c) (Y.names ends.object.0) position cell (rw (cells_listed C Y next c ends there) at cell_there) in
    let has : Has Y ends.object.0 from.0 = contains_at (Y.names ends.object.0) position from.0 from.1 in
    unless_true (is_cell_of ends.kind cell) (Kind (record { 0 = c }) position)
    (cell_of_kind ends.kind cell (λ atom holds. is.atoms c ends from.0 atom there has (from.2 ∙ holds)))))

-- what stands beside a name in a mapped list is the value at the name
pub look_mapped : {A : Type 0} (none : A) (f : ℕ → A) (names : List ℕ) (x : ℕ) → AreDistinct names → Contains names x → look none names (map f names) x ≡ f x
look_mapped none f names x distinct (k, within, there) =
    let at : slice_index names k ≡ x = get_or_default names k 0 x within ∙ there in
    ap (look none names (map f names)) (sym at) ∙ look_at none names (map f names) k distinct within ∙ get_or-map f names k 0 none within ∙ ap f at

-- each object's names are different
abbrev HasDistinctNames : Signature → Instance → Type 0
HasDistinctNames C Y = (object : ℕ) → object < C.objects → AreDistinct (Y.names object)

-- an arrow has the same value at a name, read off the lists
value_listed : (C : Signature) (Y : Instance) (next : ℕ → ℕ) (a : ℕ) (ends : ArrowEnds) (x : ℕ) → IsCategory C → HasDistinctNames C Y
    → slice_get C.arrows a ≡ Some ends → Has Y ends.source.0 x → (instance_of C (listed C Y next)).value a x ≡ Y.value a x
value_listed C Y next a ends x category distinct there has =
    let source : ℕ = ends.source.0 in
    let known : source < C.objects = category.sources a ends there in
    rw (source_is C a ends there, names_listed C Y next source known, row_listed C Y next a ends there)
    (look_mapped 0 (Y.value a) (Y.names source) x (distinct source known) has)

-- a path leads to the same name, read off the lists
follow_listed : (C : Signature) (Y : Instance) (next : ℕ → ℕ) → IsCategory C → HasDistinctNames C Y → IsInstance C Y
    → (path : List ArrowId) (from to x : ℕ) → IsPath C from path to → Has Y from x → follow (instance_of C (listed C Y next)) path x ≡ follow Y path x
follow_listed C Y next category distinct is [] from to x leads has = refl
follow_listed C Y next category distinct is (arrow ∷ path) from to x (ends, arrow_is, leaves, rest) has =
    let has_now : Has Y ends.source.0 x = subst (λ (object : ℕ). Has Y object x) (sym leaves) has in
    ap (follow (instance_of C (listed C Y next)) path) (value_listed C Y next arrow.0 ends x category distinct arrow_is has_now)
    ∙ follow_listed C Y next category distinct is path ends.target.0 to (Y.value arrow.0 x) rest (is.values arrow.0 ends x arrow_is has_now)

-- no equation fails in the lists
equations_unfaulted : (C : Signature) (Y : Instance) (next : ℕ → ℕ) → IsCategory C → HasDistinctNames C Y → IsInstance C Y
    → equation_fault C (listed C Y next) ≡ None
equations_unfaulted C Y next category distinct is =
    let X : Instance = instance_of C (listed C Y next) in
    none_from_each (failure_of X) C.equations (λ e equation there.
    let object : ℕ = equation.object.0 in
    let paths = category.paths e equation there in
    let fault : ℕ → ℕ → Option TableFault = λ position name. fault_unless (agrees_at X equation name) (Equation e name) in
    none_from_each fault (X.names object) (λ position name name_there.
    let listed_there : slice_get (Y.names object) position ≡ Some name = rw (names_listed C Y next object (category.starts e equation there)) at name_there in
    let has : Has Y object name = contains_at (Y.names object) position name listed_there in
    let same : follow X equation.left name ≡ follow X equation.right name =
    follow_listed C Y next category distinct is equation.left object paths.0 name paths.1 has
    ∙ is.equations e equation name there has
    ∙ sym (follow_listed C Y next category distinct is equation.right object paths.0 name paths.2 has) in
    unless_true (agrees_at X equation name) (Equation e name) (eq-eqb (follow X equation.left name) (follow X equation.right name) same)))

-- the lists of an instance have no fault where its names ascend below the next names
pub listed_unfaulted : (C : Signature) (Y : Instance) (next : ℕ → ℕ) → IsCategory C
    → ((object : ℕ) → object < C.objects → are_names (next object) (Y.names object) ≡ true) → IsInstance C Y
    → table_fault C (listed C Y next) ≡ None
listed_unfaulted C Y next category names is =
    let distinct : HasDistinctNames C Y = λ object known.
    ascends_distinct (Y.names object) (and_parts (ascends (Y.names object)) (list_all (λ name. nat_lt name (next object)) (Y.names object)) (names object known)).0 in
    rw (
      shape_listed C Y next category,
      names_unfaulted C Y next names,
      range_unfaulted C Y next category is.values,
      kinds_unfaulted C Y next is,
      equations_unfaulted C Y next category distinct is,
    ) refl
