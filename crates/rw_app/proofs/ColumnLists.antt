-- The instance of the lists of columns is that of the columns.
use Rattle.std.proofs.Common.{◌≡◌, ◌==◌, ◌<◌, ◌≤◌, ℕ, true, Contains, List, [], length, map, Some, slice_get, slice_index, zero-add, refl, sym, subst, ap, ◌∙◌, inl, inr, filter, arith}
use Rattle.std.specs.List.{list_any, range_with_len}
use Rattle.std.proofs.lemmas.Bool.{cases_lt}
use Rattle.std.proofs.lemmas.List.{get_or_past}
use Rattle.std.proofs.lemmas.List.FromFn.{get_or-map-range_with_len, length-map-range_with_len}
use Rattle.rw_schema.specs.declared.signature.ArrowEnds.{ArrowEnds}
use Rattle.rw_schema.specs.declared.signature.AttrEnds.{AttrEnds}
use Rattle.rw_schema.specs.Signature.{Signature, IsCategory, source_of, holder_of}
use Rattle.rw_spec.specs.Ascending.{ascends}
use Rattle.rw_spec.specs.Ends.{target_of}
use Rattle.rw_spec.specs.Instance.{Instance, Has, IsInstance, instance_of}
use Rattle.rw_spec.specs.Same.{AreSame}
use Rattle.rw_spec.proofs.Ascending.{ascends_distinct}
use Rattle.rw_spec.proofs.Sequences.{filter_same}
use Rattle.rw_spec.proofs.Signatures.{source_is, holder_is, target_is}
use Rattle.rw_table.proofs.Listed.{names_listed}
use Rattle.rw_columns.specs.Columned.{Columned, column_at, instance_of_columns, next_of, preimage_of}
use Rattle.rw_column.specs.Threads.{places_from}
use Rattle.rw_columns.specs.Kept.{lists_of_columns}
use Rattle.rw_columns.proofs.Columned.{places_are, there_at}
use Rattle.rw_columns.proofs.Same.{same_instance}
use Rattle.rw_redex.proofs.Listing.{same_listed}

-- the instance of the lists of columns
abbrev pub listed_instance : Columned → Instance
listed_instance columns = instance_of columns.signature (lists_of_columns columns)

-- over the schema it is that of the lists
pub listed_over : (columns host : Columned) (C : Signature) → host ≡ columns → columns.signature ≡ C → listed_instance host ≡ instance_of C (lists_of_columns columns)
listed_over columns host C same over = ap listed_instance same ∙ ap (λ (D : Signature). instance_of D (lists_of_columns columns)) over

-- its names are those of the columns
pub names_same : (columns : Columned) (object : ℕ) → object < columns.signature.objects → (listed_instance columns).names object ≡ (instance_of_columns columns).names object
names_same columns object known = names_listed columns.signature (instance_of_columns columns) (next_of columns) object known

-- the next names are those of the columns
pub next_listed : (columns : Columned) (object : ℕ) → object < columns.signature.objects → slice_index (lists_of_columns columns).next object ≡ next_of columns object
next_listed columns object known = get_or-map-range_with_len (next_of columns) 0 columns.signature.objects object object 0 known (zero-add object)

-- names are below the next names
pub listed_below : (columns : Columned) (object x : ℕ) → object < columns.signature.objects → Has (listed_instance columns) object x
    → x < slice_index (lists_of_columns columns).next object
listed_below columns object x known has =
    let values : List ℕ = (column_at columns.names object).values in
    let there : Contains (places_from values 0 0) x = subst (λ (names : List ℕ). Contains names x) (names_same columns object known) has in
    subst (λ (bound : ℕ). x < bound) (sym (next_listed columns object known)) (places_are values 0 x there).0

-- there is one next name for each object
pub next_long : (columns : Columned) → length (lists_of_columns columns).next ≡ columns.signature.objects
next_long columns = length-map-range_with_len (next_of columns) 0 columns.signature.objects

module _ (columns : Columned) (category : IsCategory columns.signature) (up : (object : ℕ) → ascends ((instance_of_columns columns).names object) ≡ true) where
  -- the columns' schema, names apart
  abbrev C : Signature
  C = columns.signature

  abbrev X : Instance
  X = instance_of_columns columns

  -- both are the same instance
  pub same_as_listed : AreSame columns.signature (instance_of_columns columns) (listed_instance columns)
  same_as_listed = same_listed C category X (map (next_of columns) (range_with_len 0 C.objects)) (λ object known. ascends_distinct (X.names object) (up object))

  -- so that of the lists is an instance
  pub is_listed_instance : IsInstance columns.signature (instance_of_columns columns) → IsInstance columns.signature (listed_instance columns)
  is_listed_instance is = same_instance C X (listed_instance columns) category same_as_listed is

  -- its names ascend
  pub listed_ascends : (object : ℕ) → ascends ((listed_instance columns).names object) ≡ true
  listed_ascends object =
      elim (cases_lt object C.objects) [
        | inl known ↦ subst (λ (names : List ℕ). ascends names ≡ true) (sym (names_same columns object known)) (up object)
        | inr past ↦
            let none : (listed_instance columns).names object ≡ [] =
            get_or_past (map X.names (range_with_len 0 C.objects)) object [] (omega (arith, length-map-range_with_len X.names 0 C.objects)) in
            subst (λ (names : List ℕ). ascends names ≡ true) (sym none) refl
      ]

  -- a name of the one is a name of the other
  has_listed : (object x : ℕ) → object < C.objects → Has (listed_instance columns) object x → Has X object x
  has_listed object x known has = subst (λ (names : List ℕ). Contains names x) (names_same columns object known) has

  -- the objects at the ends of an arrow are there
  source_known : (a : ℕ) → a < length C.arrows → source_of C a < C.objects
  source_known a within = let ends = there_at C.arrows a within in rw (source_is C a ends.0 ends.1) (category.sources a ends.0 ends.1)

  target_known : (a : ℕ) → a < length C.arrows → target_of C a < C.objects
  target_known a within = let ends = there_at C.arrows a within in rw (target_is C a ends.0 ends.1) (category.targets a ends.0 ends.1)

  -- a name of an arrow's source is one in the columns
  pub has_source : (a x : ℕ) → a < length columns.signature.arrows → Has (listed_instance columns) (source_of columns.signature a) x
      → Has (instance_of_columns columns) (source_of columns.signature a) x
  has_source a x within has = has_listed (source_of C a) x (source_known a within) has

  -- and so is a name of its target
  pub has_target : (a x : ℕ) → a < length columns.signature.arrows → Has (listed_instance columns) (target_of columns.signature a) x
      → Has (instance_of_columns columns) (target_of columns.signature a) x
  has_target a x within has = has_listed (target_of C a) x (target_known a within) has

  -- what the columns have in a target is there
  pub target_has : (a x : ℕ) → a < length columns.signature.arrows → Has (instance_of_columns columns) (target_of columns.signature a) x
      → Has (listed_instance columns) (target_of columns.signature a) x
  target_has a x within has = subst (λ (names : List ℕ). Contains names x) (sym (names_same columns (target_of C a) (target_known a within))) has

  -- an arrow has the same value at a name
  pub value_same : (a x : ℕ) → a < length columns.signature.arrows → Has (instance_of_columns columns) (source_of columns.signature a) x
      → (instance_of_columns columns).value a x ≡ (listed_instance columns).value a x
  value_same a x within has =
      let ends = there_at C.arrows a within in
      same_as_listed.values a ends.0 x ends.1 (subst (λ (object : ℕ). Has X object x) (source_is C a ends.0 ends.1) has)

  -- a name of an attribute's object is one in the columns
  pub has_holder : (c x : ℕ) → c < length columns.signature.attributes → Has (listed_instance columns) (holder_of columns.signature c) x
      → Has (instance_of_columns columns) (holder_of columns.signature c) x
  has_holder c x within has =
      let ends = there_at C.attributes c within in
      has_listed (holder_of C c) x (rw (holder_is C c ends.0 ends.1) (category.holders c ends.0 ends.1)) has

  -- an attribute has the same cell at a name
  pub cell_same : (c x : ℕ) → c < length columns.signature.attributes → Has (instance_of_columns columns) (holder_of columns.signature c) x
      → (instance_of_columns columns).cell c x ≡ (listed_instance columns).cell c x
  cell_same c x within has =
      let ends = there_at C.attributes c within in
      same_as_listed.cells c ends.0 x ends.1 (subst (λ (object : ℕ). Has X object x) (holder_is C c ends.0 ends.1) has)

  -- the same names are led to a name
  pub preimage_same : (a target : ℕ) → a < length columns.signature.arrows
      → preimage_of columns.signature (instance_of_columns columns) a target ≡ preimage_of columns.signature (listed_instance columns) a target
  preimage_same a target within =
      let source : ℕ = source_of C a in
      filter_same (λ name. X.value a name == target) (λ name. (listed_instance columns).value a name == target) (X.names source)
      (λ name has. ap (λ (value : ℕ). value == target) (value_same a name within has))
      ∙ ap (filter (λ name. (listed_instance columns).value a name == target)) (sym (names_same columns source (source_known a within)))
