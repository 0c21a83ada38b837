-- Lists that are read from columns are those of the instance.
use Rattle.std.proofs.Common.{◌≡◌, ◌∙◌, ℕ, ◌<◌, All, Contains, List, [], Option, length, get_or, map, slice_index, sym, ap, subst, zero-add, arith}
use Rattle.std.proofs.lemmas.List.{length-map, get_or-map, get_or_default}
use Rattle.std.proofs.lemmas.List.Elements.{Contains-get_or}
use Rattle.std.specs.List.{range_with_len}
use Rattle.std.proofs.lemmas.List.FromFn.{fill_by_all, length-range_with_len}
use Rattle.std.proofs.lemmas.Option.{slice_get_within}
use Rattle.rw_schema.specs.declared.atom.Atom.{Atom}
use Rattle.rw_schema.specs.declared.signature.ArrowEnds.{ArrowEnds}
use Rattle.rw_schema.specs.declared.signature.AttrEnds.{AttrEnds}
use Rattle.rw_schema.specs.RowLists.{list_at}
use Rattle.rw_schema.specs.Signature.{source_of, holder_of}
use Rattle.rw_spec.proofs.Ranges.{own_place}
use Rattle.rw_spec.proofs.Signatures.{source_is, holder_is}
use Rattle.rw_table.proofs.Sound.{mapped_in}
use Rattle.rw_columns.specs.Columned.{Columned, no_column, column_at, instance_of_columns, next_of, AreColumns}
use Rattle.rw_columns.specs.Kept.{lists_of_columns}
use Rattle.rw_columns.specs.inner.Filled.{AreAll}
use Rattle.rw_columns.specs.inner.Read.{AreWithin, AreNamesIn, IsNextIn, IsRowIn, AreCellsIn}
use Rattle.rw_columns.proofs.Columned.{places_are, there_at}

-- what the item at a place is under a map
mapped_at : {E : Type 0} (f : E → ℕ) (items : List E) (place : ℕ) (item default : E) → place < length items → item ≡ get_or items place default
    → slice_index (map f items) place ≡ f item
mapped_at f items place item default within is = get_or-map f items place default 0 within ∙ ap f (sym is)

-- the object at a place has names, and these are below the place's bound
pub record IsWithinAt (object : ℕ) (objects : List ℕ) (bound place : ℕ) (names : List (List ℕ)) : Type 0 where
  pub is : slice_index objects place ≡ object
  pub known : object < length names
  pub within : All (λ name. name < bound) (list_at names object)

pub within_at : {E : Type 0} (f : E → ℕ) (items : List E) (bound : ℕ → ℕ) (names : List (List ℕ)) (place : ℕ) (item default : E)
    → AreWithin (map f items) bound names → place < length items → item ≡ get_or items place default
    → IsWithinAt (f item) (map f items) (bound place) place names
within_at f items bound names place item default are within is =
    let object = mapped_at f items place item default within is in
    let there : place < length (map f items) = rw (length-map items f) within in
    record {
      is = object;
      known = subst (λ (object : ℕ). object < length names) object (are.known place 0 there);
      within = subst (λ (object : ℕ). All (λ name. name < bound place) (list_at names object)) object (are.within place there);
    }

module _ (columns : Columned) (is : AreColumns columns) where
  -- each column of names has the number 0
  pub names_numbered : All (λ column. 0 < column.targets) columns.names
  names_numbered place default within =
      let known : place < columns.signature.objects = rw (← is.objects) within in
      let one = is.targets place known in
      let same : get_or columns.names place default ≡ column_at columns.names place = get_or_default columns.names place default no_column within in
      rw (same, one) (omega arith)

  -- what is read as next names are the next names
  pub next_read : (next : List ℕ) → AreAll 0 (IsNextIn columns.names) (length columns.names) next → next ≡ (lists_of_columns columns).next
  next_read next all = fill_by_all (next_of columns) next columns.signature.objects 0 (all.count ∙ is.objects) (λ object known. all.each object (rw is.objects known))

  -- what is read as names are the names
  pub names_read : (names : List (List ℕ)) → AreAll [] (AreNamesIn columns.names) (length columns.names) names → names ≡ (lists_of_columns columns).names
  names_read names all =
      fill_by_all (instance_of_columns columns).names names columns.signature.objects [] (all.count ∙ is.objects) (λ object known. all.each object (rw is.objects known))

  module _ (names : List (List ℕ)) (all : names ≡ (lists_of_columns columns).names) where
    -- there are names for each object
    names_count : length names ≡ columns.signature.objects
    names_count =
        let objects = range_with_len 0 columns.signature.objects in
        ap length all ∙ length-map objects (instance_of_columns columns).names ∙ length-range_with_len 0 columns.signature.objects

    -- the names of an object
    names_of : (object : ℕ) → object < columns.signature.objects → list_at names object ≡ (instance_of_columns columns).names object
    names_of object known =
        let X = instance_of_columns columns in
        ap (λ (lists : List (List ℕ)). list_at lists object) all
        ∙ get_or-map X.names (range_with_len 0 columns.signature.objects) object 0 [] (rw (length-range_with_len 0 columns.signature.objects) known)
        ∙ ap X.names (own_place columns.signature.objects object 0 known)

    -- the names of an object are below the length of its column
    names_below_column : (object : ℕ) → object < columns.signature.objects → All (λ name. name < next_of columns object) (list_at names object)
    names_below_column object known place default within =
        let among = Contains-get_or (list_at names object) place default within in
        (places_are (column_at columns.names object).values 0 (get_or (list_at names object) place default)
        (subst (λ (list : List ℕ). Contains list (get_or (list_at names object) place default)) (names_of object known) among)).0

    -- the names of the source of each arrow are places of its column
    pub rows_within : AreWithin (map (λ ends. ends.source.0) columns.signature.arrows) (λ arrow. length (column_at columns.arrows arrow).values) names
    rows_within =
        let source = λ (ends : ArrowEnds). ends.source.0 in
        record {
          known = λ place default within.
              let over = there_at columns.signature.arrows place (rw (← length-map columns.signature.arrows source) within) in
              rw (get_or_default (map source columns.signature.arrows) place default 0 within, source_is columns.signature place over.0 over.1, names_count)
              (is.category.sources place over.0 over.1);
          within = λ place within.
              let over = there_at columns.signature.arrows place (rw (← length-map columns.signature.arrows source) within) in
              rw (source_is columns.signature place over.0 over.1, (is.ends place over.0 over.1).long)
              (names_below_column over.0.source.0 (is.category.sources place over.0 over.1));
        }

    -- the names of the object of each attribute have cells
    pub cells_within : AreWithin (map (λ ends. ends.object.0) columns.signature.attributes) (λ attribute. length (list_at columns.cells attribute)) names
    cells_within =
        let object = λ (ends : AttrEnds). ends.object.0 in
        record {
          known = λ place default within.
              let over = there_at columns.signature.attributes place (rw (← length-map columns.signature.attributes object) within) in
              rw (get_or_default (map object columns.signature.attributes) place default 0 within, holder_is columns.signature place over.0 over.1, names_count)
              (is.category.holders place over.0 over.1);
          within = λ place within.
              let over = there_at columns.signature.attributes place (rw (← length-map columns.signature.attributes object) within) in
              rw (holder_is columns.signature place over.0 over.1, is.cells_long place over.0 over.1)
              (names_below_column over.0.object.0 (is.category.holders place over.0 over.1));
        }

    -- what is read as rows are the values of the arrows
    pub rows_read : (rows : List (List ℕ))
        → AreAll [] (IsRowIn columns.arrows (map (λ ends. ends.source.0) columns.signature.arrows) names) (length columns.signature.arrows) rows → rows ≡ (lists_of_columns columns).arrows
    rows_read rows all_rows =
        let X = instance_of_columns columns in
        mapped_in (λ a (ends : ArrowEnds). map (X.value a) (X.names ends.source.0)) 0 columns.signature.arrows rows [] all_rows.count
        (λ a ends there.
        let within = slice_get_within columns.signature.arrows a ends there in
        let source : source_of columns.signature a ≡ ends.source.0 = source_is columns.signature a ends there in
        rw zero-add (all_rows.each a within
        ∙ ap (map (X.value a)) (ap (list_at names) source ∙ names_of ends.source.0 (is.category.sources a ends there))))

    -- what is read as cells are the cells of the attributes
    pub cells_read : (cells : List (List (Option Atom)))
        → AreAll [] (AreCellsIn columns.cells (map (λ ends. ends.object.0) columns.signature.attributes) names) (length columns.signature.attributes) cells → cells ≡ (lists_of_columns columns).cells
    cells_read cells all_cells =
        let X = instance_of_columns columns in
        mapped_in (λ c (ends : AttrEnds). map (X.cell c) (X.names ends.object.0)) 0 columns.signature.attributes cells [] all_cells.count
        (λ c ends there.
        let within = slice_get_within columns.signature.attributes c ends there in
        let holder : holder_of columns.signature c ≡ ends.object.0 = holder_is columns.signature c ends there in
        rw zero-add (all_cells.each c within
        ∙ ap (map (X.cell c)) (ap (list_at names) holder ∙ names_of ends.object.0 (is.category.holders c ends there))))
