-- Columns that are filled from lists keep the instance of the lists.
use Rattle.std.proofs.Common.{◌≡◌, ◌∙◌, ◌⊎◌, ◌==◌, ℕ, ◌<◌, true, List, [], ◌∷◌, Option, None, Some, Contains, length, get_or, slice_get, slice_index, slice_index_or, refl, sym, ap, subst, inl, inr, arith}
use Rattle.std.specs.List.{list_any}
use Rattle.std.proofs.lemmas.Bool.{cases_Bool, cases_lt, both_ways}
use Rattle.std.proofs.lemmas.List.{get_or_default, get_or_past}
use Rattle.std.proofs.lemmas.Option.{slice_get_within}
use Rattle.std.proofs.lemmas.List.Elements.{Contains-get_or}
use Rattle.rw_schema.specs.declared.atom.Atom.{Atom}
use Rattle.rw_schema.specs.declared.signature.ArrowEnds.{ArrowEnds}
use Rattle.rw_schema.specs.RowLists.{RowLists, list_at}
use Rattle.rw_schema.specs.Signature.{source_of, holder_of}
use Rattle.rw_spec.specs.Ascending.{ascends}
use Rattle.rw_spec.specs.Instance.{instance_of, look}
use Rattle.rw_spec.specs.Same.{AreSame}
use Rattle.rw_spec.proofs.Ascending.{ascends_distinct}
use Rattle.rw_spec.proofs.Look.{look_at, look_missing, contains_found, found_contained}
use Rattle.rw_spec.proofs.Signatures.{source_is, target_is, holder_is}
use Rattle.rw_table.proofs.Checked.{AreShaped, checked_known, shape_known, row_whole, cells_whole, names_ascend}
use Rattle.rw_table.proofs.TableInstance.{table_instance}
use Rattle.rw_column.specs.Threads.{Threaded, nothing, places_from}
use Rattle.rw_columns.specs.Columned.{Columned, no_column, column_at, instance_of_columns, next_of, IsOverEnds, AreColumns}
use Rattle.rw_columns.specs.Kept.{Keeps}
use Rattle.rw_columns.specs.inner.Filled.{IsFilled, IsFilledColumn, AreFilledFrom}
use Rattle.rw_columns.proofs.Columned.{places_are, places_ascend, places_have, there_at}
use Rattle.rw_columns.proofs.Filled.{names_up}
use Rattle.rw_columns.proofs.Lists.{name_in_bound, names_known, images_below}
use Rattle.rw_columns.proofs.Same.{same_instance}
use Rattle.rw_columns.proofs.Walked.{same_order}

-- a number is among the names, or it is none of them
pub among_or_not : (names : List ℕ) (x : ℕ) → Contains names x ⊎ (Contains names x → ⊥)
among_or_not names x =
    elim (cases_Bool (list_any (λ name. name == x) names)) [
      | inl found ↦ inl (contains_found names x found)
      | inr missed ↦ inr (λ among. both_ways (list_any (λ name. name == x) names) missed (found_contained names x among))
    ]

-- a place that is no name has none
filled_elsewhere : {A : Type 0} (none : A) (names : List ℕ) (entry : ℕ → A) (bound : ℕ) (value : ℕ → A) (x : ℕ)
    → IsFilled none names entry (length names) bound value → x < bound → (Contains names x → ⊥) → value x ≡ none
filled_elsewhere none names entry bound value x filled within missing =
    filled.elsewhere x within (λ k before same. missing (subst (Contains names) same (Contains-get_or names k 0 before)))

-- what is looked up beside a name is the entry at the name's place
looked_beside : {A : Type 0} (none none_looked : A) (names : List ℕ) (entries : List A) (bound : ℕ) (value : ℕ → A) (x : ℕ)
    → ascends names ≡ true → length entries ≡ length names
    → IsFilled none names (λ k. get_or entries k none_looked) (length names) bound value → Contains names x → value x ≡ look none_looked names entries x
looked_beside none none_looked names entries bound value x up beside filled (k, within, there) =
    let at : slice_index names k ≡ x = get_or_default names k 0 x within ∙ there in
    subst (λ (y : ℕ). value y ≡ look none_looked names entries y) at
    (filled.beside k within ∙ sym (look_at none_looked names entries k (ascends_distinct names up) within))

-- beside no entries nothing is found
look_blank : {A : Type 0} (none : A) (names : List ℕ) (x : ℕ) → look none names [] x ≡ none
look_blank none [] x = refl
look_blank none (name ∷ names) x = refl

module _ (columns : Columned) (rows : RowLists) (from : AreFilledFrom columns.signature rows columns) where
  -- the lists have the right shape
  shape : AreShaped columns.signature rows
  shape = shape_known columns.signature rows (checked_known columns.signature rows from.no_fault).shape

  -- the number 0 stands at the names alone
  pub names_at : (object x : ℕ) → object < columns.signature.objects → x < slice_index rows.next object
      → slice_index (column_at columns.names object).values x ≡ 0 → Contains (list_at rows.names object) x
  names_at object x known within zero_there =
      let column = from.names.each object known in
      elim (among_or_not (list_at rows.names object) x) [
        | inl among ↦ among
        | inr missing ↦
            let none_there = filled_elsewhere nothing (list_at rows.names object) (λ k. 0) (slice_index rows.next object)
            (slice_index (column_at columns.names object).values) x column.filled within missing in
            absurd (omega (arith, sym zero_there ∙ none_there))
      ]

  -- and at each name
  pub at_names : (object x : ℕ) → object < columns.signature.objects → Contains (list_at rows.names object) x
      → slice_index (column_at columns.names object).values x ≡ 0
  at_names object x known (k, within, there) =
      let names = list_at rows.names object in
      let column = from.names.each object known in
      subst (λ (y : ℕ). slice_index (column_at columns.names object).values y ≡ 0) (get_or_default names k 0 x within ∙ there) (column.filled.beside k within)

  -- each object has a place for each name that was given
  next_kept : (object : ℕ) → next_of columns object ≡ slice_index rows.next object
  next_kept object =
      elim (cases_lt object columns.signature.objects) [
        | inl known ↦ (from.names.each object known).long
        | inr past ↦
            ap (λ (column : Threaded). length column.values) (get_or_past columns.names object no_column (omega (arith, from.names.count, past)))
            ∙ sym (get_or_past rows.next object 0 (omega (arith, shape.next, past)))
      ]

  -- the names are those of the lists
  names_kept : (object : ℕ) → places_from (column_at columns.names object).values 0 0 ≡ list_at rows.names object
  names_kept object =
      elim (cases_lt object columns.signature.objects) [
        | inl known ↦
            let values = (column_at columns.names object).values in
            let names = list_at rows.names object in
            let next = slice_index rows.next object in
            let named = names_known columns.signature rows object from.no_fault known in
            same_order (places_from values 0 0) names (places_ascend values 0 0) (names_up next names named)
            (λ x there.
            let at = places_are values 0 x there in
            names_at object x known (subst (λ (n : ℕ). x < n) (next_kept object) at.0) at.1)
            (λ x among. places_have values 0 x (subst (λ (n : ℕ). x < n) (sym (next_kept object)) (name_in_bound next names x named among)) (at_names object x known among))
        | inr past ↦
            ap (λ (column : Threaded). places_from column.values 0 0) (get_or_past columns.names object no_column (omega (arith, from.names.count, past)))
            ∙ sym (get_or_past rows.names object [] (omega (arith, shape.names, past)))
      ]

  -- the column of an arrow, by the arrow's ends
  arrow_filled : (a : ℕ) (ends : ArrowEnds) → slice_get columns.signature.arrows a ≡ Some ends
      → IsFilledColumn (slice_index rows.next ends.source.0) (slice_index rows.next ends.target.0) (list_at rows.names ends.source.0)
      (slice_index (list_at rows.arrows a)) (column_at columns.arrows a)
  arrow_filled a ends there =
      let by_ends = λ (source target : ℕ). IsFilledColumn (slice_index rows.next source) (slice_index rows.next target) (list_at rows.names source)
      (slice_index (list_at rows.arrows a)) (column_at columns.arrows a) in
      subst (λ (source : ℕ). by_ends source ends.target.0) (source_is columns.signature a ends there)
      (subst (λ (target : ℕ). by_ends (source_of columns.signature a) target) (target_is columns.signature a ends there)
      (from.arrows.each a (slice_get_within columns.signature.arrows a ends there)))

  -- each arrow has the value that the lists have at the name
  values_kept : (a : ℕ) (ends : ArrowEnds) (x : ℕ) → slice_get columns.signature.arrows a ≡ Some ends → Contains (list_at rows.names ends.source.0) x
      → slice_index (column_at columns.arrows a).values x ≡ (instance_of columns.signature rows).value a x
  values_kept a ends x there has =
      let row = list_at rows.arrows a in
      let names = list_at rows.names ends.source.0 in
      let values = (column_at columns.arrows a).values in
      let checked = checked_known columns.signature rows from.no_fault in
      subst (λ (source : ℕ). slice_index values x ≡ look 0 (list_at rows.names source) row x) (sym (source_is columns.signature a ends there))
      (looked_beside nothing 0 names row (slice_index rows.next ends.source.0) (slice_index values) x (names_ascend rows ends.source.0 checked.names)
      (row_whole columns.signature rows a ends checked.shape there) (arrow_filled a ends there).filled has)

  -- each attribute has the cell that the lists have, and none at what is no name
  cells_kept : (c x : ℕ) → slice_index_or (list_at columns.cells c) x None ≡ (instance_of columns.signature rows).cell c x
  cells_kept c x =
      let names = list_at rows.names (holder_of columns.signature c) in
      let cells = list_at rows.cells c in
      let list = list_at columns.cells c in
      elim (cases_lt c (length columns.signature.attributes)) [
        | inl known ↦
            let kept = from.cells.each c known in
            let next = slice_index rows.next (holder_of columns.signature c) in
            let checked = checked_known columns.signature rows from.no_fault in
            let over = there_at columns.signature.attributes c known in
            let beside : length cells ≡ length names =
            subst (λ (holder : ℕ). length cells ≡ length (list_at rows.names holder)) (sym (holder_is columns.signature c over.0 over.1))
            (cells_whole columns.signature rows c over.0 checked.shape over.1) in
            elim (among_or_not names x) [
              | inl among ↦ looked_beside None None names cells next (λ y. get_or list y None) x (names_ascend rows (holder_of columns.signature c) checked.names) beside kept.filled among
              | inr missing ↦
                  elim (cases_lt x next) [
                    | inl within ↦ filled_elsewhere None names (λ k. get_or cells k None) next (λ y. get_or list y None) x kept.filled within missing
                    | inr past ↦ get_or_past list x None (omega (arith, kept.long, past))
                  ]
                  ∙ sym (look_missing None names cells x missing)
            ]
        | inr past ↦
            ap (λ (all : List (Option Atom)). get_or all x None) (get_or_past columns.cells c [] (omega (arith, from.cells.count, past)))
            ∙ sym (look_blank None names x)
            ∙ ap (λ (all : List (Option Atom)). look None names all x) (sym (get_or_past rows.cells c [] (omega (arith, shape.cells, past))))
      ]

  -- the columns keep the lists
  pub kept : Keeps columns.signature rows columns
  kept = record {
    signature = refl;
    names = names_kept;
    values = values_kept;
    cells = cells_kept;
    next = next_kept;
  }

  -- the instance of the lists is that of the columns
  lists_same : AreSame columns.signature (instance_of columns.signature rows) (instance_of_columns columns)
  lists_same = record {
    names = λ object x known. (subst (λ (names : List ℕ). Contains names x) (sym (names_kept object)), subst (λ (names : List ℕ). Contains names x) (names_kept object));
    values = λ a ends x there has. sym (values_kept a ends x there has);
    cells = λ c ends x there has. sym (cells_kept c x);
  }

  -- the column of each arrow is over the columns of its ends
  over_ends : (a : ℕ) (ends : ArrowEnds) → slice_get columns.signature.arrows a ≡ Some ends → IsOverEnds columns a ends
  over_ends a ends there =
      let source : ℕ = ends.source.0 in
      let known = from.category.sources a ends there in
      let names = list_at rows.names source in
      let values = (column_at columns.arrows a).values in
      let column = arrow_filled a ends there in
      let row = list_at rows.arrows a in
      let beside = row_whole columns.signature rows a ends (checked_known columns.signature rows from.no_fault).shape there in
      record {
        long = column.long ∙ sym (next_kept source);
        few = omega (arith, column.wide, column.few);
        wide = column.wide ∙ sym (next_kept ends.target.0);
        given = λ name within.
            let below : name < slice_index rows.next source = subst (λ (n : ℕ). name < n) column.long within in (
              λ is_name is_none.
                  let among = names_at source name known below is_name in
                  let image : slice_index row among.0 < slice_index rows.next ends.target.0 =
                  images_below columns.signature rows a ends from.no_fault there (from.category.targets a ends there) among.0 0 (rw beside among.1) in
                  let is_at : slice_index names among.0 ≡ name = get_or_default names among.0 0 name among.1 ∙ among.2 in
                  let value = subst (λ (y : ℕ). slice_index values y ≡ slice_index row among.0) is_at (column.filled.beside among.0 among.1) in
                  omega (arith, sym value ∙ is_none, image, column.few),
              λ given. elim (among_or_not names name) [
                | inl among ↦ at_names source name known among
                | inr missing ↦ absurd (given (filled_elsewhere nothing names (slice_index row) (slice_index rows.next source) (slice_index values) name column.filled below missing))
              ],
            );
      }

  -- the columns are those of an instance
  pub columns_are : AreColumns columns
  columns_are = record {
    category = from.category;
    objects = from.names.count;
    arrow_count = from.arrows.count;
    attribute_count = from.cells.count;
    targets = λ object known. (from.names.each object known).wide;
    ends = over_ends;
    cells_long = λ c ends there.
        let kept = from.cells.each c (slice_get_within columns.signature.attributes c ends there) in
        kept.long ∙ ap (slice_index rows.next) (holder_is columns.signature c ends there) ∙ sym (next_kept ends.object.0);
    sound = same_instance columns.signature (instance_of columns.signature rows) (instance_of_columns columns) from.category lists_same (table_instance columns.signature rows from.no_fault);
  }
