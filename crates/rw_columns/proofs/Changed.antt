-- What a change leaves of the instance in columns.
use Rattle.std.proofs.Common.{◌≡◌, ◌==◌, ◌∙◌, ℕ, ◌<◌, ◌≤◌, ◌++◌, true, not, [], filter, length, get_or, sym, ap, subst, arith}
use Rattle.std.specs.Prelude.{Contains}
use Rattle.std.specs.List.{list_any}
use Rattle.std.proofs.lemmas.Bool.{ne_eqb}
use Rattle.std.proofs.lemmas.List.Elements.{All-contains}
use Rattle.rw_schema.specs.RowLists.{list_at}
use Rattle.rw_schema.specs.Signature.{source_of, holder_of}
use Rattle.rw_spec.specs.Ascending.{ascends}
use Rattle.rw_spec.specs.Instance.{Instance, Has}
use Rattle.rw_spec.proofs.Ascending.{ascends_append, ascends_filter}
use Rattle.rw_spec.proofs.Sequences.{contained_in_filter}
use Rattle.rw_spec.proofs.Signatures.{source_is, holder_is}
use Rattle.rw_columns.specs.ChangedColumns.{FitsColumns}
use Rattle.rw_columns.specs.Changes.{ChangeLists, AreDifferences, changed, entry_names, entry_values, staying_of}
use Rattle.rw_columns.specs.Columned.{Columned, AreColumns, column_at, instance_of_columns, next_of, preimage_of}
use Rattle.rw_columns.specs.inner.Walks.{is_kept, leading, merge}
use Rattle.rw_columns.proofs.Columned.{leads_within, places_are, places_ascend, target_place, there_at}
use Rattle.rw_columns.proofs.Left.{all_led}
use Rattle.rw_columns.proofs.Walked.{filter_none}

-- the names of an object ascend
pub names_ascend : (columns : Columned) (object : ℕ) → ascends ((instance_of_columns columns).names object) ≡ true
names_ascend columns object = places_ascend (column_at columns.names object).values 0 0

-- and so do those that a change leaves
pub changed_ascend : (columns : Columned) (change : ChangeLists) (object : ℕ) → FitsColumns columns change → object < columns.signature.objects
    → ascends ((changed columns.signature (instance_of_columns columns) change).names object) ≡ true
changed_ascend columns change object fits known =
    let stay = λ (name : ℕ). not (list_any (λ other. other == name) (list_at change.removed object)) in
    let names = (instance_of_columns columns).names object in
    let added = list_at change.added.names object in
    ascends_append (staying_of (instance_of_columns columns) change object) added (ascends_filter stay names (names_ascend columns object)) (fits.added_ascend object known)
    (λ x y stays come.
    let old = places_are (column_at columns.names object).values 0 x (contained_in_filter stay names x stays).0 in
    let new = All-contains (λ name. (next_of columns object ≤ name) × (name < get_or change.added.next object 0)) added y (fits.added object known) come in
    omega (arith, old.0, new.0))

-- a name that comes is none of those that are there
pub new_apart : (columns : Columned) (change : ChangeLists) (object x : ℕ) → FitsColumns columns change → object < columns.signature.objects
    → Has (instance_of_columns columns) object x → Contains (list_at change.added.names object) x → ⊥
new_apart columns change object x fits known has added =
    let old = places_are (column_at columns.names object).values 0 x has in
    let new = All-contains (λ name. (next_of columns object ≤ name) × (name < get_or change.added.next object 0)) (list_at change.added.names object) x (fits.added object known) added in
    omega (arith, old.0, new.0)

module _ (columns : Columned) (change : ChangeLists) (fits : FitsColumns columns change) (arrow : ℕ) (known : arrow < length columns.signature.arrows) where
  -- what is written anew beside an arrow is for names that stay
  pub rows_differ : AreDifferences (staying_of (instance_of_columns columns) change (source_of columns.signature arrow)) ((instance_of_columns columns).value arrow) (list_at change.rows arrow)
  rows_differ =
      let X : Instance = instance_of_columns columns in
      let ends = there_at columns.signature.arrows arrow known in
      subst (λ (object : ℕ). AreDifferences (staying_of X change object) (X.value arrow) (list_at change.rows arrow))
      (sym (source_is columns.signature arrow ends.0 ends.1)) (fits.rows arrow ends.0 ends.1)

  -- the names that come have one image each
  pub images_beside : length (list_at change.added.arrows arrow) ≡ length (list_at change.added.names (source_of columns.signature arrow))
  images_beside =
      let ends = there_at columns.signature.arrows arrow known in
      fits.added_rows arrow ends.0 ends.1
      ∙ ap (λ (object : ℕ). length (list_at change.added.names object)) (sym (source_is columns.signature arrow ends.0 ends.1))

module _ (columns : Columned) (change : ChangeLists) (fits : FitsColumns columns change) (attribute : ℕ) (known : attribute < length columns.signature.attributes) where
  -- the cells that are written anew are of names that stay
  pub cells_differ : AreDifferences (staying_of (instance_of_columns columns) change (holder_of columns.signature attribute)) ((instance_of_columns columns).cell attribute) (list_at change.cells attribute)
  cells_differ =
      let X : Instance = instance_of_columns columns in
      let ends = there_at columns.signature.attributes attribute known in
      subst (λ (object : ℕ). AreDifferences (staying_of X change object) (X.cell attribute) (list_at change.cells attribute))
      (sym (holder_is columns.signature attribute ends.0 ends.1)) (fits.cells attribute ends.0 ends.1)

  -- the names that come have one cell each
  pub cells_beside : length (list_at change.added.cells attribute) ≡ length (list_at change.added.names (holder_of columns.signature attribute))
  cells_beside =
      let ends = there_at columns.signature.attributes attribute known in
      fits.added_cells attribute ends.0 ends.1
      ∙ ap (λ (object : ℕ). length (list_at change.added.names object)) (sym (holder_is columns.signature attribute ends.0 ends.1))

module _ (columns : Columned) (are : AreColumns columns) (arrow : ℕ) (known : arrow < length columns.signature.arrows) where
  -- no name is led to a number that may not stand in the arrow's column
  pub preimage_none : (number : ℕ) → (column_at columns.arrows arrow).targets ≤ number
      → [] ≡ preimage_of columns.signature (instance_of_columns columns) arrow number
  preimage_none number past =
      let X = instance_of_columns columns in
      let names = X.names (source_of columns.signature arrow) in
      sym (filter_none (λ name. X.value arrow name == number) names (λ name there.
      ne_eqb (X.value arrow name) number (λ same.
      let within = target_place columns are arrow known (X.value arrow name) (leads_within columns are arrow known name there) in
      omega (arith, within, same, past))))

  -- the object that the arrow leaves is one of the schema's
  pub source_known : source_of columns.signature arrow < columns.signature.objects
  source_known =
      let ends = there_at columns.signature.arrows arrow known in
      subst (λ (object : ℕ). object < columns.signature.objects) (sym (source_is columns.signature arrow ends.0 ends.1)) (are.category.sources arrow ends.0 ends.1)

  module _ (change : ChangeLists) (fits : FitsColumns columns change) where
    -- the names that the arrow leads to a name afterwards
    pub preimage_left : (number : ℕ)
        → merge (filter (is_kept (list_at change.removed (source_of columns.signature arrow)) (list_at change.rows arrow)) (preimage_of columns.signature (instance_of_columns columns) arrow number))
        (leading (entry_names (list_at change.rows arrow)) (entry_values (list_at change.rows arrow)) number)
        ++ leading (list_at change.added.names (source_of columns.signature arrow)) (list_at change.added.arrows arrow) number
        ≡ preimage_of columns.signature (changed columns.signature (instance_of_columns columns) change) arrow number
    preimage_left number =
        let X : Instance = instance_of_columns columns in
        let object = source_of columns.signature arrow in
        all_led (X.value arrow) (X.names object) (list_at change.removed object) (list_at change.rows arrow) number (names_ascend columns object) (rows_differ columns change fits arrow known)
        (list_at change.added.names object) (list_at change.added.arrows arrow) (fits.added_ascend object source_known) (images_beside columns change fits arrow known)
        (λ x has added. new_apart columns change object x fits source_known has added)
