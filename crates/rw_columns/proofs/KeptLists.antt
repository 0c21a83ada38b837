-- What follows where columns keep lists.
use Rattle.std.proofs.Common.{◌≡◌, ◌∙◌, ℕ, ◌<◌, List, [], None, Contains, length, get_or, map, sym, ap, subst, zero-add}
use Rattle.std.proofs.lemmas.List.{ext_get_or, length-map, get_or-map}
use Rattle.std.proofs.lemmas.List.Elements.{Contains-get_or}
use Rattle.std.proofs.lemmas.List.FromFn.{fill_by_all}
use Rattle.rw_schema.specs.declared.signature.ArrowEnds.{ArrowEnds}
use Rattle.rw_schema.specs.declared.signature.AttrEnds.{AttrEnds}
use Rattle.rw_schema.specs.RowLists.{RowLists, list_at}
use Rattle.rw_schema.specs.Signature.{Signature}
use Rattle.rw_spec.specs.Instance.{instance_of, look}
use Rattle.rw_spec.specs.Same.{AreSame}
use Rattle.rw_spec.proofs.Look.{look_at}
use Rattle.rw_spec.proofs.Signatures.{source_is, holder_is}
use Rattle.rw_table.specs.TableFaults.{table_fault}
use Rattle.rw_table.proofs.Checked.{AreShaped, checked_known, shape_known, row_whole, cells_whole, names_apart}
use Rattle.rw_table.proofs.Sound.{mapped_in, same_rows}
use Rattle.rw_columns.specs.Columned.{Columned, instance_of_columns, next_of}
use Rattle.rw_columns.specs.Kept.{Keeps, lists_of_columns}

module _ (C : Signature) (rows : RowLists) (columns : Columned) (keeps : Keeps C rows columns) where
  -- the columns are the instance of the lists
  pub kept_same : AreSame C (instance_of C rows) (instance_of_columns columns)
  kept_same = record {
    names = λ object x known.
        (subst (λ (names : List ℕ). Contains names x) (sym (keeps.names object)), subst (λ (names : List ℕ). Contains names x) (keeps.names object));
    values = λ a ends x there has. sym (keeps.values a ends x there has);
    cells = λ c ends x there has. sym (keeps.cells c x);
  }

-- the entries beside names are what a function gives of each name, where it gives the entry at its place
entries_given : {A : Type 0} (none : A) (f : ℕ → A) (names : List ℕ) (entries : List A) → length entries ≡ length names
    → ((k : ℕ) → k < length names → f (get_or names k 0) ≡ get_or entries k none) → entries ≡ map f names
entries_given none f names entries beside each =
    ext_get_or none entries (map f names) (beside ∙ sym (length-map names f))
    (λ k within.
    let among : k < length names = rw (← beside) within in
    sym (get_or-map f names k 0 none among ∙ each k among))

-- columns that keep lists without a fault give these back
pub kept_lists : (rows : RowLists) (columns : Columned) → Keeps columns.signature rows columns → table_fault columns.signature rows ≡ None → rows ≡ lists_of_columns columns
kept_lists rows columns keeps none =
    let C = columns.signature in
    let Y = instance_of_columns columns in
    let checked = checked_known C rows none in
    let shape : AreShaped C rows = shape_known C rows checked.shape in
    let names = fill_by_all Y.names rows.names C.objects [] shape.names (λ object known. sym (keeps.names object)) in
    let next = fill_by_all (next_of columns) rows.next C.objects 0 shape.next (λ object known. sym (keeps.next object)) in
    let arrows = mapped_in (λ a (ends : ArrowEnds). map (Y.value a) (Y.names ends.source.0)) 0 C.arrows rows.arrows [] shape.arrows
    (λ a ends there.
    let sources = list_at rows.names ends.source.0 in
    let row = list_at rows.arrows a in
    let distinct = names_apart C rows ends.source.0 none in
    rw (zero-add, keeps.names ends.source.0)
    (entries_given 0 (Y.value a) sources row (row_whole C rows a ends checked.shape there)
    (λ k among.
    keeps.values a ends (get_or sources k 0) there (Contains-get_or sources k 0 among)
    ∙ ap (λ (source : ℕ). look 0 (list_at rows.names source) row (get_or sources k 0)) (source_is C a ends there)
    ∙ look_at 0 sources row k distinct among))) in
    let cells = mapped_in (λ c (ends : AttrEnds). map (Y.cell c) (Y.names ends.object.0)) 0 C.attributes rows.cells [] shape.cells
    (λ c ends there.
    let holders = list_at rows.names ends.object.0 in
    let list = list_at rows.cells c in
    let distinct = names_apart C rows ends.object.0 none in
    rw (zero-add, keeps.names ends.object.0)
    (entries_given None (Y.cell c) holders list (cells_whole C rows c ends checked.shape there)
    (λ k among.
    keeps.cells c (get_or holders k 0)
    ∙ ap (λ (holder : ℕ). look None (list_at rows.names holder) list (get_or holders k 0)) (holder_is C c ends there)
    ∙ look_at None holders list k distinct among))) in
    same_rows rows (lists_of_columns columns) names arrows cells next
