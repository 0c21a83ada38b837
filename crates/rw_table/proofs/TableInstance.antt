-- Checked lists are an instance.
use Rattle.std.proofs.Common.{◌≡◌, ◌==◌, ◌∙◌, ℕ, true, Some, None, IfSome, slice_get, refl, ap, sym, subst}
use Rattle.std.specs.List.{Contains, list_any}
use Rattle.std.proofs.lemmas.Bool.{cond_both}
use Rattle.rw_schema.specs.declared.atom.Atom.{Atom}
use Rattle.rw_schema.specs.declared.atom.Kind as kinds
use Rattle.rw_schema.specs.declared.atom.Kind.TheVariants as variants
use Rattle.rw_schema.specs.declared.signature.ArrowEnds.{ArrowEnds}
use Rattle.rw_schema.specs.declared.signature.AttrEnds.{AttrEnds}
use Rattle.rw_schema.specs.Atoms.{kind_of, is_same_kind}
use Rattle.rw_schema.specs.RowLists.{RowLists, list_at}
use Rattle.rw_schema.specs.Signature.{Signature, source_of}
use Rattle.rw_spec.specs.Instance.{Has, IsInstance, instance_of, look}
use Rattle.rw_spec.proofs.Look.{contains_found, look_contains}
use Rattle.rw_spec.proofs.Signatures.{source_is, holder_is}
use Rattle.rw_spec.specs.Tabled.{Tabled, instance_of_table, value_at}
use Rattle.rw_table.specs.TableFaults.{table_fault}
use Rattle.rw_table.proofs.Checked.{checked_known, row_whole, images_named, cells_whole, cells_kept, sides_agree}

-- each arrow of checked lists is a function from the names of its source to those of its target
pub table_functions : (C : Signature) (rows : RowLists) → table_fault C rows ≡ None
    → (a : ℕ) (ends : ArrowEnds) (x : ℕ) → slice_get C.arrows a ≡ Some ends
    → Has (instance_of C rows) ends.source.0 x → Has (instance_of C rows) ends.target.0 ((instance_of C rows).value a x)
table_functions C rows none a ends x there has =
    let checked = checked_known C rows none in
    let names = list_at rows.names ends.source.0 in
    let row = list_at rows.arrows a in
    rw (source_is C a ends there)
    (images_named C rows a ends (look 0 names row x) checked.range there
    (look_contains 0 names row x (row_whole C rows a ends checked.shape there) has))

-- an atom of the kind has it as its kind
same_kind : (left right : kinds.Kind) → is_same_kind left right ≡ true → left ≡ right
same_kind variants.Int variants.Int same = refl
same_kind variants.Int variants.Text same = cc
same_kind variants.Int variants.Bool same = cc
same_kind variants.Text variants.Int same = cc
same_kind variants.Text variants.Text same = refl
same_kind variants.Text variants.Bool same = cc
same_kind variants.Bool variants.Int same = cc
same_kind variants.Bool variants.Text same = cc
same_kind variants.Bool variants.Bool same = refl

-- each atom of checked lists is of its attribute's kind
table_atoms : (C : Signature) (rows : RowLists) → table_fault C rows ≡ None
    → (c : ℕ) (ends : AttrEnds) (x : ℕ) (atom : Atom) → slice_get C.attributes c ≡ Some ends
    → Has (instance_of C rows) ends.object.0 x → (instance_of C rows).cell c x ≡ Some atom → kind_of atom ≡ ends.kind
table_atoms C rows none c ends x atom there has is =
    let checked = checked_known C rows none in
    let names = list_at rows.names ends.object.0 in
    let cells = list_at rows.cells c in
    let among : Contains cells (look None names cells x) = look_contains None names cells x (cells_whole C rows c ends checked.shape there) has in
    let cell_is : look None names cells x ≡ Some atom = ap (λ object. look None (list_at rows.names object) cells x) (sym (holder_is C c ends there)) ∙ is in
    same_kind (kind_of atom) ends.kind (cells_kept C rows c ends (Some atom) checked.kinds there (subst (λ cell. Contains cells cell) cell_is among))

-- checked lists are an instance
pub table_instance : (C : Signature) (rows : RowLists) → table_fault C rows ≡ None → IsInstance C (instance_of C rows)
table_instance C rows none = record {
  values = table_functions C rows none;
  atoms = table_atoms C rows none;
  equations = λ e equation x there has. sides_agree C rows e equation x (checked_known C rows none).equations there has;
}

-- where an arrow of checked lists leads is a name of its target
pub value_within : (table : Tabled) (a name : ℕ) (ends : ArrowEnds) → table_fault table.signature table.rows ≡ None → slice_get table.signature.arrows a ≡ Some ends
    → IfSome (value_at table a name) (Has (instance_of_table table) ends.target.0)
value_within table a name ends none there =
    let names = list_at table.rows.names (source_of table.signature a) in
    let image = (instance_of_table table).value a name in
    cond_both (list_any (λ other. other == name) names) (Some image) None (λ found. IfSome found (Has (instance_of_table table) ends.target.0))
    (λ among. table_functions table.signature table.rows none a ends name there
    (subst (λ object. Has (instance_of_table table) object name) (source_is table.signature a ends there) (contains_found names name among)))
    (λ missing. tt)
