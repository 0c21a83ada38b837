-- The columns of lists without a fault, put together.
use Rattle.std.proofs.Common.{◌≡◌, ◌∙◌, ℕ, List, [], None, length, map, sym, ap, subst}
use Rattle.std.proofs.lemmas.List.{length-map}
use Rattle.rw_schema.specs.declared.parts.Equation.{Equation}
use Rattle.rw_schema.specs.declared.signature.ArrowEnds.{ArrowEnds}
use Rattle.rw_schema.specs.declared.signature.AttrEnds.{AttrEnds}
use Rattle.rw_schema.specs.Presentation.{Presentation, signature_of, ends_of_arrow, ends_of_attribute}
use Rattle.rw_schema.specs.RowLists.{RowLists}
use Rattle.rw_schema.specs.Signature.{Signature, IsCategory}
use Rattle.rw_table.specs.TableFaults.{table_fault}
use Rattle.rw_columns.specs.Columned.{Columned, no_column, AreColumns}
use Rattle.rw_columns.specs.Kept.{Keeps}
use Rattle.rw_columns.specs.inner.Filled.{AreAll, IsNamesColumn, IsArrowColumn, AreCellsOf, AreFilledFrom}
use Rattle.rw_columns.proofs.Kept.{kept, columns_are}

-- signatures whose parts are the same are one
same_signature : (C D : Signature) → C.objects ≡ D.objects → C.arrows ≡ D.arrows → C.attributes ≡ D.attributes → C.equations ≡ D.equations → C ≡ D
same_signature C D objects arrows attributes equations =
    let with_objects = λ (n : ℕ). record C { objects = n } in
    let with_arrows = λ (list : List ArrowEnds). record (with_objects D.objects) { arrows = list } in
    let with_attributes = λ (list : List AttrEnds). record (with_arrows D.arrows) { attributes = list } in
    let with_equations = λ (list : List Equation). record (with_attributes D.attributes) { equations = list } in
    ap with_objects objects ∙ ap with_arrows arrows ∙ ap with_attributes attributes ∙ ap with_equations equations

-- what the parts of the columns are
pub record ArePartsOf (schema : Presentation) (rows : RowLists) (columns : Columned) : Type 0 where
  pub category : IsCategory (signature_of schema)
  pub no_fault : table_fault (signature_of schema) rows ≡ None
  pub arrow_ends : columns.signature.arrows ≡ map ends_of_arrow schema.arrows
  pub attribute_ends : columns.signature.attributes ≡ map ends_of_attribute schema.attributes
  pub equations : columns.signature.equations ≡ schema.equations
  pub counted : columns.signature.objects ≡ length columns.names
  pub names : AreAll no_column (IsNamesColumn rows) (length schema.objects) columns.names
  pub arrows : AreAll no_column (IsArrowColumn (signature_of schema) rows) (length schema.arrows) columns.arrows
  pub cells : AreAll [] (AreCellsOf (signature_of schema) rows) (length schema.attributes) columns.cells

module _ (schema : Presentation) (rows : RowLists) (columns : Columned) (parts : ArePartsOf schema rows columns) where
  -- the columns are over the schema
  over_schema : columns.signature ≡ signature_of schema
  over_schema = same_signature columns.signature (signature_of schema) (parts.counted ∙ parts.names.count) parts.arrow_ends parts.attribute_ends parts.equations

  -- they are filled from the lists
  filled_from : AreFilledFrom columns.signature rows columns
  filled_from = subst (λ (C : Signature). AreFilledFrom C rows columns) (sym over_schema) (record {
    category = parts.category;
    no_fault = parts.no_fault;
    names = parts.names;
    arrows = subst (λ (n : ℕ). AreAll no_column (IsArrowColumn (signature_of schema) rows) n columns.arrows) (sym (length-map schema.arrows ends_of_arrow)) parts.arrows;
    cells = subst (λ (n : ℕ). AreAll [] (AreCellsOf (signature_of schema) rows) n columns.cells) (sym (length-map schema.attributes ends_of_attribute)) parts.cells;
  })

  -- so they are columns
  pub columns_from : AreColumns columns
  columns_from = columns_are columns rows filled_from

  -- that keep the lists
  pub kept_from : Keeps (signature_of schema) rows columns
  kept_from = subst (λ (C : Signature). Keeps C rows columns) over_schema (kept columns rows filled_from)
