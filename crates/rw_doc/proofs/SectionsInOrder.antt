-- Schemas and instances tell the fault of their first section that has one.
use Rattle.std.proofs.Common.{◌≡◌, inl, inr, ℕ, Bool, true, Option, Some, Result, Ok, Err, List, [], ◌∷◌, codes, refl, subst, arith}
use Rattle.serde_json.specs.Data.{Data}
use Rattle.serde_json.specs.Find.{get}
use Rattle.rw_schema.specs.declared.atom.Atom.{Atom}
use Rattle.rw_schema.specs.declared.parts.ArrowDef.{ArrowDef}
use Rattle.rw_schema.specs.declared.section.Section.TheVariants.{Schema, Instance}
use Rattle.rw_schema.specs.Presentation.{Presentation}
use Rattle.rw_schema.specs.Signature.{Signature}
use Rattle.rw_spec.specs.Tabled.{Tabled}
use Rattle.rw_doc.specs.declared.fault.DocFault.{DocFault}
use Rattle.rw_doc.specs.Entries.{TellsInOrder}
use Rattle.rw_doc.specs.Faults.{fault_of}
use Rattle.rw_doc.specs.InstanceEntries.{HasParts, HasRows, HasCells, InstanceTellsFirst}
use Rattle.rw_doc.specs.Instances.{read_parts, read_rows, read_cells, rows_of, with_equations, instance_keys}
use Rattle.rw_doc.specs.Json.{has_only}
use Rattle.rw_doc.specs.SchemaEntries.{member_at, HasOtherKeys, HasObjects, HasArrows, SchemaTellsFirst}
use Rattle.rw_doc.specs.Schemas.{read_objects, read_arrows, read_attributes, read_equations, schema_keys}
use Rattle.rw_doc.specs.Sections.{schema_of_sections, instance_of_sections}
use Rattle.rw_doc.proofs.InOrder.{or_place, only_place, one_value, no_fault, order_read, order_last, order_keys}
use Rattle.rw_doc.proofs.Written.{never_both}

-- ---- schemas

-- the arrows' faults
abbrev ArrowFault : Data → DocFault → Type 0
ArrowFault value fault = (objects : List (List ℕ)) × HasObjects value objects × (read_arrows objects (member_at (codes "arrows") value) ≡ Err fault)

-- the attributes' faults
abbrev AttributeFault : Data → DocFault → Type 0
AttributeFault value fault = (objects : List (List ℕ)) × HasObjects value objects × (read_attributes objects (get (codes "attributes") value) ≡ Err fault)

-- the equations' faults
abbrev EquationFault : Data → DocFault → Type 0
EquationFault value fault = (objects : List (List ℕ)) × (arrows : List ArrowDef) × HasObjects value objects × HasArrows value objects arrows
    × (read_equations objects arrows (get (codes "equations") value) ≡ Err fault)

-- the sections behind the keys
abbrev SchemaSections : Data → ℕ → DocFault → Type 0
SchemaSections value =
    or_place 1 (λ fault. read_objects (member_at (codes "objects") value) ≡ Err fault)
    (or_place 2 (ArrowFault value) (or_place 3 (AttributeFault value) (only_place 4 (EquationFault value))))

-- they tell the first fault
schema_sections : (value : Data) → TellsInOrder (SchemaSections value)
    (schema_of_sections (member_at (codes "objects") value) (member_at (codes "arrows") value) (get (codes "attributes") value) (get (codes "equations") value))
schema_sections value =
    let objects_value = member_at (codes "objects") value in
    let arrows_value = member_at (codes "arrows") value in
    let attributes_value = get (codes "attributes") value in
    let equations_value = get (codes "equations") value in
    order_read 1 (λ fault. read_objects objects_value ≡ Err fault) (or_place 2 (ArrowFault value) (or_place 3 (AttributeFault value) (only_place 4 (EquationFault value))))
    (read_objects objects_value) _ (λ place fault has. omega (arith, has)) (λ fault is. is) (λ objects is fault fails. no_fault (read_objects objects_value) objects fault is fails)
    (λ objects known. order_read 2 (ArrowFault value) (or_place 3 (AttributeFault value) (only_place 4 (EquationFault value))) (read_arrows objects arrows_value) _ (λ place fault has. omega (arith, has))
    (λ fault is. (objects, known, is))
    (λ arrows is fault fails.
    let same = one_value (read_objects objects_value) fails.0 objects fails.1 known in
    no_fault (read_arrows objects arrows_value) arrows fault is (subst (λ objects. read_arrows objects arrows_value ≡ Err fault) same fails.2))
    (λ arrows between. order_read 3 (AttributeFault value) (only_place 4 (EquationFault value)) (read_attributes objects attributes_value) _ (λ place fault has. omega (arith, has.0))
    (λ fault is. (objects, known, is))
    (λ attributes is fault fails.
    let same = one_value (read_objects objects_value) fails.0 objects fails.1 known in
    no_fault (read_attributes objects attributes_value) attributes fault is (subst (λ objects. read_attributes objects attributes_value ≡ Err fault) same fails.2))
    (λ attributes of.
    order_last 4 (EquationFault value) (read_equations objects arrows equations_value)
    (λ equations. let schema : Presentation = record { objects = objects; arrows = arrows; attributes = attributes; equations = equations } in schema)
    (λ fault is. (objects, arrows, known, between, is))
    (λ equations is fault fails.
    let same = one_value (read_objects objects_value) fails.0 objects fails.2 known in
    let arrows_are : read_arrows objects arrows_value ≡ Ok fails.1 = subst (λ objects. read_arrows objects arrows_value ≡ Ok fails.1) same fails.3 in
    let same_arrows = one_value (read_arrows objects arrows_value) fails.1 arrows arrows_are between in
    no_fault (read_equations objects arrows equations_value) equations fault is
    (subst (λ arrows. read_equations objects arrows equations_value ≡ Err fault) same_arrows
    (subst (λ objects. read_equations objects fails.1 equations_value ≡ Err fault) same fails.4))))))

-- what is at a key
at_key : (key : List ℕ) (value x : Data) → get key value ≡ Some x → member_at key value ≡ x
at_key key value x is = rw is refl

-- no required key is absent where both are there
both_there : (known : List (List ℕ)) (first second : List ℕ) (value x y : Data) → has_only known value ≡ true → get first value ≡ Some x → get second value ≡ Some y
    → HasOtherKeys known (first ∷ second ∷ []) value → ⊥
both_there known first second value x y is one two (inl other) = cc
both_there known first second value x y is one two (inr (inl none)) = never_both (get first value) x one none
both_there known first second value x y is one two (inr (inr (inl none))) = never_both (get second value) y two none
both_there known first second value x y is one two (inr (inr (inr never))) = never

-- a schema tells the fault of its first section that has one
pub schema_tells : SchemaTellsFirst
schema_tells value =
    let rest = λ (objects_value arrows_value : Data). schema_of_sections objects_value arrows_value (get (codes "attributes") value) (get (codes "equations") value) in
    order_keys (fault_of 2 Schema) (HasOtherKeys schema_keys (codes "objects" ∷ codes "arrows" ∷ []) value) (SchemaSections value)
    (has_only schema_keys value) (get (codes "objects") value) (get (codes "arrows") value) rest
    (λ other. inl other) (λ none. inr (inl none)) (λ none. inr (inr (inl none)))
    (both_there schema_keys (codes "objects") (codes "arrows") value)
    (λ x y first second.
    subst (λ x. TellsInOrder (SchemaSections value) (rest x y)) (at_key (codes "objects") value x first)
    (subst (λ y. TellsInOrder (SchemaSections value) (rest (member_at (codes "objects") value) y)) (at_key (codes "arrows") value y second) (schema_sections value)))

-- ---- instances

-- the rows' faults
abbrev RowFault : Signature → Data → DocFault → Type 0
RowFault C value fault = (parts : List ℕ) × HasParts C value parts × (read_rows C parts (member_at (codes "rows") value) ≡ Err fault)

-- the cells' faults
abbrev CellFault : Signature → Bool → Data → DocFault → Type 0
CellFault C blanks value fault = (parts : List ℕ) × HasParts C value parts × (read_cells C blanks parts (get (codes "cells") value) ≡ Err fault)

-- the failures of equations
abbrev Failure : Signature → Bool → Data → DocFault → Type 0
Failure C blanks value fault = (parts : List ℕ) × (arrows : List (List ℕ)) × (cells : List (List (Option Atom))) × HasParts C value parts × HasRows C value parts arrows
    × HasCells C blanks value parts cells × (with_equations C (rows_of parts arrows cells) ≡ Err fault)

-- the sections behind the keys
abbrev InstanceSections : Signature → Bool → Data → ℕ → DocFault → Type 0
InstanceSections C blanks value =
    or_place 1 (λ fault. read_parts C (member_at (codes "parts") value) ≡ Err fault)
    (or_place 2 (RowFault C value) (or_place 3 (CellFault C blanks value) (only_place 4 (Failure C blanks value))))

-- the last section, whose value is that of the whole
failures_last : (C : Signature) (blanks : Bool) (value : Data) (parts : List ℕ) (arrows : List (List ℕ)) (cells : List (List (Option Atom)))
    → HasParts C value parts → HasRows C value parts arrows → HasCells C blanks value parts cells
    → (reading : Result Tabled DocFault) → with_equations C (rows_of parts arrows cells) ≡ reading → TellsInOrder (only_place 4 (Failure C blanks value)) reading
failures_last C blanks value parts arrows cells has_parts has_rows has_cells (Err fault) is =
    (4, (refl, (parts, arrows, cells, has_parts, has_rows, has_cells, is)), λ other less earlier has. let same : other ≡ 4 = has.0 in omega arith)
failures_last C blanks value parts arrows cells has_parts has_rows has_cells (Ok table) is = λ place fault has.
    let fails = has.1 in
    let same_parts = one_value (read_parts C (member_at (codes "parts") value)) fails.0 parts fails.3 has_parts in
    let rows_are : HasRows C value parts fails.1 = subst (λ parts. HasRows C value parts fails.1) same_parts fails.4 in
    let cells_are : HasCells C blanks value parts fails.2 = subst (λ parts. HasCells C blanks value parts fails.2) same_parts fails.5 in
    let same_rows = one_value (read_rows C parts (member_at (codes "rows") value)) fails.1 arrows rows_are has_rows in
    let same_cells = one_value (read_cells C blanks parts (get (codes "cells") value)) fails.2 cells cells_are has_cells in
    no_fault (with_equations C (rows_of parts arrows cells)) table fault is
    (subst (λ cells. with_equations C (rows_of parts arrows cells) ≡ Err fault) same_cells
    (subst (λ arrows. with_equations C (rows_of parts arrows fails.2) ≡ Err fault) same_rows
    (subst (λ parts. with_equations C (rows_of parts fails.1 fails.2) ≡ Err fault) same_parts fails.6)))

-- they tell the first fault
instance_sections : (C : Signature) (blanks : Bool) (value : Data) → TellsInOrder (InstanceSections C blanks value)
    (instance_of_sections C blanks (member_at (codes "parts") value) (member_at (codes "rows") value) (get (codes "cells") value))
instance_sections C blanks value =
    let parts_value = member_at (codes "parts") value in
    let rows_value = member_at (codes "rows") value in
    let cells_value = get (codes "cells") value in
    order_read 1 (λ fault. read_parts C parts_value ≡ Err fault) (or_place 2 (RowFault C value) (or_place 3 (CellFault C blanks value) (only_place 4 (Failure C blanks value))))
    (read_parts C parts_value) _ (λ place fault has. omega (arith, has)) (λ fault is. is) (λ parts is fault fails. no_fault (read_parts C parts_value) parts fault is fails)
    (λ parts known. order_read 2 (RowFault C value) (or_place 3 (CellFault C blanks value) (only_place 4 (Failure C blanks value))) (read_rows C parts rows_value) _ (λ place fault has. omega (arith, has))
    (λ fault is. (parts, known, is))
    (λ arrows is fault fails.
    let same = one_value (read_parts C parts_value) fails.0 parts fails.1 known in
    no_fault (read_rows C parts rows_value) arrows fault is (subst (λ parts. read_rows C parts rows_value ≡ Err fault) same fails.2))
    (λ arrows between. order_read 3 (CellFault C blanks value) (only_place 4 (Failure C blanks value)) (read_cells C blanks parts cells_value) _ (λ place fault has. omega (arith, has.0))
    (λ fault is. (parts, known, is))
    (λ cells is fault fails.
    let same = one_value (read_parts C parts_value) fails.0 parts fails.1 known in
    no_fault (read_cells C blanks parts cells_value) cells fault is (subst (λ parts. read_cells C blanks parts cells_value ≡ Err fault) same fails.2))
    (λ cells of. failures_last C blanks value parts arrows cells known between of (with_equations C (rows_of parts arrows cells)) refl)))

-- an instance tells the fault of its first section that has one
pub instance_tells : InstanceTellsFirst
instance_tells C blanks value =
    let rest = λ (parts_value rows_value : Data). instance_of_sections C blanks parts_value rows_value (get (codes "cells") value) in
    order_keys (fault_of 2 Instance) (HasOtherKeys instance_keys (codes "parts" ∷ codes "rows" ∷ []) value) (InstanceSections C blanks value)
    (has_only instance_keys value) (get (codes "parts") value) (get (codes "rows") value) rest
    (λ other. inl other) (λ none. inr (inl none)) (λ none. inr (inr (inl none)))
    (both_there instance_keys (codes "parts") (codes "rows") value)
    (λ x y first second.
    subst (λ x. TellsInOrder (InstanceSections C blanks value) (rest x y)) (at_key (codes "parts") value x first)
    (subst (λ y. TellsInOrder (InstanceSections C blanks value) (rest (member_at (codes "parts") value) y)) (at_key (codes "rows") value y second) (instance_sections C blanks value)))
