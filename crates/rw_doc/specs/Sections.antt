-- The sections of a schema and of an instance, behind the object's own keys.
use Rattle.std.specs.Prelude.{Bool, Option, Result, Ok}
use Rattle.serde_json.specs.Data.{Data}
use Rattle.rw_schema.specs.Presentation.{Presentation}
use Rattle.rw_schema.specs.Signature.{Signature}
use Rattle.rw_spec.specs.Tabled.{Tabled}
use Rattle.rw_doc.specs.declared.fault.DocFault.{DocFault}
use Rattle.rw_doc.specs.Chain.{and_then}
use Rattle.rw_doc.specs.Instances.{read_parts, read_rows, read_cells, rows_of, with_equations}
use Rattle.rw_doc.specs.Schemas.{read_objects, read_arrows, read_attributes, read_equations}

-- the schema of the sections with these values
abbrev pub schema_of_sections : Data → Data → Option Data → Option Data → Result Presentation DocFault
schema_of_sections objects_value arrows_value attributes_value equations_value =
    and_then (read_objects objects_value) (λ objects.
    and_then (read_arrows objects arrows_value) (λ arrows.
    and_then (read_attributes objects attributes_value) (λ attributes.
    and_then (read_equations objects arrows equations_value) (λ equations.
    Ok (record { objects = objects; arrows = arrows; attributes = attributes; equations = equations })))))

-- the instance of the sections with these values
abbrev pub instance_of_sections : Signature → Bool → Data → Data → Option Data → Result Tabled DocFault
instance_of_sections C blanks parts_value rows_value cells_value =
    and_then (read_parts C parts_value) (λ parts.
    and_then (read_rows C parts rows_value) (λ arrows.
    and_then (read_cells C blanks parts cells_value) (λ cells.
    with_equations C (rows_of parts arrows cells))))
