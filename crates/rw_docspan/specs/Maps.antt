-- The maps of a span or a cospan, or the least code of what is wrong with one.
use Rattle.std.specs.Prelude.{◌==◌, ℕ, length, List, option_map, Result}
use Rattle.serde_json.specs.Data.{Data}
use Rattle.rw_schema.specs.Signature.{Signature}
use Rattle.rw_spec.specs.Tabled.{Tabled, instance_of_table}
use Rattle.rw_map.specs.declared.fault.HomFault.{HomFault}
use Rattle.rw_map.specs.declared.fault.HomFault.TheVariants.{Shape, Range, NotNatural, Cell}
use Rattle.rw_map.specs.HomFaults.{hom_fault}
use Rattle.rw_doc.specs.declared.fault.DocFault.{DocFault}
use Rattle.rw_doc.specs.Chain.{and_then, some_or, checked, unfaulted}
use Rattle.rw_doc.specs.declared.piece.Piece.{Piece}
use Rattle.rw_doc.specs.Numbers.{as_number_lists}
use Rattle.rw_doc.specs.Pieces.{fault_in}

-- the code of what is wrong with a map
abbrev pub code_of : HomFault → ℕ
code_of (Shape object) = 2
code_of (Range object position) = 8
code_of (NotNatural arrow part) = 11
code_of (Cell attr part) = 11

-- one list of images for each object, which are a homomorphism: codes 2, 8 and 11
abbrev pub read_map : Signature → Piece → Tabled → Tabled → Data → Result (List (List ℕ)) DocFault
read_map C piece from to value = and_then (some_or (fault_in piece 2) (as_number_lists value)) (λ images.
    checked (fault_in piece 2) (length images == C.objects)
    (unfaulted (option_map (λ fault. fault_in piece (code_of fault)) (hom_fault C (instance_of_table from) (instance_of_table to) images)) images))
