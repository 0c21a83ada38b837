-- The maps between the patterns of a rule, or their first faults.
use Rattle.std.specs.Prelude.{◌==◌, ℕ, length, List, option_map, Result}
use Rattle.serde_json.specs.Data.{Data}
use Rattle.rw_schema.specs.Signature.{Signature}
use Rattle.rw_pattern.specs.declared.map_fault.MapFault.{MapFault}
use Rattle.rw_pattern.specs.declared.map_fault.MapFault.TheVariants.{Shape, Range, NotNatural}
use Rattle.rw_pattern.specs.MapFaults.{map_fault}
use Rattle.rw_pattern.specs.PatternLists.{PatternLists}
use Rattle.rw_doc.specs.declared.fault.DocFault.{DocFault}
use Rattle.rw_doc.specs.Chain.{and_then, some_or, checked, unfaulted}
use Rattle.rw_doc.specs.declared.piece.Piece.{Piece}
use Rattle.rw_doc.specs.Numbers.{as_number_lists}
use Rattle.rw_doc.specs.Pieces.{fault_in}

-- the code of what is wrong with a map
abbrev pub code_of : MapFault → ℕ
code_of Shape = 2
code_of (Range image part) = 8
code_of (NotNatural arrow part) = 11

-- one list of images for each object, which are a map of patterns: codes 2, 8 and 11
abbrev pub read_map : Signature → Piece → PatternLists → PatternLists → Data → Result (List (List ℕ)) DocFault
read_map C piece from to value = and_then (some_or (fault_in piece 2) (as_number_lists value)) (λ images.
    checked (fault_in piece 2) (length images == C.objects)
    (unfaulted (option_map (λ fault. fault_in piece (code_of fault)) (map_fault C from to images)) images))
