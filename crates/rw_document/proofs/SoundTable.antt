-- The table of a document that is read is over the schema.
use Rattle.std.proofs.Common.{◌≡◌, Bool, Option, Some, None, Result, Ok, Err, IfOk, codes, refl}
use Rattle.serde_json.specs.Data.{Data}
use Rattle.serde_json.specs.Find.{get}
use Rattle.rw_schema.specs.declared.section.Section.TheVariants.{Instance}
use Rattle.rw_schema.specs.RowLists.{RowLists}
use Rattle.rw_schema.specs.Signature.{Signature}
use Rattle.rw_spec.specs.Tabled.{Tabled}
use Rattle.rw_doc.specs.declared.end.ReadDocEnd.{ReadDocEnd}
use Rattle.rw_doc.specs.declared.fault.DocFault.{DocFault}
use Rattle.rw_doc.specs.Chain.{some_or, unfaulted}
use Rattle.rw_doc.specs.Faults.{fault_of}
use Rattle.rw_doc.specs.Gives.{Gives}
use Rattle.rw_doc.specs.Instances.{empty_instance, first_failure, instance_keys, read_cells, read_instance, read_parts, read_rows, rows_of}
use Rattle.rw_doc.specs.Json.{has_only}
use Rattle.rw_doc.proofs.Chains.{chain, checked_then}
use Rattle.rw_spec.specs.Instance.{instance_of}
use Rattle.rw_document.specs.Documents.{instance_or_none}

-- a table is over the signature
abbrev pub IsTableOver : Signature → Tabled → Type 0
IsTableOver C table = table.signature ≡ C

-- a table in which no equation fails is over the signature
unfaulted_over : (C : Signature) (rows : RowLists) (fault : Option DocFault) (table : Tabled)
    → unfaulted fault (record { signature = C; rows = rows }) ≡ Ok table → IsTableOver C table
unfaulted_over C rows None table is = let same : record { signature = C; rows = rows } ≡ table = cc in rw (← same) refl
unfaulted_over C rows (Some fault) table is = let never : ⊥ = cc in absurd never

-- so is an instance that is written
instance_over : (C : Signature) (blanks : Bool) (value : Data) (table : Tabled) → read_instance C blanks value ≡ Ok table → IsTableOver C table
instance_over C blanks value =
    checked_then (IsTableOver C) (fault_of 2 Instance) (has_only instance_keys value) _
    (λ keys. chain (IsTableOver C) (some_or (fault_of 2 Instance) (get (codes "parts") value)) _
    (λ parts_value there. chain (IsTableOver C) (some_or (fault_of 2 Instance) (get (codes "rows") value)) _
    (λ rows_value found. chain (IsTableOver C) (read_parts C parts_value) _
    (λ parts counts. chain (IsTableOver C) (read_rows C parts rows_value) _
    (λ arrows lists. chain (IsTableOver C) (read_cells C blanks parts (get (codes "cells") value)) _
    (λ cells are. unfaulted_over C (rows_of parts arrows cells) (first_failure C (instance_of C (rows_of parts arrows cells)))))))))

-- the instance that is read is over the signature
pub any_instance_over : (C : Signature) (blanks : Bool) (value : Option Data) (table : Tabled) → instance_or_none C blanks value ≡ Ok table → IsTableOver C table
any_instance_over C blanks None table is = let same : empty_instance C ≡ table = cc in rw (← same) refl
any_instance_over C blanks (Some value) table is = instance_over C blanks value table is

-- so is what a reading answers
pub result_over : (C : Signature) (blanks : Bool) (value : Option Data) (result : Result Tabled ReadDocEnd) → Gives (λ table. table) result (instance_or_none C blanks value)
    → IfOk result (IsTableOver C)
result_over C blanks value (Ok table) gives = any_instance_over C blanks value table gives
result_over C blanks value (Err end) gives = tt
