-- Readings that end without a value.
use Rattle.std.proofs.Common.{◌≡◌, Result, Ok, Err, refl}
use Rattle.rw_doc.specs.declared.end.ReadDocEnd.{ReadDocEnd}
use Rattle.rw_doc.specs.declared.end.ReadDocEnd.TheVariants.{Refused, OutOfMemory}
use Rattle.rw_doc.specs.declared.fault.DocFault.{DocFault}
use Rattle.rw_doc.specs.Chain.{and_then}
use Rattle.rw_doc.specs.Gives.{Gives}

-- where the first of two readings ends without a value, so do both
pub ends_first : {X Y A B : Type 0} (first : X → A) (both : Y → B) (end : ReadDocEnd) (reading : Result A DocFault) (later : A → Result B DocFault)
    → Gives first (Err end) reading → Gives both (Err end) (and_then reading later)
ends_first first both (Refused fault) reading later gives = rw gives refl
ends_first first both OutOfMemory reading later gives = tt
