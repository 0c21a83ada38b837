-- What a reading answers, by its definition.
use Rattle.std.specs.Prelude.{◌≡◌, Result, Ok, Err}
use Rattle.rw_doc.specs.declared.end.ReadDocEnd.{ReadDocEnd}
use Rattle.rw_doc.specs.declared.end.ReadDocEnd.TheVariants.{Refused, OutOfMemory}
use Rattle.rw_doc.specs.declared.fault.DocFault.{DocFault}

-- the answer is what the definition gives, or its fault; want of memory may come at any value
abbrev pub Gives : {X Y : Type 0} → (X → Y) → Result X ReadDocEnd → Result Y DocFault → Type 0
Gives model (Ok x) reading = reading ≡ Ok (model x)
Gives model (Err (Refused fault)) reading = reading ≡ Err fault
Gives model (Err OutOfMemory) reading = Unit {0}
