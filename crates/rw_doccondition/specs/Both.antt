-- Two readings of one piece, of which the lesser code is told.
use Rattle.std.specs.Prelude.{nat_le, Result, Ok, Err, if◌then◌else◌}
use Rattle.rw_doc.specs.declared.end.ReadDocEnd.{ReadDocEnd}
use Rattle.rw_doc.specs.declared.end.ReadDocEnd.TheVariants.{Refused, OutOfMemory}
use Rattle.rw_doc.specs.declared.fault.DocFault.{DocFault}

-- what both read, or the fault; where both have one, that with the lesser code
abbrev pub both : {A B : Type 0} → Result A DocFault → Result B DocFault → Result (A × B) DocFault
both (Ok x) (Ok y) = Ok (x, y)
both (Ok x) (Err other) = Err other
both (Err fault) (Ok y) = Err fault
both (Err fault) (Err other) = if nat_le fault.code other.code then Err fault else Err other

-- want of memory, or the fault with the lesser code
abbrev pub lesser : ReadDocEnd → ReadDocEnd → ReadDocEnd
lesser OutOfMemory other = OutOfMemory
lesser (Refused fault) OutOfMemory = OutOfMemory
lesser (Refused fault) (Refused other) = if nat_le fault.code other.code then Refused fault else Refused other

-- what both give, or their ends
abbrev pub both_ends : {A B : Type 0} → Result A ReadDocEnd → Result B ReadDocEnd → Result (A × B) ReadDocEnd
both_ends (Ok x) (Ok y) = Ok (x, y)
both_ends (Ok x) (Err other) = Err other
both_ends (Err end) (Ok y) = Err end
both_ends (Err end) (Err other) = Err (lesser end other)
