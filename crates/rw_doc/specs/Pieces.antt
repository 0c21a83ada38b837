-- The pieces of a rule, a watch, a span or a cospan: each is one place of a document, and within it the least code comes first.
use Rattle.std.specs.Prelude.{ℕ}
use Rattle.rw_doc.specs.declared.fault.DocFault.{DocFault}
use Rattle.rw_doc.specs.Faults.{fault_at}
use Rattle.rw_doc.specs.declared.piece.Piece.{Piece}

-- the fault of a piece
abbrev pub fault_in : Piece → ℕ → DocFault
fault_in piece code = fault_at code piece.section piece.first piece.second
