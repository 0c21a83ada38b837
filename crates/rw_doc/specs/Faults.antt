-- Faults of documents, each at its place.
use Rattle.std.specs.Prelude.{ℕ}
use Rattle.rw_schema.specs.declared.section.Section.{Section}
use Rattle.rw_doc.specs.declared.fault.DocFault.{DocFault}

-- the fault at a place of a section
abbrev pub fault_at : ℕ → Section → ℕ → ℕ → DocFault
fault_at code section first second = record { code = code; section = section; first = first; second = second; third = 0 }

-- the fault of a section's list or object itself
abbrev pub fault_of : ℕ → Section → DocFault
fault_of code section = fault_at code section 0 0
