-- A document has exactly one run.
use Rattle.std.specs.Prelude.{◌≡◌, ℕ, List}
use Rattle.rw_document.specs.Models.{DocumentLists}
use Rattle.rw_app.specs.Runs.{Run, IsRun}
use Rattle.rw_terms.specs.declared.code.OpCode.{OpCode}

-- any two runs of the document with so much fuel are the same
abbrev pub AreOneRun : List OpCode → DocumentLists → ℕ → Type 0
AreOneRun codes document fuel = (one other : Run) → IsRun codes document fuel one → IsRun codes document fuel other → one ≡ other

-- there is a run of the document with so much fuel, and it is the only one
abbrev pub HasOneRun : List OpCode → DocumentLists → ℕ → Type 0
HasOneRun codes document fuel = ((run : Run) × IsRun codes document fuel run) × AreOneRun codes document fuel
