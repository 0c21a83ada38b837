-- When lists are a schema, and the first fault of those that are none: what proofs and functions inside the crate speak of.
use Rattle.std.specs.Prelude.{◌≡◌, ℕ, map, List, Some, None, Result, Ok, Err}
use Rattle.rw_schema.specs.declared.section.Section.{Section}
use Rattle.rw_schema.specs.declared.fault.SchemaFault.{SchemaFault}
use Rattle.rw_schema.specs.declared.fault.SchemaFault.TheVariants.{Limit, Twice, Unknown, Ends, OutOfMemory}
use Rattle.rw_schema.specs.SchemaFaults.{first_twice}

-- what an index of the items' names answers: the names in order, where each is there once
abbrev pub IndexesNames : {X : Type 0} → (X → List ℕ) → Section → List X → Result (List (List ℕ)) SchemaFault → Type 0
IndexesNames name section items (Ok names) = (names ≡ map name items) × (first_twice name section items ≡ None)
IndexesNames name section items (Err OutOfMemory) = Unit {0}
IndexesNames name section items (Err Limit) = ⊥
IndexesNames name section items (Err (Twice in_section index)) = first_twice name section items ≡ Some (Twice in_section index)
IndexesNames name section items (Err (Unknown in_section index)) = ⊥
IndexesNames name section items (Err (Ends equation)) = ⊥
