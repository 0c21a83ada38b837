-- Tables of operations, each with a name and a code.
use Rattle.std.specs.Prelude.{◌≡◌, ℕ, Bool, true, false, List, [], ◌∷◌, ◌++◌, Result, Ok, Err, map}
use Rattle.std.specs.List.{list_any}
use Rattle.std.specs.Str.{bytes_eq}
use Rattle.rw_terms.specs.declared.code.OpCode.{OpCode}
use Rattle.rw_terms.specs.declared.fault.OpFault.{OpFault}
use Rattle.rw_terms.specs.declared.fault.OpFault.TheVariants.{Twice, OutOfMemory}

-- an operation as contracts see it
pub record OpEntry : Type 0 where
  pub name : List ℕ
  pub code : OpCode

-- an operation of the table has the name
abbrev pub is_named : List OpEntry → List ℕ → Bool
is_named ops name = list_any (λ (op : OpEntry). bytes_eq name op.name) ops

-- the codes of the operations, by their numbers
abbrev pub codes_of : List OpEntry → List OpCode
codes_of ops = map (λ (op : OpEntry). op.code) ops

-- what the adding of an operation does: it comes last, or it is refused and nothing changes
abbrev pub Adds : List OpEntry → List OpEntry → OpEntry → Result Unit OpFault → Type 0
Adds old new op (Ok done) = (is_named old op.name ≡ false) × (new ≡ old ++ op ∷ [])
Adds old new op (Err Twice) = (is_named old op.name ≡ true) × (new ≡ old)
Adds old new op (Err OutOfMemory) = new ≡ old
