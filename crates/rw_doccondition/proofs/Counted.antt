-- Entries give numbers to no more variables than they are.
use Rattle.std.proofs.Common.{◌+◌, ◌≤◌, ℕ, Option, Some, None, List, [], ◌∷◌, length, length-append, arith}
use Rattle.rw_schema.specs.declared.atom.Kind.{Kind}
use Rattle.rw_schema.specs.declared.parts.AttrDef.{AttrDef}
use Rattle.rw_docpattern.specs.declared.entry.Entry.{Entry}
use Rattle.rw_docpattern.specs.Numbering.{new_name}
use Rattle.rw_docpattern.specs.Variables.{kind_at, variable_name}
use Rattle.rw_doccondition.specs.Variables.{Known, known_after, known_with}

-- one entry adds one variable at most
one_more : (known : Known) (kind : Kind) (name : Option (List ℕ)) → length (known_with known kind name).names ≤ length known.names + 1
one_more known kind None = omega arith
one_more known kind (Some name) = omega (arith, length-append known.names (name ∷ []))

-- and so many as many at most
pub few_more : (attributes : List AttrDef) (known : Known) (entries : List Entry) → length (known_after attributes known entries).names ≤ length known.names + length entries
few_more attributes known [] = omega arith
few_more attributes known (entry ∷ entries) =
    let next : Known = known_with known (kind_at attributes entry) (new_name known.names (variable_name entry.term)) in
    omega (arith, few_more attributes next entries, one_more known (kind_at attributes entry) (new_name known.names (variable_name entry.term)))
