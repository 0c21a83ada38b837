-- The operations that each document can name.
use Rattle.std.specs.Prelude.{List, [], ◌∷◌, codes}
use Rattle.rw_terms.specs.declared.code.OpCode.TheVariants.{Add, Sub, Mul, Div, Rem, Min, Max, Less}
use Rattle.rw_terms.specs.OpTables.{OpEntry}

-- the eight operations, each under its usual name
abbrev pub usual_operations : List OpEntry
usual_operations =
    record { name = codes "add"; code = Add } ∷ record { name = codes "sub"; code = Sub } ∷ record { name = codes "mul"; code = Mul }
    ∷ record { name = codes "div"; code = Div } ∷ record { name = codes "rem"; code = Rem } ∷ record { name = codes "min"; code = Min }
    ∷ record { name = codes "max"; code = Max } ∷ record { name = codes "less"; code = Less } ∷ []
