-- The limits of schemas.
use Rattle.std.specs.Prelude.{ℕ}

-- the greatest number of objects
abbrev pub most_objects : ℕ
most_objects = 64

-- the greatest number of arrows
abbrev pub most_arrows : ℕ
most_arrows = 256

-- the greatest number of attributes
abbrev pub most_attributes : ℕ
most_attributes = 256

-- the greatest number of equations
abbrev pub most_equations : ℕ
most_equations = 256

-- the greatest number of bytes of a name
abbrev pub longest_name : ℕ
longest_name = 255

-- the greatest number of arrows of a path
abbrev pub longest_path : ℕ
longest_path = 32
