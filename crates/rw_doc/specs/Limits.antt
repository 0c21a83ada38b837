-- The limits of instances.
use Rattle.std.specs.Prelude.{ℕ}

-- the greatest number of parts of an object
abbrev pub most_parts : ℕ
most_parts = 1000000

-- the greatest number of bytes of a text
abbrev pub longest_text : ℕ
longest_text = 65535
