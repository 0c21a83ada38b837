-- The objects at the ends of a signature's arrows.
use Rattle.std.specs.Prelude.{ℕ, map, slice_index}
use Rattle.rw_schema.specs.Signature.{Signature}

-- the object that an arrow enters
abbrev pub target_of : Signature → ℕ → ℕ
target_of C arrow = slice_index (map (λ ends. ends.target.0) C.arrows) arrow
