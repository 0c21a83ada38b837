-- What tells of a clash of classes.
use Rattle.std.specs.Prelude.{◌≡◌, ℕ, slice_index, List, Option, Some}
use Rattle.rw_schema.specs.declared.atom.Atom.{Atom}
use Rattle.rw_classes.specs.declared.clashes.ClashAt.{ClashAt}
use Rattle.rw_glue.specs.declared.end.GlueEnd.{GlueEnd}
use Rattle.rw_glue.specs.declared.end.GlueEnd.TheVariants.{Clash, OutOfMemory, TooLarge}

-- the end tells of the clash, where the classes of its object have these names
abbrev pub IsClashEnd : ClashAt → (ℕ → Option Atom) → List ℕ → GlueEnd → Type 0
IsClashEnd clash cell names (Clash object name attr first second) =
    (object ≡ clash.object) × (name ≡ slice_index names clash.difference.class) × (attr ≡ clash.attr)
    × (cell clash.difference.first ≡ Some first) × (cell clash.difference.second ≡ Some second)
IsClashEnd clash cell names (TooLarge object) = ⊥
IsClashEnd clash cell names OutOfMemory = ⊥
