-- Orders of the objects in which arrows point backwards: what proofs and functions inside the crate speak of.
use Rattle.std.specs.Prelude.{◌≡◌, ◌==◌, ◌<◌, ◌&&◌, ◌||◌, ℕ, Bool, true, false, not, List, Option, Some, None}
use Rattle.std.specs.List.{list_any, list_all}
use Rattle.rw_schema.specs.declared.ids.ObjectId.{ObjectId}
use Rattle.rw_schema.specs.declared.parts.ArrowDef.{ArrowDef}

-- the object is among those placed
abbrev pub is_placed : List ObjectId → ℕ → Bool
is_placed placed object = list_any (λ (other : ObjectId). object == other.0) placed

-- the arrow does not leave the object, or it leads to a placed one
abbrev pub is_back : List ObjectId → ℕ → ArrowDef → Bool
is_back placed object arrow = not (object == arrow.source.0) || is_placed placed arrow.target.0

-- each arrow of the object leads to a placed one
abbrev pub is_ready : List ArrowDef → List ObjectId → ℕ → Bool
is_ready arrows placed object = list_all (is_back placed object) arrows

-- the object is not placed yet, and each of its arrows leads to a placed one
abbrev pub is_next : List ArrowDef → List ObjectId → ℕ → Bool
is_next arrows placed object = not (is_placed placed object) && is_ready arrows placed object

-- the least object that can be placed next, or nothing where there is none
abbrev pub IsNextOf : ℕ → List ArrowDef → List ObjectId → Option ObjectId → Type 0
IsNextOf objects arrows placed (Some object) =
    (object.0 < objects) × (is_next arrows placed object.0 ≡ true) × ((other : ℕ) → other < object.0 → is_next arrows placed other ≡ false)
IsNextOf objects arrows placed None = (object : ℕ) → object < objects → is_next arrows placed object ≡ false
