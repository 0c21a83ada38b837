-- The classes of the parts of two instances in lists, object by object.
use Rattle.std.specs.Prelude.{◌≡◌, ◌<◌, ◌≤◌, ◌+◌, ◌^◌, ℕ, true, List, All, map, length, slice_index}
use Rattle.rw_schema.specs.First.{map_in}
use Rattle.rw_schema.specs.RowLists.{RowLists, list_at}
use Rattle.rw_spec.specs.Ascending.{ascends}
use Rattle.rw_classes.specs.Classes.{AreClasses}
use Rattle.rw_classes.specs.Places.{spot}
use Rattle.rw_classes.specs.declared.classes.Classes.{Classes}

-- of each two images the places among the names of both sides, left ones counted first
abbrev pub joined : List ℕ → List ℕ → List ℕ → List ℕ → List (ℕ × ℕ)
joined left right xs ys = map_in (λ k x. (spot left x, length left + spot right (slice_index ys k))) 0 xs

-- the number of parts of an object on both sides
abbrev pub part_count : RowLists → RowLists → ℕ → ℕ
part_count left right object = length (list_at left.names object) + length (list_at right.names object)

-- what two lists of images join at an object
abbrev pub joined_by : RowLists → RowLists → List (List ℕ) → List (List ℕ) → ℕ → List (ℕ × ℕ)
joined_by left right f g object = joined (list_at left.names object) (list_at right.names object) (list_at f object) (list_at g object)

-- the places of the images at each object are among those of the names of both sides, which ascend
pub record AreJoinable (objects : ℕ) (left right : RowLists) (f g : List (List ℕ)) : Type 0 where
  pub left_lists : objects ≤ length left.names
  pub right_lists : objects ≤ length right.names
  pub left_images : objects ≤ length f
  pub right_images : objects ≤ length g
  pub left_ascend : (object : ℕ) → object < objects → ascends (list_at left.names object) ≡ true
  pub right_ascend : (object : ℕ) → object < objects → ascends (list_at right.names object) ≡ true
  pub paired : (object : ℕ) → object < objects → length (list_at g object) ≡ length (list_at f object)
  pub few : (object : ℕ) → object < objects → part_count left right object < 2 ^ 32
  pub within : (object : ℕ) → object < objects
      → All (λ pair. (pair.0 < part_count left right object) × (pair.1 < part_count left right object)) (joined_by left right f g object)

-- of each object the class of each part
abbrev pub number_lists : List Classes → List (List ℕ)
number_lists classes = map (λ each. each.numbers.items) classes

-- of each object the first part of each class
abbrev pub first_lists : List Classes → List (List ℕ)
first_lists classes = map (λ each. each.firsts.items) classes

-- the parts of both sides of each object are divided into classes by what the images join
abbrev pub AreClassesBy : ℕ → RowLists → RowLists → List (List ℕ) → List (List ℕ) → List (List ℕ) → List (List ℕ) → Type 0
AreClassesBy objects left right f g numbers firsts = (object : ℕ) → object < objects
    → AreClasses (part_count left right object) (joined_by left right f g object) (list_at numbers object) (list_at firsts object)
