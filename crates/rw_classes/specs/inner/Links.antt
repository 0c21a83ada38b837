-- The parents of a union-find: classes as trees, in which no parent is greater than its child and a root is its own parent.
use Rattle.std.specs.Prelude.{◌≡◌, ◌<◌, ◌≤◌, ℕ, List, length, slice_index}
use Rattle.rw_classes.specs.Classes.{Joins, AreNumbered}

-- no parent is greater than its child
abbrev pub Descends : List ℕ → Type 0
Descends parents = (x : ℕ) → x < length parents → slice_index parents x ≤ x

-- h does not tell a parent from its child
abbrev pub Follows : List ℕ → (ℕ → ℕ) → Type 0
Follows parents h = (x : ℕ) → x < length parents → h (slice_index parents x) ≡ h x

-- the trees have the same members and the same roots
pub record IsShortened (old new : List ℕ) : Type 0 where
  pub same : length new ≡ length old
  pub descends : Descends new
  pub onward : (h : ℕ → ℕ) → Follows old h → Follows new h
  pub back : (h : ℕ → ℕ) → Follows new h → Follows old h
  pub roots : (x : ℕ) → x < length old → slice_index old x ≡ x → slice_index new x ≡ x

-- root is the root of the tree that x is in
pub record IsRootOf (parents : List ℕ) (x root : ℕ) : Type 0 where
  pub within : root < length parents
  pub own : slice_index parents root ≡ root
  pub shared : (h : ℕ → ℕ) → Follows parents h → h root ≡ h x

-- the functions that follow the new parents are those that follow the old ones and join the pairs
pub record AreUnited (pairs : List (ℕ × ℕ)) (old new : List ℕ) : Type 0 where
  pub same : length new ≡ length old
  pub descends : Descends new
  pub onward : (h : ℕ → ℕ) → Follows old h → Joins pairs h → Follows new h
  pub back : (h : ℕ → ℕ) → Follows new h → Follows old h
  pub joins : (h : ℕ → ℕ) → Follows new h → Joins pairs h

-- the trees of the numbers below n are numbered in the order of their roots
pub record AreRootClasses (parents : List ℕ) (n : ℕ) (numbers firsts : List ℕ) : Type 0 where
  pub numbered : AreNumbered n numbers firsts
  pub few : length firsts ≤ n
  pub follows : (x : ℕ) → x < n → slice_index numbers (slice_index parents x) ≡ slice_index numbers x
  pub finest : (h : ℕ → ℕ) → Follows parents h → (x : ℕ) → x < n → h (slice_index firsts (slice_index numbers x)) ≡ h x
