-- The classes of numbers under the least equivalence that joins given pairs.
use Rattle.std.specs.Prelude.{◌≡◌, ◌<◌, ◌≤◌, ℕ, List, length, slice_index, All}

-- h does not tell the two numbers of a pair apart
abbrev pub Joins : List (ℕ × ℕ) → (ℕ → ℕ) → Type 0
Joins pairs h = All (λ pair. h pair.0 ≡ h pair.1) pairs

-- the numbers below n are divided into classes, which are numbered in the order of their least members; of each number
-- its class, and of each class its least member
pub record AreNumbered (n : ℕ) (numbers firsts : List ℕ) : Type 0 where
  pub each : length numbers ≡ n
  pub within : (x : ℕ) → x < n → slice_index numbers x < length firsts
  pub least : (x : ℕ) → x < n → slice_index firsts (slice_index numbers x) ≤ x
  pub found : (k : ℕ) → k < length firsts → slice_index numbers (slice_index firsts k) ≡ k
  pub below : (k : ℕ) → k < length firsts → slice_index firsts k < n
  pub ascend : (i k : ℕ) → i < k → k < length firsts → slice_index firsts i < slice_index firsts k

-- the classes of the least equivalence that joins the pairs: it joins them, and each function that does not tell them apart
-- is constant on each class
pub record AreClasses (n : ℕ) (pairs : List (ℕ × ℕ)) (numbers firsts : List ℕ) : Type 0 where
  pub numbered : AreNumbered n numbers firsts
  pub joins : Joins pairs (slice_index numbers)
  pub finest : (h : ℕ → ℕ) → Joins pairs h → (x : ℕ) → x < n → h (slice_index firsts (slice_index numbers x)) ≡ h x
