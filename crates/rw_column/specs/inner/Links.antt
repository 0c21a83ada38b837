-- Links among the places of a column. How they are kept is left open: `number` gives the number at each of
-- `count` places, `after` says where a node leads to, and `before` which node leads there.
--
-- A node is what a place may follow: node 0 stands before all places, and node x + 1 is the place x. So 'the first
-- place of a number' is the place that follows its node 0, and is not a case of its own. What a node leads to is a
-- stop: a place, or `nothing` at the end.
use Rattle.std.specs.Prelude.{◌≡◌, ◌≢◌, ◌<◌, ◌≤◌, ◌+◌, ℕ}
use Rattle.rw_column.specs.Threads.{nothing}

-- node 0, or the node of a place that has the number
abbrev pub IsNode : ℕ → (ℕ → ℕ) → ℕ → ℕ → Type 0
IsNode count number value node = (place : ℕ) → node ≡ place + 1 → (place < count) × (number place ≡ value)

-- nothing, or a place that has the number
abbrev pub IsStop : ℕ → (ℕ → ℕ) → ℕ → ℕ → Type 0
IsStop count number value stop = stop ≢ nothing → (stop < count) × (number stop ≡ value)

-- the least place from one on that has the number, or nothing where none has; from a node on it is the place behind it
pub record IsFirstFrom (count : ℕ) (number : ℕ → ℕ) (value from stop : ℕ) : Type 0 where
  pub least : (place : ℕ) → from ≤ place → place < count → number place ≡ value → stop ≤ place
  pub there : stop ≢ nothing → (from ≤ stop) × (stop < count) × (number stop ≡ value)

-- the place stands before the stop that the node leads to
pub record IsAhead (count : ℕ) (number : ℕ → ℕ) (value place node stop : ℕ) : Type 0 where
  pub is_node : IsNode count number value node
  pub leads : IsFirstFrom count number value node stop
  pub ahead : place < stop

-- the place stands between the node and the stop that it leads to
pub record IsGap (count : ℕ) (number : ℕ → ℕ) (value place node stop : ℕ) : Type 0 where
  pub is_ahead : IsAhead count number value place node stop
  pub behind : node ≤ place

-- for each number below `targets`, each node leads to the first place behind it that has its number, and each stop knows the node that leads to it
pub record AreLinks (count targets : ℕ) (number : ℕ → ℕ) (after before : ℕ → ℕ → ℕ) : Type 0 where
  pub leads : (value node : ℕ) → value < targets → IsNode count number value node → IsFirstFrom count number value node (after value node)
  pub back : (value stop : ℕ) → value < targets → IsStop count number value stop
      → IsNode count number value (before value stop) × (after value (before value stop) ≡ stop)

-- the node of the number is led to the stop, and no other node is led elsewhere
pub record IsLed (old new : ℕ → ℕ → ℕ) (value node stop : ℕ) : Type 0 where
  pub here : new value node ≡ stop
  pub others : (other place : ℕ) → place ≢ node → new other place ≡ old other place
  pub heads : (other : ℕ) → other ≢ value → new other 0 ≡ old other 0

-- the stop of the number knows the node as the one that leads to it, and no other stop another than before
pub record IsBacked (old new : ℕ → ℕ → ℕ) (value stop node : ℕ) : Type 0 where
  pub here : new value stop ≡ node
  pub others : (other place : ℕ) → place ≢ stop → new other place ≡ old other place
  pub tails : (other : ℕ) → other ≢ value → new other nothing ≡ old other nothing
