-- How a column keeps its links: in two lists by place and two lists by number.
use Rattle.std.specs.Prelude.{◌≡◌, ◌≢◌, ◌==◌, ◌<◌, ◌≤◌, ◌-◌, ℕ, List, length, slice_index, if◌then◌else◌}
use Rattle.rw_column.specs.Threads.{nothing}
use Rattle.rw_column.specs.inner.Links.{AreLinks}

-- where a node of the number leads to: node 0 to the number's first place, the node of a place to the next one
abbrev pub after : List ℕ → List ℕ → ℕ → ℕ → ℕ
after next first value node = if node == 0 then slice_index first value else slice_index next (node - 1)

-- the node that leads to a stop of the number: at the end it is the node of its last place
abbrev pub before : List ℕ → List ℕ → ℕ → ℕ → ℕ
before previous last value stop = if stop == nothing then slice_index last value else slice_index previous stop

-- the lists of a column fit one another, and link the places of each number in ascending order
pub record IsThreaded (values next previous first last : List ℕ) : Type 0 where
  pub few : length values ≤ nothing
  pub few_targets : length first ≤ nothing
  pub nexts : length next ≡ length values
  pub previouses : length previous ≡ length values
  pub lasts : length last ≡ length first
  pub within : (place : ℕ) → place < length values → slice_index values place ≢ nothing → slice_index values place < length first
  pub links : AreLinks (length values) (length first) (slice_index values) (after next first) (before previous last)
