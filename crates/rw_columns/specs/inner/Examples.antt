-- Changes that are worked out by hand.
use Rattle.std.specs.Prelude.{[], ◌∷◌, None}
use Rattle.rw_columns.specs.Changes.{ChangeLists}

-- of a graph with three vertices, object 0, and three edges, object 1, edge 0 goes
abbrev pub without_first : ChangeLists
without_first = record {
  removed = [] ∷ (0 ∷ []) ∷ [];
  added = record { names = [] ∷ [] ∷ []; arrows = [] ∷ [] ∷ []; cells = []; next = 3 ∷ 3 ∷ [] };
  rows = [] ∷ [] ∷ [];
  cells = [];
}

-- vertex 3 comes, without a weight, and edge 3 from it to vertex 0; edge 2 now leads to vertex 3, and vertex 1 loses its weight
abbrev pub with_more : ChangeLists
with_more = record {
  removed = [] ∷ [] ∷ [];
  added = record { names = (3 ∷ []) ∷ (3 ∷ []) ∷ []; arrows = (3 ∷ []) ∷ (0 ∷ []) ∷ []; cells = (None ∷ []) ∷ []; next = 4 ∷ 4 ∷ [] };
  rows = [] ∷ ((2, 3) ∷ []) ∷ [];
  cells = ((1, None) ∷ []) ∷ [];
}
