-- Graphs: instances of a schema with vertices, edges, and a source and a target of each edge.
use Rattle.std.specs.Prelude.{ℕ, List, [], ◌∷◌, map, length}
use Rattle.std.specs.List.{range_with_len}
use Rattle.rw_schema.specs.declared.signature.ArrowEnds.{ArrowEnds}
use Rattle.rw_schema.specs.RowLists.{RowLists}
use Rattle.rw_schema.specs.Signature.{Signature}

-- the object of the vertices
abbrev pub vertex : ℕ
vertex = 0

-- the object of the edges
abbrev pub edge : ℕ
edge = 1

-- the arrow from each edge to the vertex that it leaves
abbrev pub source : ℕ
source = 0

-- the arrow from each edge to the vertex that it enters
abbrev pub target : ℕ
target = 1

-- an arrow from the edges to the vertices
abbrev pub edge_to_vertex : ArrowEnds
edge_to_vertex = record { source = record { 0 = edge }; target = record { 0 = vertex } }

-- the schema of graphs, names apart
abbrev pub graphs : Signature
graphs = record { objects = 2; arrows = edge_to_vertex ∷ edge_to_vertex ∷ []; attributes = []; equations = [] }

-- the lists of the graph with so many vertices, and an edge for each pair, from the first to the second
abbrev pub graph_lists : ℕ → List (ℕ × ℕ) → RowLists
graph_lists vertices edges = record {
  names = range_with_len 0 vertices ∷ range_with_len 0 (length edges) ∷ [];
  arrows = map (λ ends. ends.0) edges ∷ map (λ ends. ends.1) edges ∷ [];
  cells = [];
  next = vertices ∷ length edges ∷ [];
}
