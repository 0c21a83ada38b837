-- Small rules at matches that the definitions decide as the field does.
use Rattle.std.proofs.Common.{◌≡◌, true, false, [], ◌∷◌, refl}
use Rattle.rw_schema.specs.declared.signature.ArrowEnds.{ArrowEnds}
use Rattle.rw_schema.specs.Signature.{Signature}
use Rattle.rw_spec.specs.Homomorphism.{map_of}
use Rattle.rw_spec.specs.Instance.{Instance, instance_of}
use Rattle.rw_partial.specs.SinglePushout.{Applied}
use Rattle.rw_partial.proofs.SomePair.{largest_host, largest_right}

-- source and target of the edges, object 1, are vertices, object 0
abbrev edge_end : ArrowEnds
edge_end = record { source = record { 0 = 1 }; target = record { 0 = 0 } }

-- graphs
abbrev graphs : Signature
graphs = record { objects = 2; arrows = edge_end ∷ edge_end ∷ []; attributes = []; equations = [] }

-- one vertex
abbrev vertex : Instance
vertex = instance_of graphs (record { names = (0 ∷ []) ∷ [] ∷ []; arrows = [] ∷ [] ∷ []; cells = []; next = 1 ∷ 0 ∷ [] })

-- two vertices
abbrev vertices : Instance
vertices = instance_of graphs (record { names = (0 ∷ 1 ∷ []) ∷ [] ∷ []; arrows = [] ∷ [] ∷ []; cells = []; next = 2 ∷ 0 ∷ [] })

-- an edge from vertex 0 to vertex 1
abbrev edge : Instance
edge = instance_of graphs (record { names = (0 ∷ 1 ∷ []) ∷ (0 ∷ []) ∷ []; arrows = (0 ∷ []) ∷ (1 ∷ []) ∷ []; cells = []; next = 2 ∷ 1 ∷ [] })

-- two vertices are matched by vertex 0; the first of them is kept, and the second is deleted
abbrev kept_and_deleted : Applied
kept_and_deleted = record {
  left = vertices;
  keep = vertex;
  right = vertex;
  host = edge;
  l = map_of vertex ((0 ∷ []) ∷ [] ∷ []);
  r = map_of vertex ((0 ∷ []) ∷ [] ∷ []);
  m = map_of vertices ((0 ∷ 0 ∷ []) ∷ [] ∷ []);
  set = λ c y. false;
}

-- vertex 0 goes
vertex_goes : (largest_host graphs kept_and_deleted).part 0 0 ≡ false
vertex_goes = refl

-- and the edge from it goes along
edge_goes : (largest_host graphs kept_and_deleted).part 1 0 ≡ false
edge_goes = refl

-- vertex 1 stays
vertex_stays : (largest_host graphs kept_and_deleted).part 0 1 ≡ true
vertex_stays = refl

-- the right vertex goes, since its kept part went
right_goes : (largest_right graphs kept_and_deleted).part 0 0 ≡ false
right_goes = refl
