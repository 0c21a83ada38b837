-- A vertex with a loop is cloned: two vertices and four edges, in order.
use Rattle.std.proofs.Common.{◌≡◌, ℕ, zero, suc, List, [], ◌∷◌, None, refl}
use Rattle.rw_schema.specs.declared.ids.ObjectId.{ObjectId}
use Rattle.rw_schema.specs.Signature.{Signature}
use Rattle.rw_spec.specs.Instance.{Instance}
use Rattle.rw_spec.specs.Natural.{Map}
use Rattle.rw_spec.specs.Redex.{Redex}
use Rattle.rw_copies.specs.CopyLists.{named_parts, part_names}
use Rattle.rw_copies.specs.Made.{Kept, Copied, with_parts, with_hosts}

abbrev object : ℕ → ObjectId
object n = record { 0 = n }

abbrev graph : Signature
graph = record { objects = 2; arrows = record { source = object 1; target = object 0 } ∷ record { source = object 1; target = object 0 } ∷ []; attributes = []; equations = [] }

abbrev at : List ℕ → List ℕ → ℕ → List ℕ
at vertices edges zero = vertices
at vertices edges (suc n) = edges

abbrev instance : List ℕ → List ℕ → Instance
instance vertices edges = record { names = at vertices edges; value = λ a x. 0; cell = λ c x. None }

abbrev cloning : Redex
cloning = record { keep = instance (0 ∷ 1 ∷ []) []; left = instance (0 ∷ []) []; host = instance (0 ∷ []) (0 ∷ []); l = λ o z. 0; m = λ o x. 0 }

abbrev nothing : Instance
nothing = instance [] []

vertices : named_parts graph cloning nothing (λ o v. 0) 0 ≡ Kept 0 ∷ Kept 1 ∷ []
vertices = refl

vertex_names : part_names graph cloning nothing (λ o v. 0) 0 1 ≡ 0 ∷ 1 ∷ []
vertex_names = refl

abbrev cloned : Instance
cloned = with_parts graph cloning nothing (λ o z. 0) 0 (0 ∷ 1 ∷ []) (Kept 0 ∷ Kept 1 ∷ [])

abbrev hosts : Map
hosts = with_hosts cloning (λ o v. 0) 0 (0 ∷ 1 ∷ []) (Kept 0 ∷ Kept 1 ∷ [])

edges : named_parts graph cloning cloned hosts 1 ≡ Copied 0 (0 ∷ 0 ∷ []) ∷ Copied 0 (0 ∷ 1 ∷ []) ∷ Copied 0 (1 ∷ 0 ∷ []) ∷ Copied 0 (1 ∷ 1 ∷ []) ∷ []
edges = refl

edge_names : part_names graph cloning cloned hosts 1 1 ≡ 0 ∷ 1 ∷ 2 ∷ 3 ∷ []
edge_names = refl
