-- Documents and rules, and what they say.
use Rattle.std.proofs.Common.{◌≡◌, ℕ, pos, Bool, true, false, Some, None, Ok, Err, List, [], ◌∷◌, codes, refl}
use Rattle.serde_json.specs.Data.{Data, null, number, unsigned, string, array, object, no_members, member}
use Rattle.serde_json.specs.View.{items_of}
use Rattle.rw_schema.specs.declared.atom.Atom.TheVariants as atoms
use Rattle.rw_schema.specs.declared.atom.Kind.TheVariants as kinds
use Rattle.rw_schema.specs.declared.section.Section.TheVariants.{Cells, Whole, Rules, Watches}
use Rattle.rw_schema.specs.Presentation.{Presentation, signature_of}
use Rattle.rw_schema.specs.RowLists.{RowLists}
use Rattle.rw_pattern.specs.PatternLists.{PatternLists, holders_in}
use Rattle.rw_rule.specs.declared.kind.RuleKind.TheVariants.{Dpo}
use Rattle.rw_rule.specs.RuleLists.{RuleLists}
use Rattle.rw_doc.specs.Faults.{fault_at, fault_of}
use Rattle.rw_docrule.specs.Built.{not_built}
use Rattle.rw_document.specs.Documents.{read_value}
use Rattle.rw_document.specs.Models.{DocumentLists}
use Rattle.rw_docrule.specs.Rules.{read_rule, read_rules}

abbrev list : List Data → Data
list values = array (items_of values)

abbrev count : ℕ → Data
count n = number (unsigned n)

-- vertices and edges with a source and a target
abbrev graphs : Data
graphs = object (member (codes "arrows") (list (
    list (string (codes "src") ∷ string (codes "E") ∷ string (codes "V") ∷ [])
    ∷ list (string (codes "tgt") ∷ string (codes "E") ∷ string (codes "V") ∷ []) ∷ []))
    (member (codes "objects") (list (string (codes "V") ∷ string (codes "E") ∷ [])) no_members))

-- two vertices and an edge, from the first to the second or from the second to the first
abbrev edge : ℕ → ℕ → Data
edge source target = object (member (codes "parts") (list (count 2 ∷ count 1 ∷ []))
    (member (codes "rows") (list (list (count source ∷ []) ∷ list (count target ∷ []) ∷ [])) no_members))

-- so many vertices, without an edge
abbrev vertices : ℕ → Data
vertices n = object (member (codes "parts") (list (count n ∷ count 0 ∷ [])) (member (codes "rows") (list (list [] ∷ list [] ∷ [])) no_members))

-- so many vertices are matched, and removed, by a rule of this kind; the vertices are monic where they are listed
abbrev removal : List ℕ → ℕ → List Data → Data
removal kind n listed = object (member (codes "keep") (vertices 0) (member (codes "kind") (string kind)
    (member (codes "l") (list (list [] ∷ list [] ∷ [])) (member (codes "left") (vertices n) (member (codes "monic") (list listed)
    (member (codes "name") (string (codes "remove")) (member (codes "r") (list (list [] ∷ list [] ∷ [])) (member (codes "right") (vertices 0) no_members))))))))

-- a graph with an edge from its second vertex to its first, with some rules, and one watch with a name
abbrev document : ℕ → List Data → List ℕ → Data
document format rules name = object (member (codes "format") (count format) (member (codes "instance") (edge 1 0) (member (codes "rules") (list rules)
    (member (codes "schema") graphs
    (member (codes "watches") (list (object (member (codes "name") (string name) (member (codes "pattern") (edge 0 1) no_members)) ∷ [])) no_members)))))

abbrev graph_schema : Presentation
graph_schema = record {
  objects = codes "V" ∷ codes "E" ∷ [];
  arrows = record { name = codes "src"; source = record { 0 = 1 }; target = record { 0 = 0 } }
      ∷ record { name = codes "tgt"; source = record { 0 = 1 }; target = record { 0 = 0 } } ∷ [];
  attributes = [];
  equations = [];
}

abbrev graph_rows : RowLists
graph_rows = record {
  names = (0 ∷ 1 ∷ []) ∷ (0 ∷ []) ∷ [];
  arrows = (1 ∷ []) ∷ (0 ∷ []) ∷ [];
  cells = [];
  next = 2 ∷ 1 ∷ [];
}

-- a pattern of graphs, which have no attributes
abbrev graph_pattern : List ℕ → List (List ℕ) → PatternLists
graph_pattern sizes rows = record { sizes = sizes; rows = rows; cells = []; holders = holders_in (signature_of graph_schema) }

abbrev graph_lists : List RuleLists → DocumentLists
graph_lists rules = record {
  schema = graph_schema;
  table = record { signature = signature_of graph_schema; rows = graph_rows };
  rules = rules;
  watches = record {
    name = codes "edge";
    goal = record { left = graph_pattern (2 ∷ 1 ∷ []) ((0 ∷ []) ∷ (1 ∷ []) ∷ []); monic = false ∷ false ∷ []; conditions = []; kinds = [] };
  } ∷ [];
  span = None;
  cospan = None;
}

-- so many vertices, as lists
abbrev vertex_lists : ℕ → PatternLists
vertex_lists n = graph_pattern (n ∷ 0 ∷ []) ([] ∷ [] ∷ [])

abbrev removal_lists : ℕ → Bool → RuleLists
removal_lists n monic = record {
  name = codes "remove";
  kind = Dpo;
  goal = record { left = vertex_lists n; monic = monic ∷ false ∷ []; conditions = []; kinds = [] };
  keep = vertex_lists 0;
  right = vertex_lists 0;
  sets = [];
  l = [] ∷ [] ∷ [];
  r = [] ∷ [] ∷ [];
}

-- the graph is read as it is written
reads_a_graph : read_value [] (document 1 [] (codes "edge")) ≡ Ok (graph_lists [])
reads_a_graph = refl

-- in format 2 it is the same
reads_format_2 : read_value [] (document 2 [] (codes "edge")) ≡ Ok (graph_lists [])
reads_format_2 = refl

-- another format is not read
refuses_format_3 : read_value [] (document 3 [] (codes "edge")) ≡ Err (fault_of 3 Whole)
refuses_format_3 = refl

-- two points with a number, of which the first is not known
abbrev numbered : ℕ → Data
numbered format = object (member (codes "format") (count format)
    (member (codes "instance") (object (member (codes "cells") (list (list (null ∷ count 3 ∷ []) ∷ []))
    (member (codes "parts") (list (count 2 ∷ [])) (member (codes "rows") (list []) no_members))))
    (member (codes "schema") (object (member (codes "arrows") (list [])
    (member (codes "attributes") (list (list (string (codes "w") ∷ string (codes "P") ∷ string (codes "int") ∷ []) ∷ []))
    (member (codes "objects") (list (string (codes "P") ∷ [])) no_members)))) no_members)))

abbrev point_schema : Presentation
point_schema = record { objects = codes "P" ∷ []; arrows = []; attributes = record { name = codes "w"; object = record { 0 = 0 }; kind = kinds.Int } ∷ []; equations = [] }

abbrev numbered_lists : DocumentLists
numbered_lists = record {
  schema = point_schema;
  table = record {
    signature = signature_of point_schema;
    rows = record { names = (0 ∷ 1 ∷ []) ∷ []; arrows = []; cells = (None ∷ Some (atoms.Int (pos 3)) ∷ []) ∷ []; next = 2 ∷ [] };
  };
  rules = [];
  watches = [];
  span = None;
  cospan = None;
}

-- in format 1 a cell may not be blank
refuses_a_blank : read_value [] (numbered 1) ≡ Err (fault_at 9 Cells 0 0)
refuses_a_blank = refl

-- in format 2 it may
reads_a_blank : read_value [] (numbered 2) ≡ Ok numbered_lists
reads_a_blank = refl

-- the rule that removes two different vertices is read as it is written
reads_a_rule : read_rule graph_schema [] [] (removal (codes "dpo") 2 (string (codes "V") ∷ [])) ≡ Ok (record { rule = removal_lists 2 true; has_conditions = false })
reads_a_rule = refl

-- the second rule may not have the name of the first
refuses_a_name_twice : read_rules graph_schema [] (Some (list (removal (codes "dpo") 1 [] ∷ removal (codes "dpo") 1 [] ∷ []))) ≡ Err (fault_at 5 Rules 1 0)
refuses_a_name_twice = refl

-- so is one in a document that may match one vertex twice
reads_two_vertices : read_value [] (document 1 (removal (codes "dpo") 2 [] ∷ []) (codes "edge")) ≡ Ok (graph_lists (removal_lists 2 false ∷ []))
reads_two_vertices = refl

-- steps of a rule of another kind are not built
refuses_another_kind : read_value [] (document 1 (removal (codes "spo") 1 [] ∷ []) (codes "edge")) ≡ Err not_built
refuses_another_kind = refl

-- a fault of a watch comes before
refuses_the_watch_first : read_value [] (document 1 (removal (codes "spo") 1 [] ∷ []) (codes "remove")) ≡ Err (fault_at 5 Watches 0 0)
refuses_the_watch_first = refl
