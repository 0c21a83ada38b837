-- The lines of pushouts and pullbacks.
use Rattle.std.specs.Prelude.{ℕ, List, [], ◌∷◌, codes, map, length, Option}
use Rattle.serde_json.specs.Data.{Data, string, object, member, no_members}
use Rattle.rw_schema.specs.declared.atom.Atom.{Atom}
use Rattle.rw_schema.specs.declared.ids.AttrId.{AttrId}
use Rattle.rw_schema.specs.declared.ids.ObjectId.{ObjectId}
use Rattle.rw_schema.specs.Presentation.{Presentation}
use Rattle.rw_schema.specs.RowLists.{RowLists}
use Rattle.rw_print.specs.Atoms.{atom_data, cell_data}
use Rattle.rw_print.specs.Lines.{count_data, list_data, tuple_data, name_of_object, name_of_attribute}

-- the cells of an attribute
abbrev pub cells_data : List (Option Atom) → Data
cells_data cells = list_data (map cell_data cells)

-- lists of numbers
abbrev pub lists_data : List (List ℕ) → Data
lists_data lists = list_data (map tuple_data lists)

-- {"cells":[..],"left":map,"right":map,"rows":[..],"sizes":[..]}
abbrev pub limit_data : RowLists → List (List ℕ) → List (List ℕ) → Data
limit_data rows left right =
    object (member (codes "cells") (list_data (map cells_data rows.cells))
    (member (codes "left") (lists_data left)
    (member (codes "right") (lists_data right)
    (member (codes "rows") (lists_data rows.arrows)
    (member (codes "sizes") (list_data (map count_data (map length rows.names))) no_members)))))

-- {"clash":[object,part,attribute,first,second]}
abbrev pub clash_data : Presentation → ObjectId → ℕ → AttrId → Atom → Atom → Data
clash_data schema id part attr first second =
    object (member (codes "clash")
    (list_data (string (name_of_object schema id) ∷ count_data part ∷ string (name_of_attribute schema attr) ∷ atom_data first ∷ atom_data second ∷ []))
    no_members)

-- {"too_large":object}
abbrev pub large_data : Presentation → ObjectId → Data
large_data schema id = object (member (codes "too_large") (string (name_of_object schema id)) no_members)
