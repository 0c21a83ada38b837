-- The line of an instance that a run shows, and the line of a sample.
use Rattle.std.specs.Prelude.{ℕ, List, codes, map}
use Rattle.serde_json.specs.Data.{Data, string, object, member, no_members}
use Rattle.rw_schema.specs.RowLists.{RowLists}
use Rattle.rw_print.specs.Limits.{cells_data, lists_data}
use Rattle.rw_print.specs.Lines.{count_data, list_data, tuple_data}

-- {"box":place,"cells":[..],"names":[..],"next":[..],"rows":[..]}
abbrev pub show_data : ℕ → RowLists → Data
show_data place rows =
    object (member (codes "box") (count_data place)
    (member (codes "cells") (list_data (map cells_data rows.cells))
    (member (codes "names") (lists_data rows.names)
    (member (codes "next") (tuple_data rows.next)
    (member (codes "rows") (lists_data rows.arrows) no_members)))))

-- {"applied":count,"end":"done","gone":count,"lists":[length,..],"new":count,"sizes":[count,..]}
abbrev pub sample_data : ℕ → ℕ → ℕ → List ℕ → List ℕ → Data
sample_data applied gone new lists sizes =
    object (member (codes "applied") (count_data applied)
    (member (codes "end") (string (codes "done"))
    (member (codes "gone") (count_data gone)
    (member (codes "lists") (list_data (map count_data lists))
    (member (codes "new") (count_data new)
    (member (codes "sizes") (list_data (map count_data sizes)) no_members))))))
