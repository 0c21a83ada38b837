-- The watches of a document, or the first fault. The pieces of a watch are its own keys, and its pattern.
use Rattle.std.specs.Prelude.{ℕ, length, map, List, [], ◌++◌, Option, Result, Ok}
use Rattle.serde_json.specs.Data.{Data}
use Rattle.rw_schema.specs.declared.section.Section.TheVariants as sections
use Rattle.rw_schema.specs.Presentation.{Presentation}
use Rattle.rw_rule.specs.RuleLists.{WatchLists}
use Rattle.rw_doc.specs.declared.fault.DocFault.{DocFault}
use Rattle.rw_doc.specs.Chain.{and_then, each_after, some_or}
use Rattle.rw_doc.specs.Schemas.{read_list_or_none}
use Rattle.rw_doc.specs.declared.piece.Piece.{Piece}
use Rattle.rw_docpattern.specs.Patterns.{read_pattern}
use Rattle.rw_doc.specs.Pieces.{fault_in}
use Rattle.rw_docwatch.specs.Heads.{WatchMembers, read_watch_head, watch_members}

-- a piece of a watch
abbrev pub watch_piece : ℕ → ℕ → Piece
watch_piece watch piece = record { section = sections.Watches; first = watch; second = piece }

-- the pieces of a watch, where these names are taken
abbrev pub read_watch_pieces : Presentation → List (List ℕ) → ℕ → WatchMembers → Result WatchLists DocFault
read_watch_pieces schema taken place members =
    and_then (read_watch_head schema.objects taken (watch_piece place 0) members) (λ head.
    and_then (read_pattern schema (watch_piece place 1) members.pattern) (λ read.
    Ok (record { name = head.name; goal = record { left = read.pattern; monic = head.monic; conditions = []; kinds = read.kinds } })))

-- the names of watches
abbrev pub names_of_watches : List WatchLists → List (List ℕ)
names_of_watches watches = map (λ (watch : WatchLists). watch.name) watches

-- the watch at the place, where these names are taken
abbrev pub read_watch_where : Presentation → List (List ℕ) → ℕ → Data → Result WatchLists DocFault
read_watch_where schema taken place value = and_then (some_or (fault_in (watch_piece place 0) 2) (watch_members value)) (read_watch_pieces schema taken place)

-- the watch behind these; rules and watches share one list of names
abbrev pub read_watch : Presentation → List (List ℕ) → List WatchLists → Data → Result WatchLists DocFault
read_watch schema rules before value = read_watch_where schema (rules ++ names_of_watches before) (length before) value

-- the watches that are written, at most 64; these are the names of the rules
abbrev pub read_watches : Presentation → List (List ℕ) → Option Data → Result (List WatchLists) DocFault
read_watches schema rules value = and_then (read_list_or_none sections.Watches 64 value) (each_after (read_watch schema rules) [])
