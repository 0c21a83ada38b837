-- The text of a run: one line for each firing, and the line of its end.
use Rattle.std.specs.Prelude.{ℕ, List, ◌++◌, map, length}
use Rattle.std.specs.List.{flat_map}
use Rattle.rw_schema.specs.RowLists.{RowLists}
use Rattle.rw_lists.specs.News.{differences}
use Rattle.rw_document.specs.Models.{DocumentLists}
use Rattle.rw_print.specs.Lines.{line, step_data, end_data}
use Rattle.rw_app.specs.Kept.{lists_in}
use Rattle.rw_app.specs.Runs.{Firing, Run}

-- the line of a firing: what leaves and enters a kept list is the difference of its lists before and after
abbrev pub firing_line : DocumentLists → Firing → List ℕ
firing_line document firing =
    line (step_data document.schema firing.place firing.rule.name firing.applied
    (differences (lists_in document firing.before) (lists_in document firing.after)) firing.refused)

-- the numbers of parts
abbrev pub sizes_in : RowLists → List ℕ
sizes_in rows = map length rows.names

-- the line of the end: the fuel that is left, the lengths of the kept lists and the numbers of parts
abbrev pub last_line : DocumentLists → Run → List ℕ
last_line document run = line (end_data run.end run.last.fuel (map length (lists_in document run.last.rows)) (sizes_in run.last.rows))

abbrev pub run_text : DocumentLists → Run → List ℕ
run_text document run = flat_map (firing_line document) run.firings ++ last_line document run
