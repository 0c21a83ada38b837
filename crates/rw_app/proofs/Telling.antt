-- The answer that tells a run.
use Rattle.std.proofs.Common.{◌≡◌, ℕ, List, ◌++◌, map, length, sym, ap, subst, ◌∙◌}
use Rattle.std.specs.List.{flat_map}
use Rattle.std.proofs.lemmas.Simd.{map-map}
use Rattle.rw_schema.specs.Presentation.{signature_of}
use Rattle.rw_schema.specs.RowLists.{RowLists}
use Rattle.rw_document.specs.Models.{DocumentLists}
use Rattle.rw_print.specs.Lines.{line, end_data}
use Rattle.rw_app.specs.declared.runner.Ran.{Ran}
use Rattle.rw_app.specs.declared.world.World.{World}
use Rattle.rw_app.specs.AnswerText.{AnswerText}
use Rattle.rw_app.specs.Answers.{status_of_end, told}
use Rattle.rw_app.specs.Kept.{lists_in}
use Rattle.rw_app.specs.RunTexts.{firing_line, sizes_in, last_line, run_text}
use Rattle.rw_app.specs.Runners.{HasRun, IsWorld, at_first, rows_in}
use Rattle.rw_app.specs.Runs.{CanRun, Firing, IsRun, Leads, Run, Stand, default_schedule}
use Rattle.rw_terms.specs.declared.code.OpCode.{OpCode}

-- the lengths of a state's lists are those of the lists in its instance
lengths_known : (document : DocumentLists) (world : World) → IsWorld document world
    → map (λ list. length list.items) world.lists.items ≡ map length (lists_in document (rows_in world))
lengths_known document world is = sym (map-map length (λ list. list.items) world.lists.items) ∙ ap (map length) is.fresh

-- the line of the end of what was run
abbrev end_of_ran : Ran → World → List ℕ
end_of_ran ran world = line (end_data ran.end ran.fuel (map (λ list. length list.items) world.lists.items) (sizes_in (rows_in world)))

-- it is the last line of the run
end_told : (codes : List OpCode) (document : DocumentLists) (fuel : ℕ) (rows : RowLists) (ran : Ran) (world : World) (firings : List Firing) (last : Stand)
    → HasRun codes document fuel rows ran world firings last → end_of_ran ran world ≡ last_line document (record { firings = firings; last = last; end = ran.end })
end_told codes document fuel rows ran world firings last runs =
    let lengths : map (λ list. length list.items) world.lists.items ≡ map length (lists_in document last.rows) =
    lengths_known document world runs.ends_in ∙ ap (λ (there : RowLists). map length (lists_in document there)) (sym runs.last_rows) in
    ap (λ (left : ℕ). line (end_data ran.end left (map (λ list. length list.items) world.lists.items) (sizes_in (rows_in world)))) (sym runs.fuel_left)
    ∙ ap (λ (counts : List ℕ). line (end_data ran.end last.fuel counts (sizes_in (rows_in world)))) lengths
    ∙ ap (λ (there : RowLists). line (end_data ran.end last.fuel (map length (lists_in document last.rows)) (sizes_in there))) (sym runs.last_rows)

-- what was written of a run, with this line behind it, tells the run
pub run_told : (codes : List OpCode) (document : DocumentLists) (fuel : ℕ) (rows : RowLists) (ran : Ran) (world : World) (firings : List Firing) (last : Stand) (answer : AnswerText)
    → CanRun (length codes) document → rows ≡ document.table.rows → HasRun codes document fuel rows ran world firings last
    → answer ≡ record { status = status_of_end ran.end; text = ran.text.items ++ end_of_ran ran world }
    → (run : Run) × IsRun codes document fuel run × (answer ≡ told document run)
run_told codes document fuel rows ran world firings last answer can start runs is =
    let run : Run = record { firings = firings; last = last; end = ran.end } in
    let text : ran.text.items ++ end_of_ran ran world ≡ run_text document run =
    ap (λ (lines : List ℕ). lines ++ end_of_ran ran world) runs.text
    ∙ ap (λ (end : List ℕ). flat_map (firing_line document) firings ++ end) (end_told codes document fuel rows ran world firings last runs) in (
      run,
      (can, subst (λ (from : RowLists). Leads (signature_of document.schema) codes (default_schedule document.rules) (at_first fuel from) firings last ran.end) start runs.leads),
      is ∙ ap (λ (text : List ℕ). let telling : AnswerText = record { status = status_of_end ran.end; text = text } in telling) text,
    )
