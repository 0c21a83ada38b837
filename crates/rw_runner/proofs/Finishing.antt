-- The last line is written, and all that waits; and a run that is stopped.
use Rattle.std.proofs.Common.{◌≡◌, ◌≤◌, ◌<◌, ◌++◌, ℕ, List, [], length, take, Option, Some, None, Result, Ok, Err, refl, sym, ap, subst, ◌∙◌, append-nil, arith}
use Rattle.std.specs.Io.KnownBytes.{Appends}
use Rattle.rand_pcg.specs.Lcg.{Lcg}
use Rattle.rw_pick.specs.Words.{word_of}
use Rattle.rw_outside.specs.declared.writing.WriteEnd.{WriteEnd}
use Rattle.rw_outside.specs.declared.writing.WriteEnd.TheVariants.{Fault}
use Rattle.rw_outside.specs.Faults.{Rose}
use Rattle.rw_outside.specs.Writing.{IsSent, WritesAll}
use Rattle.rw_outside.proofs.Sent.{sent_cut, written_sent}
use Rattle.rw_sched.specs.declared.boxes.BoxKind.{BoxKind}
use Rattle.rw_sched.specs.Machine.{Standing}
use Rattle.rw_sched.specs.Schedules.{ScheduleLists, box_at}
use Rattle.rw_runner.specs.declared.close.Close.{Close}
use Rattle.rw_runner.specs.declared.close.Close.TheVariants.{Done, Failed, Spent}
use Rattle.rw_runner.specs.declared.close.Stop.{Stop}
use Rattle.rw_runner.specs.declared.close.Stop.TheVariants.{NoMemory, WriteFault}
use Rattle.rw_runner.specs.Endings.{end_of, count_after_run, Closes, EndsRun, IsWhole, Finishes, GoesOn}
use Rattle.rw_runs.specs.Steps.{Steps}
use Rattle.rw_runs.specs.Runs.{State, Firing, EndsAt}
use Rattle.rw_runs.specs.Streams.{Streams, WrittenPart}
use Rattle.rw_runs.specs.Texts.{Lines}
use Rattle.rw_runs.specs.Verdicts.{HasVerdicts}
use Rattle.rw_runs.proofs.Streaming.{streams_begin, streams_part, streams_whole, streams_last_fault, streams_fault}

-- the sink fails at what waits
pub flush_failed : (text left : List ℕ) (held between now : Option (List ℕ)) (end : WriteEnd) → IsSent text held between left → WritesAll left between now (Err end)
    → (count : ℕ) × (count < length text) × Appends held now (take count text)
flush_failed text left held between now Fault sent part = sent_cut text held between now left part.0 sent part.1 part.2

-- nothing more is appended
appends_none : (held : Option (List ℕ)) → Appends held held []
appends_none None = tt
appends_none (Some bytes) = sym (append-nil bytes)

-- a box that closes a run ends it
pub closes_at : {R : Type 0} (schedule : ScheduleLists) (state : State R) (box : BoxKind) (close : Close) → box ≡ box_at schedule state.standing.place
    → Closes box state.standing.fuel (Some close) → EndsAt schedule state (end_of close)
closes_at schedule state box Done is closes = sym is ∙ closes
closes_at schedule state box Failed is closes = sym is ∙ closes
closes_at schedule state box Spent is closes = (subst (λ (b : BoxKind). Closes b state.standing.fuel (Some Spent)) is closes)

module _ {R O : Type 0} (steps : Steps R O) (word : ℕ → ℕ) (schedule : ScheduleLists) (lines : Lines R O) (state : State R) (held : Option (List ℕ))
    (IsSound : R → Type 0) (law : HasVerdicts steps IsSound schedule) (sound : IsSound state.rows) where
  -- a run whose last line is written ends
  pub run_finished : (between now : Option (List ℕ)) (waiting : List ℕ) (firings : List (Firing R O)) (present : State R) (close : Close) (result : Result Close Stop)
      → Streams steps word schedule lines state held between waiting firings present → EndsAt schedule present (end_of close)
      → Finishes (waiting ++ lines.last (end_of close) present) between now close result
      → EndsRun steps word schedule lines state held now result
  run_finished between now waiting firings present close (Ok closed) streams ends finishes =
      rw finishes.0 (streams_whole steps word schedule lines state held between now now waiting [] firings present (end_of close) streams ends
      (written_sent (waiting ++ lines.last (end_of close) present) between now finishes.1) (appends_none now))
  run_finished between now waiting firings present close (Err NoMemory) streams ends finishes =
      rw finishes (streams_part steps word schedule lines state held IsSound law sound between waiting firings present streams)
  run_finished between now waiting firings present close (Err WriteFault) streams ends finishes =
      streams_last_fault steps word schedule lines state held between now waiting firings present (end_of close) finishes.0 streams ends finishes.1 finishes.2

  -- a run that has not begun
  pub run_unbegun : WrittenPart steps word schedule lines state held held
  run_unbegun = streams_part steps word schedule lines state held IsSound law sound held [] [] state (streams_begin steps word schedule lines state held)

-- a run that is stopped at a firing ends
pub run_stopped : {R O : Type 0} (steps : Steps R O) (seed : ℕ) (schedule : ScheduleLists) (lines : Lines R O) (state : State R) (held : Option (List ℕ))
    (IsSound : R → Type 0) (law : HasVerdicts steps IsSound schedule) (sound : IsSound state.rows)
    (between now : Option (List ℕ)) (waiting left : List ℕ) (firings : List (Firing R O)) (present : State R) (standing : Standing) (words : Lcg) (rows : R) (stop : Stop)
    → Streams steps (word_of seed) schedule lines state held between waiting firings present
    → GoesOn steps seed schedule lines present between now waiting left standing words rows (Err stop)
    → EndsRun steps (word_of seed) schedule lines state held now (Err stop)
run_stopped steps seed schedule lines state held IsSound law sound between now waiting left firings present standing words rows NoMemory streams on =
    rw on (streams_part steps (word_of seed) schedule lines state held IsSound law sound between waiting firings present streams)
run_stopped steps seed schedule lines state held IsSound law sound between now waiting left firings present standing words rows WriteFault streams on =
    streams_fault steps (word_of seed) schedule lines state held IsSound law sound between now waiting firings present on.firing on.count streams on.is on.short on.part

-- where the sink's count has not risen, the run is written whole, or memory ran out
pub run_whole : {R O : Type 0} (steps : Steps R O) (word : ℕ → ℕ) (schedule : ScheduleLists) (lines : Lines R O) (state : State R) (held now : Option (List ℕ)) (faults risen : ℕ) (result : Result Close Stop)
    → EndsRun steps word schedule lines state held now result → risen ≡ count_after_run faults result → (Rose faults risen → ⊥) → IsWhole steps word schedule lines state held now result
run_whole steps word schedule lines state held now faults risen (Ok close) ends count none = ends
run_whole steps word schedule lines state held now faults risen (Err NoMemory) ends count none = tt
run_whole steps word schedule lines state held now faults risen (Err WriteFault) ends count none = absurd (none (omega (arith, count)))
