-- How a run that is written to a sink ends, and what one firing and the last line do.
use Rattle.std.specs.Prelude.{◌≡◌, ◌<◌, ◌+◌, ◌++◌, ℕ, List, length, take, Option, Some, None, Result, Ok, Err}
use Rattle.std.specs.Io.KnownBytes.{Appends}
use Rattle.rw_outside.specs.Faults.{next_count}
use Rattle.rw_outside.specs.Writing.{IsSent}
use Rattle.rw_pick.specs.Words.{after_words, word_of}
use Rattle.rand_pcg.specs.Lcg.{Lcg}
use Rattle.rw_sched.specs.declared.boxes.BoxKind.{BoxKind}
use Rattle.rw_sched.specs.declared.boxes.BoxKind.TheVariants as boxes
use Rattle.rw_sched.specs.declared.outcome.Outcome.{Outcome}
use Rattle.rw_sched.specs.Machine.{Standing}
use Rattle.rw_sched.specs.Schedules.{ScheduleLists}
use Rattle.rw_runner.specs.declared.close.Close.{Close}
use Rattle.rw_runner.specs.declared.close.Close.TheVariants.{Done, Failed, Spent}
use Rattle.rw_runner.specs.declared.close.Stop.{Stop}
use Rattle.rw_runner.specs.declared.close.Stop.TheVariants.{NoMemory, WriteFault}
use Rattle.rw_runs.specs.Steps.{Steps}
use Rattle.rw_runs.specs.Runs.{State, Happening, Happens, Firing, Fires, state_after, IsFired, End, done, failed, spent}
use Rattle.rw_runs.specs.Texts.{Lines, line_of, firing_text}
use Rattle.rw_runs.specs.Streams.{WrittenPart, WrittenWhole}

abbrev pub end_of : Close → End
end_of Done = done
end_of Failed = failed
end_of Spent = spent

-- the sink's count of faults: it is one more where the sink failed, and else the same
abbrev pub count_after_run : {T : Type 0} → ℕ → Result T Stop → ℕ
count_after_run before (Ok value) = before
count_after_run before (Err NoMemory) = before
count_after_run before (Err WriteFault) = next_count before

-- how a run ends that is written to a sink: its whole text was written, or, for want of memory or where the sink failed, a
-- beginning of it
abbrev pub EndsRun : {R O : Type 0} → Steps R O → (ℕ → ℕ) → ScheduleLists → Lines R O → State R → Option (List ℕ) → Option (List ℕ) → Result Close Stop → Type 0
EndsRun steps word schedule lines state held now (Ok close) = WrittenWhole steps word schedule lines state held now (end_of close)
EndsRun steps word schedule lines state held now (Err NoMemory) = WrittenPart steps word schedule lines state held now
EndsRun steps word schedule lines state held now (Err WriteFault) = WrittenPart steps word schedule lines state held now

-- the whole text of a run was written, or memory ran out
abbrev pub IsWhole : {R O : Type 0} → Steps R O → (ℕ → ℕ) → ScheduleLists → Lines R O → State R → Option (List ℕ) → Option (List ℕ) → Result Close Stop → Type 0
IsWhole steps word schedule lines state held now (Ok close) = WrittenWhole steps word schedule lines state held now (end_of close)
IsWhole steps word schedule lines state held now (Err NoMemory) = Unit {0}
IsWhole steps word schedule lines state held now (Err WriteFault) = ⊥

-- what a world does at a box: this happens there, and this is its line
pub record HasHappened {R O : Type 0} (steps : Steps R O) (seed : ℕ) (lines : Lines R O) (box : BoxKind) (state : State R) (rows : R) (words : Lcg) (outcome : Outcome) (line : List ℕ) : Type 0 where
  pub happening : Happening R O
  pub happens : Happens steps (word_of seed) box state happening
  pub outcome_is : happening.outcome ≡ outcome
  pub rows_are : happening.rows ≡ rows
  pub words_are : words ≡ after_words seed (state.words + happening.words)
  pub line_is : line ≡ line_of lines state happening.shown happening.rows

-- whether a box ends a run with so much fuel, and how
abbrev pub Closes : BoxKind → ℕ → Option Close → Type 0
Closes box fuel None = Fires box × (0 < fuel)
Closes box fuel (Some Done) = box ≡ boxes.Exit
Closes box fuel (Some Failed) = box ≡ boxes.Fail
Closes box fuel (Some Spent) = Fires box × (fuel ≡ 0)

-- a box fired, and its line was put behind what waits
pub record HasFired {R O : Type 0} (steps : Steps R O) (seed : ℕ) (schedule : ScheduleLists) (lines : Lines R O) (present : State R) (held now : Option (List ℕ)) (waiting left : List ℕ) (standing : Standing) (words : Lcg) (rows : R) : Type 0 where
  pub firing : Firing R O
  pub is : IsFired steps (word_of seed) schedule present firing
  pub sent : IsSent (waiting ++ firing_text lines firing) held now left
  pub standing_is : standing ≡ (state_after schedule firing).standing
  pub words_are : words ≡ after_words seed (state_after schedule firing).words
  pub rows_are : rows ≡ firing.happening.rows

-- a box fired, and the sink failed at its line
pub record HasFailed {R O : Type 0} (steps : Steps R O) (seed : ℕ) (schedule : ScheduleLists) (lines : Lines R O) (present : State R) (held now : Option (List ℕ)) (waiting : List ℕ) : Type 0 where
  pub firing : Firing R O
  pub is : IsFired steps (word_of seed) schedule present firing
  pub count : ℕ
  pub short : count < length (waiting ++ firing_text lines firing)
  pub part : Appends held now (take count (waiting ++ firing_text lines firing))

abbrev pub GoesOn : {R O : Type 0} → Steps R O → ℕ → ScheduleLists → Lines R O → State R → Option (List ℕ) → Option (List ℕ) → List ℕ → List ℕ → Standing → Lcg → R → Result Unit Stop → Type 0
GoesOn steps seed schedule lines present held now waiting left standing words rows (Ok fired) =
    HasFired steps seed schedule lines present held now waiting left standing words rows
GoesOn steps seed schedule lines present held now waiting left standing words rows (Err NoMemory) = now ≡ held
GoesOn steps seed schedule lines present held now waiting left standing words rows (Err WriteFault) =
    HasFailed steps seed schedule lines present held now waiting

-- the last line was written behind what waits
abbrev pub Finishes : List ℕ → Option (List ℕ) → Option (List ℕ) → Close → Result Close Stop → Type 0
Finishes text held now close (Ok closed) = (closed ≡ close) × Appends held now text
Finishes text held now close (Err NoMemory) = now ≡ held
Finishes text held now close (Err WriteFault) = (count : ℕ) × (count < length text) × Appends held now (take count text)
