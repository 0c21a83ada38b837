-- What became of a source that was to be read to its end.
use Rattle.std.specs.Prelude.{ℕ, ◌≤◌, ◌<◌, ⊤, List, length, Option, None, Some, Result, Ok, Err}
use Rattle.std.specs.Io.KnownBytes.{Consumes, IsAtEnd}
use Rattle.rw_outside.specs.declared.reading.ReadEnd.{ReadEnd}
use Rattle.rw_outside.specs.declared.reading.ReadEnd.TheVariants.{Fault, TooLong, OutOfMemory}
use Rattle.rw_outside.specs.Faults.{next_count}

-- Some bytes came and are gone from the front of what was left, and P holds of their number. Of a
-- source that does not tell its bytes it says nothing.
abbrev pub Came : (ℕ → Type 0) → Option (List ℕ) → Option (List ℕ) → Type 0
Came P None now = ⊤
Came P (Some left) now = (bytes : List ℕ) × Consumes (Some left) now bytes × P (length bytes)

-- a source was read to its end: these bytes were all that was left, and no more than the limit
pub record IsReadWhole (limit : ℕ) (left now : Option (List ℕ)) (bytes : List ℕ) : Type 0 where
  pub came : Consumes left now bytes
  pub end : IsAtEnd now
  pub within : length bytes ≤ limit

-- A source was not read to its end: a fault came within the limit, or more than the limit came before
-- the end or a fault, or memory ran out.
abbrev pub EndsEarly : ℕ → Option (List ℕ) → Option (List ℕ) → ReadEnd → Type 0
EndsEarly limit left now Fault = Came (λ count. count ≤ limit) left now
EndsEarly limit left now TooLong = Came (λ count. limit < count) left now
EndsEarly limit left now OutOfMemory = Came (λ count. ⊤) left now

-- the count of faults after a reading: one fault where it ended by a fault, and none where it ended otherwise
abbrev pub count_after_reading : {T : Type 0} → ℕ → Result T ReadEnd → ℕ
count_after_reading before (Ok bytes) = before
count_after_reading before (Err Fault) = next_count before
count_after_reading before (Err TooLong) = before
count_after_reading before (Err OutOfMemory) = before
