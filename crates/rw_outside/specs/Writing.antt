-- What became of a text that was written to a sink.
use Rattle.std.specs.Prelude.{◌≡◌, ℕ, ◌<◌, ◌++◌, List, length, take, Option, Result, Ok, Err}
use Rattle.std.specs.Io.KnownBytes.{Appends}
use Rattle.rw_outside.specs.declared.writing.WriteEnd.{WriteEnd}
use Rattle.rw_outside.specs.declared.writing.WriteEnd.TheVariants.{Fault}

-- All of the text was appended, or at a fault a beginning of it that is not the whole.
abbrev pub WritesAll : List ℕ → Option (List ℕ) → Option (List ℕ) → Result Unit WriteEnd → Type 0
WritesAll text held now (Ok done) = Appends held now text
WritesAll text held now (Err Fault) = (count : ℕ) × (count < length text) × Appends held now (take count text)

-- of a text a front was appended, and the rest waits
pub record IsSent (text : List ℕ) (held now : Option (List ℕ)) (waiting : List ℕ) : Type 0 where
  pub front : List ℕ
  pub text_is : text ≡ front ++ waiting
  pub appended : Appends held now front

-- a front of the text was appended and the rest waits, or at a fault a beginning of it that is not the whole was appended
abbrev pub WritesOn : List ℕ → Option (List ℕ) → Option (List ℕ) → List ℕ → Result Unit WriteEnd → Type 0
WritesOn text held now waiting (Ok done) = IsSent text held now waiting
WritesOn text held now waiting (Err Fault) = (count : ℕ) × (count < length text) × Appends held now (take count text)
