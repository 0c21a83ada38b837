-- What is found of the lists of a pattern without entries.
use Rattle.std.specs.Prelude.{◌≡◌, ℕ, true, false, is_none, List, [], Option, Some, None, Result, Ok, Err, if◌then◌else◌}
use Rattle.rw_schema.specs.Signature.{Signature}
use Rattle.rw_pattern.specs.PatternFaults.{has_shape, has_few_parts, are_in_range, equation_fault}
use Rattle.rw_pattern.specs.PatternLists.{PatternLists, holders_in}
use Rattle.rw_doc.specs.declared.end.ReadDocEnd.{ReadDocEnd}
use Rattle.rw_doc.specs.declared.end.ReadDocEnd.TheVariants.{Refused, OutOfMemory}
use Rattle.rw_docpattern.specs.declared.bare.Bare.{Bare}
use Rattle.rw_doc.specs.declared.piece.Piece.{Piece}
use Rattle.rw_doc.specs.Pieces.{fault_in}

-- the lists of a pattern with these sizes and rows, and no entries
abbrev pub lists_of : Signature → List ℕ → List (List ℕ) → PatternLists
lists_of C sizes rows = record { sizes = sizes; rows = rows; cells = []; holders = holders_in C }

-- the lists themselves, where the equations hold of them
abbrev pub where_equal : Signature → PatternLists → Option PatternLists
where_equal C lists = if is_none (equation_fault C lists) then Some lists else None

-- the lists have the right lengths, and of the other conditions each is found out where those before it hold
pub record IsBare (C : Signature) (lists : PatternLists) (bare : Bare) : Type 0 where
  pub shape : has_shape C lists ≡ true
  pub few : bare.few ≡ has_few_parts lists
  pub range : bare.few ≡ true → bare.in_range ≡ are_in_range C lists
  pub pattern : bare.few ≡ true → bare.in_range ≡ true → bare.pattern ≡ where_equal C lists

-- what is found, or the fault where a length is wrong; want of memory may come at any lists
abbrev pub FindsBare : Signature → Piece → PatternLists → Result Bare ReadDocEnd → Type 0
FindsBare C piece lists (Ok bare) = IsBare C lists bare
FindsBare C piece lists (Err (Refused fault)) = (fault ≡ fault_in piece 2) × (has_shape C lists ≡ false)
FindsBare C piece lists (Err OutOfMemory) = Unit {0}
