-- What may be wrong with the pieces of a watch and with the list of watches, by the codes of docs/FORMAT.md, and the law that a
-- reading tells the first fault.
use Rattle.std.specs.Prelude.{◌≡◌, ◌⊎◌, ℕ, false, true, length, List, Option, None, IsSomeAnd}
use Rattle.std.specs.List.{list_any}
use Rattle.std.specs.Str.{bytes_eq}
use Rattle.serde_json.specs.Data.{Data}
use Rattle.rw_schema.specs.declared.section.Section.TheVariants as sections
use Rattle.rw_schema.specs.Presentation.{Presentation}
use Rattle.rw_schema.specs.SchemaFaults.{is_name}
use Rattle.rw_docpattern.specs.Codes.{row}
use Rattle.rw_docpattern.specs.MapCodes.{MonicHas}
use Rattle.rw_docpattern.specs.PatternCodes.{PatternHas}
use Rattle.rw_docpattern.specs.PieceCodes.{IsNameOf, ItemHas, ListHas, TellsFirstPiece, TellsList, items_written, no_piece, piece_row}
use Rattle.rw_docwatch.specs.Heads.{WatchForm, WatchMembers, watch_form, watch_members}
use Rattle.rw_docwatch.specs.Watches.{read_watch_where, read_watches}

-- what may be wrong with the form of a watch's own piece, where a name is taken of which this holds
abbrev pub HeadFormHas : List (List ℕ) → (List ℕ → Type 0) → Option WatchForm → ℕ → Type 0
HeadFormHas objects IsTaken form =
    row 2 (form ≡ None)
    (row 4 (IsSomeAnd form (λ form. is_name form.name ≡ false))
    (row 5 (IsSomeAnd form (λ form. IsTaken form.name))
    (λ code. IsSomeAnd form (λ form. MonicHas objects form.monic code))))

-- what may be wrong with a watch's own piece, whose members these are, or none
abbrev pub HeadHas : List (List ℕ) → (List ℕ → Type 0) → Option WatchMembers → ℕ → Type 0
HeadHas objects IsTaken members = row 2 (members ≡ None) (λ code. IsSomeAnd members (λ members. HeadFormHas objects IsTaken (watch_form members) code))

-- what may be wrong with the pieces of a watch whose members these are
abbrev pub PiecesHave : Presentation → (List ℕ → Type 0) → Option WatchMembers → ℕ → ℕ → Type 0
PiecesHave schema IsTaken members =
    piece_row 0 (HeadHas schema.objects IsTaken members)
    (piece_row 1 (λ code. IsSomeAnd members (λ m. PatternHas schema m.pattern code))
    no_piece)

-- what may be wrong with a watch that a value is
abbrev pub WatchHas : Presentation → (List ℕ → Type 0) → Data → ℕ → ℕ → Type 0
WatchHas schema IsTaken value = PiecesHave schema IsTaken (watch_members value)

abbrev pub FirstWatchFault : Type 0
FirstWatchFault = (schema : Presentation) (taken : List (List ℕ)) (place : ℕ) (value : Data)
    → TellsFirstPiece sections.Watches place (WatchHas schema (λ name. list_any (bytes_eq name) taken ≡ true) value) (read_watch_where schema taken place value)

-- what may be wrong with a watch behind these, which are written before it: its name is none of theirs and of the rules'
abbrev pub WatchBehindHas : Presentation → List (List ℕ) → List Data → Data → ℕ → ℕ → Type 0
WatchBehindHas schema rules before value = WatchHas schema (λ name. (list_any (bytes_eq name) rules ≡ true) ⊎ IsNameOf before name) value

abbrev pub FirstWatchesFault : Type 0
FirstWatchesFault = (schema : Presentation) (rules : List (List ℕ)) (value : Option Data)
    → TellsList sections.Watches (ListHas 64 value) (ItemHas (WatchBehindHas schema rules) (items_written value)) (read_watches schema rules value)
