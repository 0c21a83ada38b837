-- The checks of a draft, one after the other.
use Rattle.std.proofs.Common.{◌≡◌, ℕ, Bool, true, false, ◌&&◌, nat_le, is_none, length, List, [], Option, Some, None, Result, Ok, if◌then◌else◌, refl}
use Rattle.std.specs.List.{list_all}
use Rattle.rw_schema.specs.Presentation.{Presentation, signature_of}
use Rattle.rw_pattern.specs.PatternFaults.{are_in_range, equation_fault}
use Rattle.rw_pattern.specs.PatternLists.{PatternLists}
use Rattle.rw_doc.specs.declared.fault.DocFault.{DocFault}
use Rattle.rw_doc.specs.Chain.{and_then, checked, some_or}
use Rattle.rw_docpattern.specs.declared.bare.Bare.{Bare}
use Rattle.rw_docpattern.specs.declared.entry.Entry.{Entry}
use Rattle.rw_docpattern.specs.declared.entry.WrittenEntry.{WrittenEntry}
use Rattle.rw_doc.specs.declared.piece.Piece.{Piece}
use Rattle.rw_docpattern.specs.Bare.{IsBare, lists_of}
use Rattle.rw_docpattern.specs.Drafts.{Draft, draft_of, entries_of}
use Rattle.rw_docpattern.specs.Patterns.{entries_named, fits_atom, is_on_part}
use Rattle.rw_doc.specs.Pieces.{fault_in}
use Rattle.rw_docpattern.specs.Terms.{is_within_limits}

-- the draft with a pattern and entries
abbrev with_bare : List Entry → PatternLists → Result Draft DocFault
with_bare entries bare = Ok (record { bare = bare; entries = entries })

-- the checks behind names, the last of them first made with the others and then behind them
last_checks : (piece : Piece) (lists : PatternLists) (entries : List Entry) (in_range parts atoms equal : Bool)
    → and_then (checked (fault_in piece 8) (in_range && parts) (checked (fault_in piece 9) atoms (checked (fault_in piece 10) equal (Ok entries)))) (λ entries. with_bare entries lists)
    ≡ and_then (checked (fault_in piece 8) (in_range && parts) (checked (fault_in piece 9) atoms (Ok entries)))
    (λ entries. and_then (some_or (fault_in piece 10) (if equal then Some lists else None)) (with_bare entries))
last_checks piece lists entries false parts atoms equal = refl
last_checks piece lists entries true false atoms equal = refl
last_checks piece lists entries true true false equal = refl
last_checks piece lists entries true true true false = refl
last_checks piece lists entries true true true true = refl

-- the same with what is found out of the lists, where it is that if no image is astray
found_checks : (piece : Piece) (lists : PatternLists) (entries : List Entry) (in_range parts atoms equal : Bool) (pattern : Option PatternLists)
    → (in_range ≡ true → pattern ≡ (if equal then Some lists else None))
    → and_then (checked (fault_in piece 8) (in_range && parts) (checked (fault_in piece 9) atoms (checked (fault_in piece 10) equal (Ok entries)))) (λ entries. with_bare entries lists)
    ≡ and_then (checked (fault_in piece 8) (in_range && parts) (checked (fault_in piece 9) atoms (Ok entries)))
    (λ entries. and_then (some_or (fault_in piece 10) pattern) (with_bare entries))
found_checks piece lists entries false parts atoms equal pattern found = refl
found_checks piece lists entries true parts atoms equal pattern found = rw (found refl) (last_checks piece lists entries true parts atoms equal)

-- the checks behind the lengths
all_checks : (piece : Piece) (lists : PatternLists) (few count terms range in_range equal : Bool) (pattern : Option PatternLists) (named : Option (List Entry))
    (parts atoms : List Entry → Bool) → (few ≡ true → in_range ≡ range) → (few ≡ true → in_range ≡ true → pattern ≡ (if equal then Some lists else None))
    → and_then (checked (fault_in piece 4) (few && count && terms) (and_then (some_or (fault_in piece 6) named) (λ entries.
    checked (fault_in piece 8) (range && parts entries) (checked (fault_in piece 9) (atoms entries) (checked (fault_in piece 10) equal (Ok entries)))))) (λ entries. with_bare entries lists)
    ≡ and_then (checked (fault_in piece 4) (few && count && terms) (and_then (some_or (fault_in piece 6) named) (λ entries.
    checked (fault_in piece 8) (in_range && parts entries) (checked (fault_in piece 9) (atoms entries) (Ok entries)))))
    (λ entries. and_then (some_or (fault_in piece 10) pattern) (with_bare entries))
all_checks piece lists false count terms range in_range equal pattern named parts atoms same found = refl
all_checks piece lists true false terms range in_range equal pattern named parts atoms same found = refl
all_checks piece lists true true false range in_range equal pattern named parts atoms same found = refl
all_checks piece lists true true true range in_range equal pattern None parts atoms same found = refl
all_checks piece lists true true true range in_range equal pattern (Some entries) parts atoms same found =
    rw (← same refl) (found_checks piece lists entries in_range (parts entries) (atoms entries) equal pattern (found refl))

-- the draft of a form is made of its entries, by what is found out of its lists
pub draft_is : (schema : Presentation) (piece : Piece) (sizes : List ℕ) (rows : List (List ℕ)) (written : List WrittenEntry) (bare : Bare)
    → IsBare (signature_of schema) (lists_of (signature_of schema) sizes rows) bare
    → draft_of schema piece (record { sizes = sizes; rows = rows; entries = written })
    ≡ and_then (entries_of schema piece bare.few bare.in_range (lists_of (signature_of schema) sizes []) written)
    (λ entries. and_then (some_or (fault_in piece 10) bare.pattern) (with_bare entries))
draft_is schema piece sizes rows written bare found =
    let C = signature_of schema in
    let lists : PatternLists = lists_of C sizes rows in
    rw (found.shape, ← found.few)
    (all_checks piece lists bare.few (nat_le (length written) 256) (list_all (λ (entry : WrittenEntry). is_within_limits entry.term) written)
    (are_in_range C lists) bare.in_range (is_none (equation_fault C lists)) bare.pattern (entries_named schema.attributes written)
    (list_all (is_on_part lists)) (list_all (fits_atom C)) found.range found.pattern)
