-- The pattern of a draft with its entries has no fault but that of a variable.
use Rattle.std.proofs.Common.{◌≡◌, ◌∙◌, ◌+◌, ◌<◌, ◌≤◌, ℕ, Bool, true, false, is_none, Option, Some, None, option_map, Ok, List, [], ◌∷◌, length, slice_get, refl, ap, sym, subst, arith}
use Rattle.std.specs.List.{All, list_all}
use Rattle.std.proofs.lemmas.Bool.{and_parts, le-leb}
use Rattle.rw_schema.specs.declared.atom.Kind.{Kind}
use Rattle.rw_schema.specs.declared.signature.AttrEnds.{AttrEnds}
use Rattle.rw_schema.specs.First.{all_in, first_in, fault_unless, or_else}
use Rattle.rw_schema.specs.Presentation.{Presentation, signature_of}
use Rattle.rw_schema.specs.Signature.{Signature}
use Rattle.rw_pattern.specs.declared.cell.PatternCell.{PatternCell}
use Rattle.rw_pattern.specs.declared.cell.Want.{Want}
use Rattle.rw_pattern.specs.declared.cell.Want.TheVariants as wants
use Rattle.rw_pattern.specs.declared.fault.PatternFault.TheVariants as faults
use Rattle.rw_pattern.specs.PatternFaults.{are_in_range, constant_fault, equation_fault, fits_constant, has_few_parts, has_part, has_shape, is_in_range, pattern_fault, variable_fault}
use Rattle.rw_pattern.specs.PatternLists.{PatternLists}
use Rattle.rw_doc.specs.Chain.{all_some, and_then, checked}
use Rattle.rw_docpattern.specs.declared.entry.Entry.{Entry}
use Rattle.rw_docpattern.specs.declared.term.WrittenTerm.{WrittenTerm, WrittenTerm-F, fold-WrittenTerm, fold-roll-WrittenTerm, ind-WrittenTerm, roll-WrittenTerm}
use Rattle.rw_doc.specs.declared.piece.Piece.{Piece}
use Rattle.rw_docpattern.specs.Drafts.{Draft, IsSound, pattern_of, pattern_with, with_cells}
use Rattle.rw_docpattern.specs.Patterns.{PatternRead, cell_of, fits_atom, fits_step, is_on_part, want_of, want_step}
use Rattle.rw_doc.specs.Pieces.{fault_in}
use Rattle.rw_docpattern.specs.Variables.{kinds_of, number_in, variables_of}
use Rattle.rw_doc.proofs.Listed.{some_all, some_long, some_pass}

-- what a cell has of its entry
record IsCellOf (names : List (List ℕ)) (entry : Entry) (cell : PatternCell) : Type 0 where
  attr_is : cell.attr ≡ entry.attr
  part_is : cell.part ≡ entry.part
  want_is : want_of names entry.term ≡ Some cell.want

-- the cell that an entry wants something of
cell_is : (names : List (List ℕ)) (entry : Entry) (cell : PatternCell) → cell_of names entry ≡ Some cell → IsCellOf names entry cell
cell_is names entry cell is = given (want_of names entry.term) refl is
  where
    given : (want : Option Want) → want_of names entry.term ≡ want → option_map (λ want. record { attr = entry.attr; part = entry.part; want = want }) want ≡ Some cell
        → IsCellOf names entry cell
    given None from is = let never : ⊥ = cc in absurd never
    given (Some want) from is =
        let same : record { attr = entry.attr; part = entry.part; want = want } ≡ cell = cc in
        subst (IsCellOf names entry) same (record { attr_is = refl; part_is = refl; want_is = from })

-- what a term wants is a constant that fits where the term is an atom that fits
abbrev FitsWanted : List (List ℕ) → Option AttrEnds → WrittenTerm → Type 0
FitsWanted names ends term = fold-WrittenTerm Bool (fits_step ends) term ≡ true → (want : Want) → want_of names term ≡ Some want → fits_constant ends want ≡ true

-- what one level wants
level_wanted : (names : List (List ℕ)) (ends : Option AttrEnds) (level : WrittenTerm-F WrittenTerm) → FitsWanted names ends (roll-WrittenTerm level)
level_wanted names ends (WrittenTerm-F.Const atom) fits want is =
    let one : Some (wants.Const atom) ≡ Some want = sym (fold-roll-WrittenTerm (Option Want) (want_step names) (WrittenTerm-F.Const atom)) ∙ is in
    let same : wants.Const atom ≡ want = cc in
    subst (λ want. fits_constant ends want ≡ true) same (sym (fold-roll-WrittenTerm Bool (fits_step ends) (WrittenTerm-F.Const atom)) ∙ fits)
level_wanted names ends (WrittenTerm-F.Var name) fits want is =
    let one : Some (wants.Var (number_in names name)) ≡ Some want = sym (fold-roll-WrittenTerm (Option Want) (want_step names) (WrittenTerm-F.Var name)) ∙ is in
    let same : wants.Var (number_in names name) ≡ want = cc in
    subst (λ want. fits_constant ends want ≡ true) same refl
level_wanted names ends (WrittenTerm-F.Op name first second) fits want is =
    let none : None ≡ Some want = sym (fold-roll-WrittenTerm (Option Want) (want_step names) (WrittenTerm-F.Op name first second)) ∙ is in
    let never : ⊥ = cc in
    absurd never

-- what a term wants
wanted_fits : (names : List (List ℕ)) (ends : Option AttrEnds) (term : WrittenTerm) → FitsWanted names ends term
wanted_fits names ends = ind-WrittenTerm (FitsWanted names ends) (λ x y is. level_wanted names ends x)

-- the constant of a cell fits where the atom of its entry does
constant_fits : (C : Signature) (names : List (List ℕ)) (entry : Entry) (cell : PatternCell) → fits_atom C entry ≡ true → cell_of names entry ≡ Some cell
    → fits_constant (slice_get C.attributes cell.attr.0) cell.want ≡ true
constant_fits C names entry cell fits is =
    let cell_of_entry = cell_is names entry cell is in
    rw cell_of_entry.attr_is (wanted_fits names (slice_get C.attributes entry.attr.0) entry.term fits cell.want cell_of_entry.want_is)

-- a cell is on the part that its entry is on
part_there : (pattern : PatternLists) (names : List (List ℕ)) (entry : Entry) (cell : PatternCell) → is_on_part pattern entry ≡ true → cell_of names entry ≡ Some cell
    → has_part pattern cell ≡ true
part_there pattern names entry cell on is =
    let cell_of_entry = cell_is names entry cell is in
    rw (cell_of_entry.attr_is, cell_of_entry.part_is) on

-- a cell is on the attribute that its entry is on
attribute_there : (count : ℕ) (names : List (List ℕ)) (entry : Entry) (cell : PatternCell) → entry.attr.0 < count → cell_of names entry ≡ Some cell → cell.attr.0 < count
attribute_there count names entry cell within is = rw (cell_is names entry cell is).attr_is within

-- the cells are on attributes that are there
pub cells_within : (schema : Presentation) (draft : Draft) (names : List (List ℕ)) (cells : List PatternCell) → IsSound schema draft
    → all_some (cell_of names) draft.entries ≡ Some cells → All (λ (cell : PatternCell). cell.attr.0 < length schema.attributes) cells
cells_within schema draft names cells sound are =
    some_all (λ (cell : PatternCell). cell.attr.0 < length schema.attributes) (cell_of names) (λ (entry : Entry). entry.attr.0 < length schema.attributes)
    (attribute_there (length schema.attributes) names) draft.entries cells sound.attributes are

-- where all pass a test, none has the fault
unless_all : {X A : Type 0} (test : X → Bool) (fault : ℕ → A) (i : ℕ) (xs : List X) → list_all test xs ≡ true
    → first_in (λ place x. fault_unless (test x) (fault place)) i xs ≡ None
unless_all test fault i [] all = refl
unless_all test fault i (x ∷ xs) all =
    let both = and_parts (test x) (list_all test xs) all in
    rw both.0 (unless_all test fault (i + 1) xs both.1)

-- a fault behind which none comes
or_else_last : {A : Type 0} (first : Option A) → or_else first None ≡ first
or_else_last None = refl
or_else_last (Some fault) = refl

-- only a variable can fail
pub only_variables : (schema : Presentation) (draft : Draft) (kinds : List Kind) (names : List (List ℕ)) (cells : List PatternCell) → IsSound schema draft
    → all_some (cell_of names) draft.entries ≡ Some cells
    → pattern_fault (signature_of schema) kinds (with_cells draft.bare cells) ≡ variable_fault (signature_of schema) kinds (with_cells draft.bare cells)
only_variables schema draft kinds names cells sound are =
    let C = signature_of schema in
    let bare : PatternLists = draft.bare in
    let pattern : PatternLists = with_cells bare cells in
    let long : length cells ≡ length draft.entries = some_long (cell_of names) draft.entries cells are in
    let most : length cells ≤ 256 = omega (arith, long, sound.few) in
    let parts : list_all (has_part pattern) cells ≡ true = some_pass (has_part pattern) (cell_of names) (is_on_part bare) (part_there bare names) draft.entries cells sound.parts are in
    let images = and_parts (all_in (is_in_range bare) 0 C.arrows) (list_all (has_part bare) bare.cells) sound.over.range in
    let range : are_in_range C pattern ≡ true = rw (images.0, parts) refl in
    let fits : PatternCell → Bool = λ cell. fits_constant (slice_get C.attributes cell.attr.0) cell.want in
    let constants : constant_fault C pattern ≡ None = unless_all fits (λ place. faults.Kind place) 0 cells
    (some_pass fits (cell_of names) (fits_atom C) (constant_fits C names) draft.entries cells sound.atoms are) in
    let shape : has_shape C pattern ≡ true = sound.over.shape in
    let few : has_few_parts pattern ≡ true = sound.over.few in
    let equations : equation_fault C pattern ≡ None = sound.over.equations in
    rw (shape, few, le-leb (length cells) 256 most, range, constants, equations) (or_else_last (variable_fault C kinds pattern))

-- what is made of what a test lets pass
made_of : {A B E : Type 0} (fault : E) (test : Bool) (x : A) (make : A → B) → checked fault test (Ok (make x)) ≡ and_then (checked fault test (Ok x)) (λ x. Ok (make x))
made_of fault true x make = refl
made_of fault false x make = refl

-- the pattern of a draft, where its lists and the names and the kinds of its variables are known
pub pattern_made : (schema : Presentation) (piece : Piece) (bare : PatternLists) (entries : List Entry) (names : List (List ℕ)) (kinds : List Kind) (cells : List PatternCell)
    (lists : PatternLists) → names ≡ variables_of entries → kinds ≡ kinds_of schema.attributes entries → all_some (cell_of names) entries ≡ Some cells → lists ≡ with_cells bare cells
    → pattern_with schema piece bare entries
    ≡ and_then (pattern_of (signature_of schema) piece kinds lists) (λ pattern. Ok (record { pattern = pattern; variables = names; kinds = kinds }))
pattern_made schema piece bare entries names kinds cells lists names_are kinds_are cells_are lists_are =
    let make : PatternLists → PatternRead = λ pattern. record { pattern = pattern; variables = names; kinds = kinds } in
    rw (← names_are, ← kinds_are, cells_are)
    (made_of (fault_in piece 14) (is_none (variable_fault (signature_of schema) kinds (with_cells bare cells))) (with_cells bare cells) make
    ∙ ap (λ lists. and_then (pattern_of (signature_of schema) piece kinds lists) (λ pattern. Ok (make pattern))) (sym lists_are))
