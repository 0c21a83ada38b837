-- The sets of a right pattern that is read.
use Rattle.std.proofs.Common.{◌≡◌, Bool, true, ◌&&◌, is_none, None, Ok, List, [], ◌∷◌, length, refl}
use Rattle.std.specs.List.{list_all}
use Rattle.std.proofs.lemmas.Bool.{and_parts}
use Rattle.std.proofs.lemmas.List.Folds.{list_all-map}
use Rattle.serde_json.specs.Data.{Data}
use Rattle.rw_schema.specs.Presentation.{Presentation, signature_of}
use Rattle.rw_schema.specs.Signature.{Signature}
use Rattle.rw_pattern.specs.PatternFaults.{equation_fault}
use Rattle.rw_terms.specs.OpTables.{OpEntry}
use Rattle.rw_rule.specs.declared.set.SetCell.{SetCell}
use Rattle.rw_rule.specs.Sets.{fits_term, is_closed, is_on_part, set_again}
use Rattle.rw_doc.specs.Chain.{some_or}
use Rattle.rw_doc.proofs.Chains.{chain, checked_then}
use Rattle.rw_docpattern.specs.declared.entry.Entry.{Entry}
use Rattle.rw_doc.specs.declared.piece.Piece.{Piece}
use Rattle.rw_docpattern.specs.Forms.{PatternForm, pattern_keys}
use Rattle.rw_docpattern.specs.Patterns.{PatternRead, are_parts_there, bare_lists, entries_named, fits_atom, is_form_within, read_entries, read_form}
use Rattle.rw_docpattern.specs.Patterns as patterns
use Rattle.rw_doc.specs.Pieces.{fault_in}
use Rattle.rw_docpattern.specs.Sets.{RightRead, are_sets, fits_left, read_right, set_of, sets_of}
use Rattle.rw_doc.proofs.Checked.{none_is, passed}

-- each set has variables of the left pattern alone, is on a part of the right one, and its term fits; none is on a cell that an
-- earlier one is on
pub record AreSets (C : Signature) (ops : List OpEntry) (left : PatternRead) (right : RightRead) : Type 0 where
  pub closed : list_all (λ (set : SetCell). is_closed left.pattern set.term) right.sets ≡ true
  pub fit : list_all (λ (set : SetCell). is_on_part right.pattern set && fits_term C (length ops) left.kinds set) right.sets ≡ true
  pub once : set_again right.sets ≡ None

-- where all pass two tests together, all pass each of them
all_parts : {X : Type 0} (p q : X → Bool) (xs : List X) → list_all (λ x. p x && q x) xs ≡ true → (list_all p xs ≡ true) × (list_all q xs ≡ true)
all_parts p q [] all = (refl, refl)
all_parts p q (x ∷ xs) all =
    let first = and_parts (p x && q x) (list_all (λ x. p x && q x) xs) all in
    let here = and_parts (p x) (q x) first.0 in
    let later = all_parts p q xs first.1 in
    (rw here.0 later.0, rw here.1 later.1)

-- where all pass each of two tests, all pass both
all_both : {X : Type 0} (p q : X → Bool) (xs : List X) → list_all p xs ≡ true → list_all q xs ≡ true → list_all (λ x. p x && q x) xs ≡ true
all_both p q [] first second = refl
all_both p q (x ∷ xs) first second =
    let one = and_parts (p x) (list_all p xs) first in
    let other = and_parts (q x) (list_all q xs) second in
    rw (one.0, other.0) (all_both p q xs one.1 other.1)

-- entries that are read are on parts
entries_on_parts : (schema : Presentation) (piece : Piece) (form : PatternForm) (entries : List Entry) → read_entries schema piece form ≡ Ok entries
    → list_all (patterns.is_on_part (bare_lists (signature_of schema) form)) entries ≡ true
entries_on_parts schema piece form =
    let C : Signature = signature_of schema in
    let P : List Entry → Type 0 = λ entries. list_all (patterns.is_on_part (bare_lists C form)) entries ≡ true in
    checked_then P (fault_in piece 4) (is_form_within C form) _
    (λ within. chain P (some_or (fault_in piece 6) (entries_named schema.attributes form.entries)) _
    (λ entries named. checked_then P (fault_in piece 8) (are_parts_there C form entries) _
    (λ there. checked_then P (fault_in piece 9) (list_all (fits_atom C) entries) _
    (λ fit. passed P (fault_in piece 10) (is_none (equation_fault C (bare_lists C form))) entries
    (λ equal. (and_parts _ _ there).1)))))

-- sets that are read fit
pub sets_read : (schema : Presentation) (ops : List OpEntry) (piece : Piece) (left : PatternRead) (value : Data) (right : RightRead)
    → read_right schema ops piece left value ≡ Ok right → AreSets (signature_of schema) ops left right
sets_read schema ops piece left value =
    let C : Signature = signature_of schema in
    let P : RightRead → Type 0 = AreSets C ops left in
    chain P (read_form C piece pattern_keys value) _ (λ form there. chain P (read_entries schema piece form) _
    (λ entries read.
    let sets : List SetCell = sets_of ops left.variables entries in
    let right : RightRead = record { pattern = bare_lists C form; sets = sets } in
    passed P (fault_in piece 14) (are_sets C ops left sets) right
    (λ good.
    let parts = and_parts (list_all (fits_left C ops left) sets) (is_none (set_again sets)) good in
    let both = all_parts (λ (set : SetCell). is_closed left.pattern set.term) (fits_term C (length ops) left.kinds) sets parts.0 in
    let on_parts : list_all (is_on_part right.pattern) sets ≡ true =
    rw (list_all-map (is_on_part right.pattern) (set_of ops left.variables) entries) (entries_on_parts schema piece form entries read) in
    record {
      closed = both.0;
      fit = all_both (is_on_part right.pattern) (fits_term C (length ops) left.kinds) sets on_parts both.1;
      once = none_is (set_again sets) parts.1;
    })))
