-- What holds of a draft that is read.
use Rattle.std.proofs.Common.{◌≡◌, ◌<◌, ◌≤◌, ℕ, Bool, true, ◌&&◌, nat_le, is_none, Option, Some, None, option_map, Ok, List, [], length, position, refl, subst, arith}
use Rattle.std.specs.List.{All, list_all}
use Rattle.std.specs.Str.{bytes_eq}
use Rattle.std.proofs.lemmas.Bool.{and_parts, leb-true}
use Rattle.std.proofs.lemmas.List.Quantifiers.{position-Some}
use Rattle.serde_json.specs.Data.{Data}
use Rattle.rw_schema.specs.declared.atom.Kind.TheVariants as kinds
use Rattle.rw_schema.specs.declared.parts.AttrDef.{AttrDef}
use Rattle.rw_schema.specs.Presentation.{Presentation, signature_of}
use Rattle.rw_pattern.specs.PatternFaults.{are_in_range, equation_fault, has_few_parts, has_shape}
use Rattle.rw_pattern.specs.PatternLists.{PatternLists}
use Rattle.rw_doc.specs.Chain.{some_or}
use Rattle.rw_doc.proofs.Chains.{chain, checked_then, there}
use Rattle.rw_docpattern.specs.declared.entry.Entry.{Entry}
use Rattle.rw_docpattern.specs.declared.entry.WrittenEntry.{WrittenEntry}
use Rattle.rw_doc.specs.declared.piece.Piece.{Piece}
use Rattle.rw_docpattern.specs.Drafts.{Draft, IsSound, draft_of, read_draft}
use Rattle.rw_docpattern.specs.Forms.{PatternForm, form_with}
use Rattle.rw_docpattern.specs.Patterns.{are_parts_there, bare_lists, entries_named, entry_named, fits_atom, is_form_within, is_on_part, read_entries}
use Rattle.rw_doc.specs.Pieces.{fault_in}
use Rattle.rw_docpattern.specs.Terms.{is_within_limits}
use Rattle.rw_doc.proofs.Checked.{none_is, passed}
use Rattle.rw_doc.proofs.Listed.{some_all, some_long}

-- a number that a name has is one of an attribute
named_within : (attributes : List AttrDef) (written : WrittenEntry) (entry : Entry) → entry_named attributes written ≡ Some entry → entry.attr.0 < length attributes
named_within attributes written entry is = found (position test attributes) refl is
  where
    test : AttrDef → Bool
    test attribute = bytes_eq written.attribute attribute.name

    found : (place : Option ℕ) → position test attributes ≡ place
        → option_map (λ number. record { attr = record { 0 = number }; part = written.part; term = written.term }) place ≡ Some entry → entry.attr.0 < length attributes
    found None at is = let never : ⊥ = cc in absurd never
    found (Some number) at is =
        let d : AttrDef = record { name = []; object = record { 0 = 0 }; kind = kinds.Int } in
        let within : number < length attributes = (position-Some test attributes number d at).0 in
        let same : record { attr = record { 0 = number }; part = written.part; term = written.term } ≡ entry = cc in
        subst (λ (entry : Entry). entry.attr.0 < length attributes) same within

-- so are all
all_within : (attributes : List AttrDef) (written : List WrittenEntry) (entries : List Entry) → entries_named attributes written ≡ Some entries
    → All (λ (entry : Entry). entry.attr.0 < length attributes) entries
all_within attributes written entries =
    some_all (λ (entry : Entry). entry.attr.0 < length attributes) (entry_named attributes) (λ written. Unit {0})
    (λ written entry given. named_within attributes written entry) written entries (λ k d within. tt)

-- a draft of entries that are read is sound
entries_sound : (schema : Presentation) (piece : Piece) (form : PatternForm) → has_shape (signature_of schema) (bare_lists (signature_of schema) form) ≡ true
    → (entries : List Entry) → read_entries schema piece form ≡ Ok entries → IsSound schema (record { bare = bare_lists (signature_of schema) form; entries = entries })
entries_sound schema piece form shape =
    let C = signature_of schema in
    let bare : PatternLists = bare_lists C form in
    let P : List Entry → Type 0 = λ entries. IsSound schema (record { bare = bare; entries = entries }) in
    checked_then P (fault_in piece 4) (is_form_within C form) _ (λ within. chain P (some_or (fault_in piece 6) (entries_named schema.attributes form.entries)) _
    (λ entries named. checked_then P (fault_in piece 8) (are_parts_there C form entries) _
    (λ parts. checked_then P (fault_in piece 9) (list_all (fits_atom C) entries) _
    (λ atoms. passed P (fault_in piece 10) (is_none (equation_fault C bare)) entries
    (λ equal.
    let limits = and_parts (has_few_parts bare && nat_le (length form.entries) 256) (list_all (λ (entry : WrittenEntry). is_within_limits entry.term) form.entries) within in
    let counts = and_parts (has_few_parts bare) (nat_le (length form.entries) 256) limits.0 in
    let ranges = and_parts (are_in_range C bare) (list_all (is_on_part bare) entries) parts in
    let named_is : entries_named schema.attributes form.entries ≡ Some entries = there (fault_in piece 6) (entries_named schema.attributes form.entries) entries named in
    let long : length entries ≡ length form.entries = some_long (entry_named schema.attributes) form.entries entries named_is in
    let most : length form.entries ≤ 256 = leb-true (length form.entries) 256 counts.1 in
    record {
      over = record {
        holders = refl;
        shape = shape;
        few = counts.0;
        range = ranges.0;
        constants = refl;
        variables = refl;
        equations = none_is (equation_fault C bare) equal;
      };
      free = refl;
      attributes = all_within schema.attributes form.entries entries named_is;
      few = omega arith;
      parts = ranges.1;
      atoms = atoms;
    })))))

-- a draft of a form is sound
pub form_sound : (schema : Presentation) (piece : Piece) (form : PatternForm) (draft : Draft) → draft_of schema piece form ≡ Ok draft → IsSound schema draft
form_sound schema piece form =
    let C = signature_of schema in
    checked_then (IsSound schema) (fault_in piece 2) (has_shape C (bare_lists C form)) _
    (λ shape. chain (IsSound schema) (read_entries schema piece form) _
    (λ entries read draft is. let same : record { bare = bare_lists C form; entries = entries } ≡ draft = cc in
    subst (IsSound schema) same (entries_sound schema piece form shape entries read)))

-- a draft that is read is sound
pub draft_sound : (schema : Presentation) (piece : Piece) (keys : List (List ℕ)) (value : Data) (draft : Draft) → read_draft schema piece keys value ≡ Ok draft → IsSound schema draft
draft_sound schema piece keys value =
    chain (IsSound schema) (some_or (fault_in piece 2) (form_with keys value)) _ (λ form there. form_sound schema piece form)
