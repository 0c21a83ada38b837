-- What may be wrong with the pieces of a rule and with the list of rules, by the codes of docs/FORMAT.md, and the law that a
-- reading tells the first fault.
use Rattle.std.specs.Prelude.{◌≡◌, ◌<◌, ◌⊎◌, ◌||◌, ℕ, false, true, length, List, Option, Some, None, IsSomeAnd, IsOkAnd, slice_get}
use Rattle.std.specs.List.{list_any}
use Rattle.std.specs.Str.{bytes_eq}
use Rattle.serde_json.specs.Data.{Data}
use Rattle.rw_schema.specs.declared.section.Section.TheVariants as sections
use Rattle.rw_schema.specs.declared.signature.AttrEnds.{AttrEnds}
use Rattle.rw_schema.specs.Presentation.{Presentation, signature_of}
use Rattle.rw_schema.specs.SchemaFaults.{is_name}
use Rattle.rw_schema.specs.Signature.{Signature}
use Rattle.rw_pattern.specs.PatternLists.{PatternLists}
use Rattle.rw_terms.specs.OpTables.{OpEntry}
use Rattle.rw_rule.specs.declared.kind.RuleKind.{RuleKind}
use Rattle.rw_rule.specs.Images.{is_image, is_injective, parts_of}
use Rattle.rw_rule.specs.RuleFaults.{is_sqpo}
use Rattle.rw_rule.specs.Sets.{is_set}
use Rattle.rw_doc.specs.Entries.{no_code}
use Rattle.rw_doc.specs.Numbers.{as_number_lists}
use Rattle.rw_docpattern.specs.Codes.{row}
use Rattle.rw_docpattern.specs.MapCodes.{ImagesHave, MonicHas}
use Rattle.rw_docpattern.specs.PatternCodes.{BareHas, PatternHas, RightHas}
use Rattle.rw_docpattern.specs.Patterns.{read_pattern}
use Rattle.rw_docpattern.specs.PieceCodes.{IsNameOf, ItemHas, ListHas, TellsFirstPiece, TellsList, items_written, no_piece, piece_row}
use Rattle.rw_docpattern.specs.Sets.{RightRead}
use Rattle.rw_docrule.specs.Heads.{HeadForm, RuleMembers, head_form, rule_members}
use Rattle.rw_docrule.specs.Rules.{Sides, read_rule_where, read_rules, read_sides, rule_piece}

-- ---- piece 0: the rule's own keys

-- what may be wrong with the form of a rule's own piece, where a name is taken of which this holds
abbrev pub HeadFormHas : List (List ℕ) → (List ℕ → Type 0) → Option HeadForm → ℕ → Type 0
HeadFormHas objects IsTaken form =
    row 2 (form ≡ None)
    (row 4 (IsSomeAnd form (λ form. (is_name form.name ≡ false) ⊎ (16 < form.conditions)))
    (row 5 (IsSomeAnd form (λ form. IsTaken form.name))
    (λ code. IsSomeAnd form (λ form. MonicHas objects form.monic code))))

-- what may be wrong with a rule's own piece, whose members these are, or none
abbrev pub HeadHas : List (List ℕ) → (List ℕ → Type 0) → Option RuleMembers → ℕ → Type 0
HeadHas objects IsTaken members = row 2 (members ≡ None) (λ code. IsSomeAnd members (λ members. HeadFormHas objects IsTaken (head_form members) code))

-- ---- piece 4 and piece 5: the maps

-- two parts of one object have one image, in a rule of another kind than sesqui-pushout
abbrev pub IsNotApart : RuleKind → PatternLists → List (List ℕ) → Type 0
IsNotApart kind keep images = (is_sqpo kind || is_injective keep images) ≡ false

-- what may be wrong with the map to the left of a rule with these patterns
abbrev pub LeftMapHas : Signature → RuleKind → Sides → Data → ℕ → Type 0
LeftMapHas C kind sides value =
    ImagesHave C sides.keep sides.left.pattern (row 12 (IsSomeAnd (as_number_lists value) (IsNotApart kind sides.keep)) no_code) (as_number_lists value)

-- an attribute is not set on a part of the right pattern that is no image
abbrev pub LacksValue : Signature → RightRead → List (List ℕ) → Type 0
LacksValue C right images =
    (attribute : ℕ) × (ends : AttrEnds) × (place : ℕ) × (part : ℕ) × (slice_get C.attributes attribute ≡ Some ends) × (slice_get (parts_of right.pattern ends.object.0) place ≡ Some part)
    × ((is_image images ends.object.0 part || is_set right.sets attribute part) ≡ false)

-- what may be wrong with the map to the right of a rule with these patterns
abbrev pub RightMapHas : Signature → Sides → Data → ℕ → Type 0
RightMapHas C sides value =
    ImagesHave C sides.keep sides.right.pattern (row 14 (IsSomeAnd (as_number_lists value) (LacksValue C sides.right)) no_code) (as_number_lists value)

-- ---- the pieces in order

-- what may be wrong with the pieces of a rule at the place, whose members these are
abbrev pub PiecesHave : Presentation → List OpEntry → (List ℕ → Type 0) → ℕ → Option RuleMembers → ℕ → ℕ → Type 0
PiecesHave schema ops IsTaken place members =
    piece_row 0 (HeadHas schema.objects IsTaken members)
    (piece_row 1 (λ code. IsSomeAnd members (λ m. PatternHas schema m.left code))
    (piece_row 2 (λ code. IsSomeAnd members (λ m. BareHas schema m.keep code))
    (piece_row 3 (λ code. IsSomeAnd members (λ m. IsOkAnd (read_pattern schema (rule_piece place 1) m.left) (λ left. RightHas schema ops left m.right code)))
    (piece_row 4 (λ code. IsSomeAnd members (λ m. IsOkAnd (read_sides schema ops place m) (λ sides. IsSomeAnd (head_form m) (λ form. LeftMapHas (signature_of schema) form.kind sides m.l code))))
    (piece_row 5 (λ code. IsSomeAnd members (λ m. IsOkAnd (read_sides schema ops place m) (λ sides. RightMapHas (signature_of schema) sides m.r code)))
    no_piece)))))

-- what may be wrong with a rule that a value is
abbrev pub RuleHas : Presentation → List OpEntry → (List ℕ → Type 0) → ℕ → Data → ℕ → ℕ → Type 0
RuleHas schema ops IsTaken place value = PiecesHave schema ops IsTaken place (rule_members value)

abbrev pub FirstRuleFault : Type 0
FirstRuleFault = (schema : Presentation) (ops : List OpEntry) (taken : List (List ℕ)) (place : ℕ) (value : Data)
    → TellsFirstPiece sections.Rules place (RuleHas schema ops (λ name. list_any (bytes_eq name) taken ≡ true) place value) (read_rule_where schema ops taken place value)

-- ---- the list

-- what may be wrong with a rule behind these, which are written before it: its name is none of theirs
abbrev pub RuleBehindHas : Presentation → List OpEntry → List Data → Data → ℕ → ℕ → Type 0
RuleBehindHas schema ops before value = RuleHas schema ops (IsNameOf before) (length before) value

abbrev pub FirstRulesFault : Type 0
FirstRulesFault = (schema : Presentation) (ops : List OpEntry) (value : Option Data)
    → TellsList sections.Rules (ListHas 256 value) (ItemHas (RuleBehindHas schema ops) (items_written value)) (read_rules schema ops value)
