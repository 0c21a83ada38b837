-- The conditions of a rule, or the first fault. Each is one piece: its keys, its pattern, its map and its monic objects together.
use Rattle.std.specs.Prelude.{ℕ, ◌+◌, ◌++◌, Bool, is_none, length, List, [], ◌∷◌, Result, Ok}
use Rattle.serde_json.specs.Data.{Data}
use Rattle.rw_schema.specs.declared.section.Section.TheVariants as sections
use Rattle.rw_schema.specs.Presentation.{Presentation, signature_of}
use Rattle.rw_pattern.specs.MapFaults.{map_fault}
use Rattle.rw_pattern.specs.PatternLists.{PatternLists}
use Rattle.rw_rule.specs.RuleLists.{ConditionLists}
use Rattle.rw_doc.specs.declared.fault.DocFault.{DocFault}
use Rattle.rw_doc.specs.declared.piece.Piece.{Piece}
use Rattle.rw_doc.specs.Chain.{and_then, all_some, checked, some_or}
use Rattle.rw_doc.specs.Pieces.{fault_in}
use Rattle.rw_docpattern.specs.Drafts.{Draft, draft_of, pattern_of, with_cells}
use Rattle.rw_docpattern.specs.Objects.{read_monic}
use Rattle.rw_docpattern.specs.Patterns.{cell_of}
use Rattle.rw_doccondition.specs.Both.{both}
use Rattle.rw_doccondition.specs.Forms.{ConditionForm, form_of_condition}
use Rattle.rw_doccondition.specs.Images.{read_images}
use Rattle.rw_doccondition.specs.Variables.{Known, known_after}

-- a pattern without its entries, the entries, the marks of monic objects, and the images
pub record ConditionDraft : Type 0 where
  pub draft : Draft
  pub monic : List Bool
  pub images : List (List ℕ)

-- the parts of a condition with this left side, where nothing is wrong with each of them: codes 2, 4, 6, 8, 9 and 10
abbrev pub parts_of : Presentation → Piece → PatternLists → ConditionForm → Result ConditionDraft DocFault
parts_of schema piece left form =
    and_then (both (draft_of schema piece form.pattern)
    (both (read_monic schema.objects piece form.monic) (read_images (signature_of schema) piece left form.pattern.sizes form.images)))
    (λ parts. Ok (record { draft = parts.0; monic = parts.1.0; images = parts.1.1 }))

-- a condition, and the variables that have a number behind it
pub record ConditionRead : Type 0 where
  pub condition : ConditionLists
  pub known : Known

-- the pattern of the draft with its entries, whose variables have these numbers: no operation stands, and no variable is of two kinds, code 14
abbrev pub pattern_with : Presentation → Piece → Known → Draft → Result PatternLists DocFault
pattern_with schema piece known draft =
    and_then (some_or (fault_in piece 14) (all_some (cell_of known.names) draft.entries)) (λ cells.
    pattern_of (signature_of schema) piece known.kinds (with_cells draft.bare cells))

-- the condition of the parts, where its map commutes with the arrows: code 11, and then 14
abbrev pub condition_of : Presentation → Piece → PatternLists → Known → Bool → ConditionDraft → Result ConditionRead DocFault
condition_of schema piece left known positive parts =
    checked (fault_in piece 11) (is_none (map_fault (signature_of schema) left parts.draft.bare parts.images))
    (and_then (pattern_with schema piece (known_after schema.attributes known parts.draft.entries) parts.draft) (λ pattern.
    Ok (record {
      condition = record { positive = positive; pattern = pattern; images = parts.images; monic = parts.monic };
      known = known_after schema.attributes known parts.draft.entries;
    })))

-- the condition that the value is, where these variables have a number
abbrev pub read_condition : Presentation → Piece → PatternLists → Known → Data → Result ConditionRead DocFault
read_condition schema piece left known value = and_then (some_or (fault_in piece 2) (form_of_condition value)) (λ form.
    and_then (parts_of schema piece left form) (condition_of schema piece left known form.positive))

-- ---- the list

-- conditions, and the variables that have a number behind them
pub record ConditionsRead : Type 0 where
  pub conditions : List ConditionLists
  pub known : Known

-- the piece of the next condition of a rule, behind so many
abbrev pub condition_piece : ℕ → ℕ → Piece
condition_piece rule place = record { section = sections.Rules; first = rule; second = 6 + place }

-- the conditions with one more
abbrev pub with_next : Presentation → ℕ → PatternLists → ConditionsRead → Data → Result ConditionsRead DocFault
with_next schema rule left before value =
    and_then (read_condition schema (condition_piece rule (length before.conditions)) left before.known value) (λ read.
    Ok (record { conditions = before.conditions ++ read.condition ∷ []; known = read.known }))

-- the conditions behind these: each numbers its variables behind those before it
abbrev pub conditions_after : Presentation → ℕ → PatternLists → ConditionsRead → List Data → Result ConditionsRead DocFault
conditions_after schema rule left before [] = Ok before
conditions_after schema rule left before (value ∷ values) =
    and_then (with_next schema rule left before value) (λ next. conditions_after schema rule left next values)

-- the conditions of a rule with this left side, whose variables have the first numbers
abbrev pub read_conditions : Presentation → ℕ → PatternLists → Known → List Data → Result ConditionsRead DocFault
read_conditions schema rule left known values = conditions_after schema rule left (record { conditions = []; known = known }) values
