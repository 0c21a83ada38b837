-- A reading of a document tells the first section with a fault.
use Rattle.std.proofs.Common.{◌≡◌, ◌⊎◌, inl, inr, ◌<◌, ℕ, suc, Bool, true, false, not, codes, Option, Some, None, IsSomeAnd, IsOkAnd, Result, Ok, Err, List, map, refl, sym, subst, arith}
use Rattle.std.specs.List.{Any, list_all}
use Rattle.serde_json.specs.Data.{Data}
use Rattle.serde_json.specs.Find.{get}
use Rattle.rw_schema.specs.Presentation.{Presentation, signature_of}
use Rattle.rw_schema.specs.Signature.{Signature}
use Rattle.rw_terms.specs.OpTables.{OpEntry}
use Rattle.rw_rule.specs.RuleLists.{RuleLists, WatchLists}
use Rattle.rw_doc.specs.declared.fault.DocFault.{DocFault}
use Rattle.rw_doc.specs.Chain.{and_then, checked}
use Rattle.rw_doc.specs.Instances.{read_instance}
use Rattle.rw_doc.specs.Schemas.{read_schema}
use Rattle.rw_docpattern.proofs.Somewhere.{any_fails, none_fails}
use Rattle.rw_docspan.specs.Spans.{read_cospan, read_span}
use Rattle.rw_docrule.specs.Built.{is_built, not_built}
use Rattle.rw_docrule.specs.Rules.{RuleRead, names_of_rules, read_rules}
use Rattle.rw_docwatch.specs.Watches.{read_watches}
use Rattle.rw_document.specs.DocumentCodes.{FirstDocumentFault, IsFirstSection, IsNotBuilt, OfSchema, OfValue, no_section, section_row}
use Rattle.rw_document.specs.Documents.{Ends, Goals, allows_blanks, build_all, cospan_or_none, document_with, has_more, instance_or_none, read_ends, read_goals, read_json, read_over, read_value, schema_in, span_or_none}
use Rattle.rw_doc.specs.Entries.{Tells}

-- what a reading tells of its sections
abbrev TellsSection : {A : Type 0} → (ℕ → DocFault → Type 0) → Result A DocFault → Type 0
TellsSection Has reading = Tells ((section : ℕ) (fault : DocFault) → Has section fault → ⊥) (IsFirstSection Has) reading

-- no section of the table is below this one
abbrev IsFromSection : ℕ → (ℕ → DocFault → Type 0) → Type 0
IsFromSection number Has = (section : ℕ) (fault : DocFault) → section < number → Has section fault → ⊥

-- so is the table without sections
from_no_section : (number : ℕ) → IsFromSection number no_section
from_no_section number section fault less has = has

-- so is one with a section more
from_section : (number : ℕ) (Has : DocFault → Type 0) (Others : ℕ → DocFault → Type 0) → IsFromSection (suc number) Others → IsFromSection number (section_row number Has Others)
from_section number Has Others others section fault less (inl has) = let same : section ≡ number = has.0 in omega arith
from_section number Has Others others section fault less (inr has) = others section fault (omega arith) has

-- what is told behind a section without a fault
behind_section : {A : Type 0} (number : ℕ) (Has : DocFault → Type 0) (Others : ℕ → DocFault → Type 0) (reading : Result A DocFault) → ((fault : DocFault) → Has fault → ⊥)
    → TellsSection Others reading → TellsSection (section_row number Has Others) reading
behind_section number Has Others (Ok x) none told = λ section fault has. elim has [ inl here ↦ none fault here.1 | inr later ↦ told section fault later ]
behind_section number Has Others (Err fault) none told = record {
  section = told.section;
  stands = inr told.stands;
  before = λ other earlier less has. elim has [ inl here ↦ none earlier here.1 | inr later ↦ told.before other earlier less later ];
}

-- a section is read, and then what comes after it
section_then : {A B : Type 0} (number : ℕ) (Has : DocFault → Type 0) (Others : ℕ → DocFault → Type 0) (first : Result A DocFault) (second : A → Result B DocFault)
    → IsFromSection (suc number) Others → ((fault : DocFault) → first ≡ Err fault → Has fault) → ((x : A) → first ≡ Ok x → (fault : DocFault) → Has fault → ⊥)
    → ((x : A) → first ≡ Ok x → TellsSection Others (second x)) → TellsSection (section_row number Has Others) (and_then first second)
section_then number Has Others (Ok x) second from fails passes later = behind_section number Has Others (second x) (passes x refl) (later x refl)
section_then number Has Others (Err fault) second from fails passes later = record {
  section = number;
  stands = inl (refl, fails fault refl);
  before = λ other earlier less has. elim has [ inl here ↦ (let same : other ≡ number = here.0 in omega arith) | inr later ↦ from other earlier (omega arith) later ];
}

-- readings within readings are readings one after the other
in_turn : {A B C : Type 0} (Has : ℕ → DocFault → Type 0) (first : Result A DocFault) (second : A → Result B DocFault) (third : B → Result C DocFault)
    → TellsSection Has (and_then first (λ x. and_then (second x) third)) → TellsSection Has (and_then (and_then first second) third)
in_turn Has (Ok x) second third told = told
in_turn Has (Err fault) second third told = told

-- what holds of a value that is read
ok_and : {A : Type 0} (reading : Result A DocFault) (x : A) (P : A → Type 0) → reading ≡ Ok x → P x → IsOkAnd reading P
ok_and (Ok y) x P is holds = let same : y ≡ x = cc in subst P (sym same) holds
ok_and (Err fault) x P is holds = cc

-- what holds of the value that is read
and_ok : {A : Type 0} (reading : Result A DocFault) (x : A) (P : A → Type 0) → reading ≡ Ok x → IsOkAnd reading P → P x
and_ok (Ok y) x P is holds = let same : y ≡ x = cc in subst P same holds
and_ok (Err fault) x P is holds = cc

-- a reading gives a value or a fault
not_both : {A : Type 0} (reading : Result A DocFault) (x : A) (fault : DocFault) → reading ≡ Ok x → reading ≡ Err fault → ⊥
not_both (Ok y) x fault is fails = cc
not_both (Err other) x fault is fails = cc

-- the fault of an instance that is written
instance_fails : (C : Signature) (blanks : Bool) (found : Option Data) (fault : DocFault) → instance_or_none C blanks found ≡ Err fault
    → IsSomeAnd found (λ value. read_instance C blanks value ≡ Err fault)
instance_fails C blanks None fault is = cc
instance_fails C blanks (Some value) fault is = is

fails_instance : (C : Signature) (blanks : Bool) (found : Option Data) (fault : DocFault) → IsSomeAnd found (λ value. read_instance C blanks value ≡ Err fault)
    → instance_or_none C blanks found ≡ Err fault
fails_instance C blanks None fault has = absurd has
fails_instance C blanks (Some value) fault has = has

-- a reading fails where what it is of fails
part_fails : {A B : Type 0} (reading : Result A DocFault) (f : A → B) (fault : DocFault) → and_then reading (λ x. Ok (f x)) ≡ Err fault → reading ≡ Err fault
part_fails (Ok x) f fault is = cc
part_fails (Err other) f fault is = let same : other ≡ fault = cc in rw same refl

fails_part : {A B : Type 0} (reading : Result A DocFault) (f : A → B) (fault : DocFault) → reading ≡ Err fault → and_then reading (λ x. Ok (f x)) ≡ Err fault
fails_part reading f fault is = rw is refl

-- the fault of a span that is written
span_fails : (C : Signature) (found : Option Data) (fault : DocFault) → span_or_none C found ≡ Err fault → IsSomeAnd found (λ value. read_span C value ≡ Err fault)
span_fails C None fault is = cc
span_fails C (Some value) fault is = part_fails (read_span C value) (λ span. Some span) fault is

fails_span : (C : Signature) (found : Option Data) (fault : DocFault) → IsSomeAnd found (λ value. read_span C value ≡ Err fault) → span_or_none C found ≡ Err fault
fails_span C None fault has = absurd has
fails_span C (Some value) fault has = fails_part (read_span C value) (λ span. Some span) fault has

-- the fault of a cospan that is written
cospan_fails : (C : Signature) (found : Option Data) (fault : DocFault) → cospan_or_none C found ≡ Err fault → IsSomeAnd found (λ value. read_cospan C value ≡ Err fault)
cospan_fails C None fault is = cc
cospan_fails C (Some value) fault is = part_fails (read_cospan C value) (λ cospan. Some cospan) fault is

fails_cospan : (C : Signature) (found : Option Data) (fault : DocFault) → IsSomeAnd found (λ value. read_cospan C value ≡ Err fault) → cospan_or_none C found ≡ Err fault
fails_cospan C None fault has = absurd has
fails_cospan C (Some value) fault has = fails_part (read_cospan C value) (λ cospan. Some cospan) fault has

-- what is not built, where a reading of rules fails at the last
unbuilt : (more : Bool) (rules : List RuleRead) (fault : DocFault) (lists : List RuleLists) → checked not_built (not more) (checked not_built (list_all is_built rules) (Ok lists)) ≡ Err fault
    → (fault ≡ not_built) × ((more ≡ true) ⊎ Any (λ read. is_built read ≡ false) rules)
unbuilt true rules fault lists is = let same : not_built ≡ fault = cc in (sym same, inl refl)
unbuilt false rules fault lists is = of_rules (list_all is_built rules) refl is
  where
    of_rules : (all : Bool) → list_all is_built rules ≡ all → checked not_built all (Ok lists) ≡ Err fault → (fault ≡ not_built) × ((false ≡ true) ⊎ Any (λ read. is_built read ≡ false) rules)
    of_rules true all is = cc
    of_rules false all is = let same : not_built ≡ fault = cc in (sym same, inr (any_fails is_built rules all))

-- all is built, where rules are given at the last
all_built : (more : Bool) (rules : List RuleRead) (lists built : List RuleLists) → checked not_built (not more) (checked not_built (list_all is_built rules) (Ok lists)) ≡ Ok built
    → (more ≡ true) ⊎ Any (λ read. is_built read ≡ false) rules → ⊥
all_built true rules lists built is has = cc
all_built false rules lists built is (inl never) = cc
all_built false rules lists built is (inr has) = of_rules (list_all is_built rules) refl is
  where
    of_rules : (all : Bool) → list_all is_built rules ≡ all → checked not_built all (Ok lists) ≡ Ok built → ⊥
    of_rules true all is = none_fails is_built rules all has
    of_rules false all is = cc

-- the sections of the bytes of a document
module _ (ops : List OpEntry) (bytes : List ℕ) where
  -- the tables of the sections that are left, from the last one
  abbrev Has3 : DocFault → Type 0
  Has3 fault = OfSchema bytes (λ value schema. IsSomeAnd (get (codes "instance") value) (λ instance. read_instance (signature_of schema) (allows_blanks value) instance ≡ Err fault))

  abbrev Has4 : DocFault → Type 0
  Has4 fault = OfSchema bytes (λ value schema. read_rules schema ops (get (codes "rules") value) ≡ Err fault)

  abbrev Has5 : DocFault → Type 0
  Has5 fault = OfSchema bytes (λ value schema. IsOkAnd (read_rules schema ops (get (codes "rules") value)) (λ rules. read_watches schema (names_of_rules rules) (get (codes "watches") value) ≡ Err fault))

  abbrev Has6 : DocFault → Type 0
  Has6 fault = OfSchema bytes (λ value schema. IsSomeAnd (get (codes "span") value) (λ span. read_span (signature_of schema) span ≡ Err fault))

  abbrev Has7 : DocFault → Type 0
  Has7 fault = OfSchema bytes (λ value schema. IsSomeAnd (get (codes "cospan") value) (λ cospan. read_cospan (signature_of schema) cospan ≡ Err fault))

  abbrev Has8 : DocFault → Type 0
  Has8 fault = (fault ≡ not_built) × OfSchema bytes (IsNotBuilt ops)

  abbrev From8 : ℕ → DocFault → Type 0
  From8 = section_row 8 Has8 no_section

  abbrev From7 : ℕ → DocFault → Type 0
  From7 = section_row 7 Has7 From8

  abbrev From6 : ℕ → DocFault → Type 0
  From6 = section_row 6 Has6 From7

  abbrev From5 : ℕ → DocFault → Type 0
  From5 = section_row 5 Has5 From6

  abbrev From4 : ℕ → DocFault → Type 0
  From4 = section_row 4 Has4 From5

  abbrev From3 : ℕ → DocFault → Type 0
  From3 = section_row 3 Has3 From4

  -- they stand in order
  order8 : IsFromSection 8 From8
  order8 = from_section 8 Has8 no_section (from_no_section 9)

  order7 : IsFromSection 7 From7
  order7 = from_section 7 Has7 From8 order8

  order6 : IsFromSection 6 From6
  order6 = from_section 6 Has6 From7 order7

  order5 : IsFromSection 5 From5
  order5 = from_section 5 Has5 From6 order6

  order4 : IsFromSection 4 From4
  order4 = from_section 4 Has4 From5 order5

  order3 : IsFromSection 3 From3
  order3 = from_section 3 Has3 From4 order4

  -- the value and the schema that are read
  module _ (value : Data) (is_value : read_json bytes ≡ Ok value) (schema : Presentation) (is_schema : and_then (schema_in value) read_schema ≡ Ok schema) where
    -- what holds of them
    with_schema : (P : Data → Presentation → Type 0) → P value schema → OfSchema bytes P
    with_schema P holds = ok_and (read_json bytes) value (λ value. IsOkAnd (and_then (schema_in value) read_schema) (P value)) is_value
        (ok_and (and_then (schema_in value) read_schema) schema (P value) is_schema holds)

    of_schema : (P : Data → Presentation → Type 0) → OfSchema bytes P → P value schema
    of_schema P holds = and_ok (and_then (schema_in value) read_schema) schema (P value) is_schema
        (and_ok (read_json bytes) value (λ value. IsOkAnd (and_then (schema_in value) read_schema) (P value)) is_value holds)

    -- what is not built
    built_tells : {B : Type 0} (rules : List RuleRead) (last : List RuleLists → B) → read_rules schema ops (get (codes "rules") value) ≡ Ok rules
        → TellsSection From8 (and_then (build_all value rules) (λ built. Ok (last built)))
    built_tells rules last are_rules = section_then 8 Has8 no_section (build_all value rules) (λ built. Ok (last built)) (from_no_section 9)
        (λ fault fails. let parts = unbuilt (has_more value) rules fault (map (λ (read : RuleRead). read.rule) rules) fails in (
          parts.0,
          with_schema (IsNotBuilt ops) (elim parts.1 [
            | inl more ↦ inl more
            | inr some ↦ inr (ok_and (read_rules schema ops (get (codes "rules") value)) rules (λ rules. Any (λ read. is_built read ≡ false) rules) are_rules some)
          ]),
        ))
        (λ built is fault has. all_built (has_more value) rules (map (λ (read : RuleRead). read.rule) rules) built is (elim (of_schema (IsNotBuilt ops) has.1) [
          | inl more ↦ inl more
          | inr some ↦ inr (and_ok (read_rules schema ops (get (codes "rules") value)) rules (λ rules. Any (λ read. is_built read ≡ false) rules) are_rules some)
        ]))
        (λ built is section fault has. has)

    -- the span and the cospan, and then what comes after them
    ends_tell : {B : Type 0} (second : Ends → Result B DocFault) → ((ends : Ends) → TellsSection From8 (second ends)) → TellsSection From6 (and_then (read_ends (signature_of schema) value) second)
    ends_tell second later =
        let C : Signature = signature_of schema in
        in_turn From6 (span_or_none C (get (codes "span") value)) _ second
        (section_then 6 Has6 From7 (span_or_none C (get (codes "span") value)) _ order7
        (λ fault fails. with_schema (λ value schema. IsSomeAnd (get (codes "span") value) (λ span. read_span (signature_of schema) span ≡ Err fault)) (span_fails C (get (codes "span") value) fault fails))
        (λ span is fault has. not_both (span_or_none C (get (codes "span") value)) span fault is (fails_span C (get (codes "span") value) fault
        (of_schema (λ value schema. IsSomeAnd (get (codes "span") value) (λ span. read_span (signature_of schema) span ≡ Err fault)) has)))
        (λ span is_span. in_turn From7 (cospan_or_none C (get (codes "cospan") value)) _ second
        (section_then 7 Has7 From8 (cospan_or_none C (get (codes "cospan") value)) _ order8
        (λ fault fails. with_schema (λ value schema. IsSomeAnd (get (codes "cospan") value) (λ cospan. read_cospan (signature_of schema) cospan ≡ Err fault)) (cospan_fails C (get (codes "cospan") value) fault fails))
        (λ cospan is fault has. not_both (cospan_or_none C (get (codes "cospan") value)) cospan fault is (fails_cospan C (get (codes "cospan") value) fault
        (of_schema (λ value schema. IsSomeAnd (get (codes "cospan") value) (λ cospan. read_cospan (signature_of schema) cospan ≡ Err fault)) has)))
        (λ cospan is_cospan. later (record { span = span; cospan = cospan })))))

    -- the rules and the watches, and then what comes after them
    goals_tell : {B : Type 0} (second : Goals → Result B DocFault)
        → ((rules : List RuleRead) (watches : List WatchLists) → read_rules schema ops (get (codes "rules") value) ≡ Ok rules → TellsSection From6 (second (record { rules = rules; watches = watches })))
        → TellsSection From4 (and_then (read_goals schema ops value) second)
    goals_tell second later =
        let IsRulesFault : DocFault → Data → Presentation → Type 0 = λ fault value schema. read_rules schema ops (get (codes "rules") value) ≡ Err fault in
        let IsWatchesFault : DocFault → Data → Presentation → Type 0 = λ fault value schema. IsOkAnd (read_rules schema ops (get (codes "rules") value))
        (λ rules. read_watches schema (names_of_rules rules) (get (codes "watches") value) ≡ Err fault) in
        in_turn From4 (read_rules schema ops (get (codes "rules") value)) _ second
        (section_then 4 Has4 From5 (read_rules schema ops (get (codes "rules") value)) _ order5
        (λ fault fails. with_schema (IsRulesFault fault) fails)
        (λ rules is fault has. not_both (read_rules schema ops (get (codes "rules") value)) rules fault is (of_schema (IsRulesFault fault) has))
        (λ rules is_rules. in_turn From5 (read_watches schema (names_of_rules rules) (get (codes "watches") value)) _ second
        (section_then 5 Has5 From6 (read_watches schema (names_of_rules rules) (get (codes "watches") value)) _ order6
        (λ fault fails. with_schema (IsWatchesFault fault) (ok_and (read_rules schema ops (get (codes "rules") value)) rules
        (λ rules. read_watches schema (names_of_rules rules) (get (codes "watches") value) ≡ Err fault) is_rules fails))
        (λ watches is fault has. not_both (read_watches schema (names_of_rules rules) (get (codes "watches") value)) watches fault is
        (and_ok (read_rules schema ops (get (codes "rules") value)) rules (λ rules. read_watches schema (names_of_rules rules) (get (codes "watches") value) ≡ Err fault) is_rules
        (of_schema (IsWatchesFault fault) has)))
        (λ watches is_watches. later rules watches is_rules))))

    -- the instance, and all that comes after it
    over_tells : TellsSection From3 (read_over schema ops value)
    over_tells =
        let C : Signature = signature_of schema in
        let blanks : Bool = allows_blanks value in
        let IsInstanceFault : DocFault → Data → Presentation → Type 0 = λ fault value schema. IsSomeAnd (get (codes "instance") value) (λ instance. read_instance (signature_of schema) (allows_blanks value) instance ≡ Err fault) in
        section_then 3 Has3 From4 (instance_or_none C blanks (get (codes "instance") value)) _ order4
        (λ fault fails. with_schema (IsInstanceFault fault) (instance_fails C blanks (get (codes "instance") value) fault fails))
        (λ table is fault has. not_both (instance_or_none C blanks (get (codes "instance") value)) table fault is (fails_instance C blanks (get (codes "instance") value) fault (of_schema (IsInstanceFault fault) has)))
        (λ table is_table. in_turn From4 (read_goals schema ops value) _ (λ others. Ok (document_with schema table others))
        (goals_tell _ (λ rules watches are_rules. in_turn From6 (read_ends C value) _ (λ others. Ok (document_with schema table others))
        (ends_tell _ (λ ends. in_turn From8 (build_all value rules) (λ built. Ok (record { rules = built; watches = watches; ends = ends })) (λ others. Ok (document_with schema table others))
        (built_tells rules (λ built. document_with schema table (record { rules = built; watches = watches; ends = ends })) are_rules))))))

  -- the rows before the instance
  abbrev Has2 : DocFault → Type 0
  Has2 fault = OfValue bytes (λ value. IsOkAnd (schema_in value) (λ written. read_schema written ≡ Err fault))

  abbrev Has1 : DocFault → Type 0
  Has1 fault = OfValue bytes (λ value. schema_in value ≡ Err fault)

  abbrev From2 : ℕ → DocFault → Type 0
  From2 = section_row 2 Has2 From3

  abbrev From1 : ℕ → DocFault → Type 0
  From1 = section_row 1 Has1 From2

  order2 : IsFromSection 2 From2
  order2 = from_section 2 Has2 From3 order3

  order1 : IsFromSection 1 From1
  order1 = from_section 1 Has1 From2 order2

  -- the value, and then its schema and all that comes after it
  value_tells : (value : Data) → read_json bytes ≡ Ok value → TellsSection From1 (read_value ops value)
  value_tells value is_value = section_then 1 Has1 From2 (schema_in value) _ order2
      (λ fault fails. ok_and (read_json bytes) value (λ value. schema_in value ≡ Err fault) is_value fails)
      (λ written is fault has. not_both (schema_in value) written fault is (and_ok (read_json bytes) value (λ value. schema_in value ≡ Err fault) is_value has))
      (λ written is_written. section_then 2 Has2 From3 (read_schema written) _ order3
      (λ fault fails. ok_and (read_json bytes) value (λ value. IsOkAnd (schema_in value) (λ written. read_schema written ≡ Err fault)) is_value
      (ok_and (schema_in value) written (λ written. read_schema written ≡ Err fault) is_written fails))
      (λ schema is fault has. not_both (read_schema written) schema fault is (and_ok (schema_in value) written (λ written. read_schema written ≡ Err fault) is_written
      (and_ok (read_json bytes) value (λ value. IsOkAnd (schema_in value) (λ written. read_schema written ≡ Err fault)) is_value has)))
      (λ schema is_schema. over_tells value is_value schema (rw is_written is_schema)))

-- documents
pub document_tells : FirstDocumentFault
document_tells ops bytes = section_then 0 (λ fault. read_json bytes ≡ Err fault) (From1 ops bytes) (read_json bytes) (read_value ops) (order1 ops bytes) (λ fault fails. fails)
    (λ value is fault fails. not_both (read_json bytes) value fault is fails) (λ value is_value. value_tells ops bytes value is_value)
