-- The model of a document, or its first fault, over the JSON value that its bytes are. The sections are read in the order in
-- which they stand here.
use Rattle.std.specs.Prelude.{◌==◌, ◌||◌, ℕ, Bool, false, not, is_some, codes, List, [], ◌∷◌, Option, Some, None, option_and_then, option_map, unwrap_or, Result, Ok, Err, if◌then◌else◌}
use Rattle.std.specs.Str.{is_utf8}
use Rattle.serde_json.specs.Data.{Data}
use Rattle.serde_json.specs.Find.{get}
use Rattle.serde_json.specs.Read.{read}
use Rattle.rw_schema.specs.declared.section.Section.TheVariants.{Whole}
use Rattle.rw_schema.specs.Presentation.{Presentation, signature_of}
use Rattle.rw_schema.specs.Signature.{Signature}
use Rattle.rw_spec.specs.Tabled.{Tabled}
use Rattle.rw_terms.specs.OpTables.{OpEntry}
use Rattle.rw_rule.specs.RuleLists.{RuleLists, WatchLists}
use Rattle.rw_doc.specs.declared.fault.DocFault.{DocFault}
use Rattle.rw_doc.specs.Chain.{and_then, some_or, checked}
use Rattle.rw_doc.specs.Faults.{fault_of}
use Rattle.rw_doc.specs.Instances.{read_instance, empty_instance}
use Rattle.rw_doc.specs.Json.{as_count, has_only}
use Rattle.rw_doc.specs.Schemas.{read_schema}
use Rattle.rw_docspan.specs.Spans.{SpanLists, CospanLists, read_span, read_cospan}
use Rattle.rw_docrule.specs.Built.{build_rules, not_built}
use Rattle.rw_docrule.specs.Rules.{RuleRead, names_of_rules, read_rules}
use Rattle.rw_docwatch.specs.Watches.{read_watches}
use Rattle.rw_document.specs.Models.{DocumentLists}

-- ---- the object itself: codes 2 and 3

abbrev pub document_keys : List (List ℕ)
document_keys = codes "cospan" ∷ codes "format" ∷ codes "instance" ∷ codes "rules" ∷ codes "schedule" ∷ codes "schema" ∷ codes "span" ∷ codes "watches" ∷ []

-- the format is a count, and it is 1 or 2
abbrev pub read_format : Data → Result ℕ DocFault
read_format value = and_then (some_or (fault_of 2 Whole) (as_count value)) (λ number. checked (fault_of 3 Whole) (number == 1 || number == 2) (Ok number))

-- what is written of the schema, where the object has no other keys than these, and its format is 1 or 2
abbrev pub schema_in : Data → Result Data DocFault
schema_in value = checked (fault_of 2 Whole) (has_only document_keys value)
    (and_then (some_or (fault_of 2 Whole) (get (codes "schema") value)) (λ schema.
    and_then (some_or (fault_of 2 Whole) (get (codes "format") value)) (λ format.
    and_then (read_format format) (λ number. Ok schema))))

-- ---- the instance

-- cells of the instance may be blank in format 2
abbrev pub allows_blanks : Data → Bool
allows_blanks value = unwrap_or (option_map (λ number. number == 2) (option_and_then as_count (get (codes "format") value))) false

-- where no instance is written, no object has a part; it is said whether cells may be blank
abbrev pub instance_or_none : Signature → Bool → Option Data → Result Tabled DocFault
instance_or_none C blanks None = Ok (empty_instance C)
instance_or_none C blanks (Some value) = read_instance C blanks value

-- ---- rules and watches

-- the rules and the watches of a document
pub record Goals : Type 0 where
  pub rules : List RuleRead
  pub watches : List WatchLists

-- the rules and the watches that are written; they share one list of names
abbrev pub read_goals : Presentation → List OpEntry → Data → Result Goals DocFault
read_goals schema ops value =
    and_then (read_rules schema ops (get (codes "rules") value)) (λ rules.
    and_then (read_watches schema (names_of_rules rules) (get (codes "watches") value)) (λ watches.
    Ok (record { rules = rules; watches = watches })))

-- ---- spans and cospans

-- the span and the cospan of a document
pub record Ends : Type 0 where
  pub span : Option SpanLists
  pub cospan : Option CospanLists

-- the span that is written, or none
abbrev pub span_or_none : Signature → Option Data → Result (Option SpanLists) DocFault
span_or_none C None = Ok None
span_or_none C (Some value) = and_then (read_span C value) (λ span. Ok (Some span))

-- the cospan that is written, or none
abbrev pub cospan_or_none : Signature → Option Data → Result (Option CospanLists) DocFault
cospan_or_none C None = Ok None
cospan_or_none C (Some value) = and_then (read_cospan C value) (λ cospan. Ok (Some cospan))

-- the span and the cospan that are written
abbrev pub read_ends : Signature → Data → Result Ends DocFault
read_ends C value =
    and_then (span_or_none C (get (codes "span") value)) (λ span.
    and_then (cospan_or_none C (get (codes "cospan") value)) (λ cospan.
    Ok (record { span = span; cospan = cospan })))

-- ---- what is not built yet: code 16

-- a section is there that is not read yet
abbrev pub has_more : Data → Bool
has_more value = is_some (get (codes "schedule") value)

-- the rules, where all that the document has is built so far
abbrev pub build_all : Data → List RuleRead → Result (List RuleLists) DocFault
build_all value rules = checked not_built (not (has_more value)) (build_rules rules)

-- ---- the whole

-- what a document has besides its schema and its instance
pub record Others : Type 0 where
  pub rules : List RuleLists
  pub watches : List WatchLists
  pub ends : Ends

-- the rules, watches, span and cospan that are written
abbrev pub read_others : Presentation → List OpEntry → Data → Result Others DocFault
read_others schema ops value =
    and_then (read_goals schema ops value) (λ goals.
    and_then (read_ends (signature_of schema) value) (λ ends.
    and_then (build_all value goals.rules) (λ rules.
    Ok (record { rules = rules; watches = goals.watches; ends = ends }))))

-- the document of these
abbrev pub document_with : Presentation → Tabled → Others → DocumentLists
document_with schema table others = record {
  schema = schema;
  table = table;
  rules = others.rules;
  watches = others.watches;
  span = others.ends.span;
  cospan = others.ends.cospan;
}

-- the document over this schema
abbrev pub read_over : Presentation → List OpEntry → Data → Result DocumentLists DocFault
read_over schema ops value =
    and_then (instance_or_none (signature_of schema) (allows_blanks value) (get (codes "instance") value)) (λ table.
    and_then (read_others schema ops value) (λ others. Ok (document_with schema table others)))

-- the document that a JSON value is
abbrev pub read_value : List OpEntry → Data → Result DocumentLists DocFault
read_value ops value = and_then (schema_in value) (λ written. and_then (read_schema written) (λ schema. read_over schema ops value))

-- the JSON value that bytes are: code 1
abbrev pub read_json : List ℕ → Result Data DocFault
read_json bytes = if is_utf8 bytes then some_or (fault_of 1 Whole) (read bytes) else Err (fault_of 1 Whole)

-- the model of the document that bytes are, or its first fault; its terms have operations of a table, by their numbers
abbrev pub read_document : List OpEntry → List ℕ → Result DocumentLists DocFault
read_document ops bytes = and_then (read_json bytes) (read_value ops)
