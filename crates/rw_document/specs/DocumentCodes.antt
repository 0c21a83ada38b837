-- The sections of a document in the order of docs/FORMAT.md, and the law that the first of them with a fault gives it.
use Rattle.std.specs.Prelude.{◌≡◌, ◌<◌, ◌⊎◌, ℕ, true, false, Any, codes, List, IsSomeAnd, IsOkAnd, Err}
use Rattle.serde_json.specs.Data.{Data}
use Rattle.serde_json.specs.Find.{get}
use Rattle.rw_schema.specs.Presentation.{Presentation, signature_of}
use Rattle.rw_terms.specs.OpTables.{OpEntry}
use Rattle.rw_doc.specs.declared.fault.DocFault.{DocFault}
use Rattle.rw_doc.specs.Chain.{and_then}
use Rattle.rw_doc.specs.Entries.{Tells}
use Rattle.rw_doc.specs.Instances.{read_instance}
use Rattle.rw_doc.specs.Schemas.{read_schema}
use Rattle.rw_docspan.specs.Spans.{read_cospan, read_span}
use Rattle.rw_docrule.specs.Built.{is_built, not_built}
use Rattle.rw_docrule.specs.Rules.{names_of_rules, read_rules}
use Rattle.rw_docwatch.specs.Watches.{read_watches}
use Rattle.rw_document.specs.Documents.{allows_blanks, has_more, read_document, read_json, schema_in}

-- a section with its fault, above the sections that come later
abbrev pub section_row : ℕ → (DocFault → Type 0) → (ℕ → DocFault → Type 0) → ℕ → DocFault → Type 0
section_row number Has Others section fault = ((section ≡ number) × Has fault) ⊎ Others section fault

-- no section comes later
abbrev pub no_section : ℕ → DocFault → Type 0
no_section section fault = ⊥

-- the bytes are a value of which this holds
abbrev pub OfValue : List ℕ → (Data → Type 0) → Type 0
OfValue bytes P = IsOkAnd (read_json bytes) P

-- they are one with a schema, of which this holds
abbrev pub OfSchema : List ℕ → (Data → Presentation → Type 0) → Type 0
OfSchema bytes P = OfValue bytes (λ value. IsOkAnd (and_then (schema_in value) read_schema) (P value))

-- the document has a key that is not read yet, or a rule of which no steps are built
abbrev pub IsNotBuilt : List OpEntry → Data → Presentation → Type 0
IsNotBuilt ops value schema = (has_more value ≡ true) ⊎ IsOkAnd (read_rules schema ops (get (codes "rules") value)) (λ rules. Any (λ read. is_built read ≡ false) rules)

-- the fault of each section: the bytes, the document's own keys and format, the schema, the instance, the rules, the watches, the
-- span and the cospan, where they are written, and what is not built yet
abbrev pub DocumentHas : List OpEntry → List ℕ → ℕ → DocFault → Type 0
DocumentHas ops bytes =
    section_row 0 (λ fault. read_json bytes ≡ Err fault)
    (section_row 1 (λ fault. OfValue bytes (λ value. schema_in value ≡ Err fault))
    (section_row 2 (λ fault. OfValue bytes (λ value. IsOkAnd (schema_in value) (λ written. read_schema written ≡ Err fault)))
    (section_row 3 (λ fault. OfSchema bytes (λ value schema. IsSomeAnd (get (codes "instance") value) (λ instance. read_instance (signature_of schema) (allows_blanks value) instance ≡ Err fault)))
    (section_row 4 (λ fault. OfSchema bytes (λ value schema. read_rules schema ops (get (codes "rules") value) ≡ Err fault))
    (section_row 5 (λ fault. OfSchema bytes (λ value schema. IsOkAnd (read_rules schema ops (get (codes "rules") value))
    (λ rules. read_watches schema (names_of_rules rules) (get (codes "watches") value) ≡ Err fault)))
    (section_row 6 (λ fault. OfSchema bytes (λ value schema. IsSomeAnd (get (codes "span") value) (λ span. read_span (signature_of schema) span ≡ Err fault)))
    (section_row 7 (λ fault. OfSchema bytes (λ value schema. IsSomeAnd (get (codes "cospan") value) (λ cospan. read_cospan (signature_of schema) cospan ≡ Err fault)))
    (section_row 8 (λ fault. (fault ≡ not_built) × OfSchema bytes (IsNotBuilt ops))
    no_section))))))))

-- the fault is that of a section, and no earlier section has any
pub record IsFirstSection (Has : ℕ → DocFault → Type 0) (fault : DocFault) : Type 0 where
  pub section : ℕ
  pub stands : Has section fault
  pub before : (other : ℕ) (earlier : DocFault) → other < section → Has other earlier → ⊥

-- a reading of a document gives a value where no section has a fault, and else the fault of the first section that has one
abbrev pub FirstDocumentFault : Type 0
FirstDocumentFault = (ops : List OpEntry) (bytes : List ℕ)
    → Tells ((section : ℕ) (fault : DocFault) → DocumentHas ops bytes section fault → ⊥) (IsFirstSection (DocumentHas ops bytes)) (read_document ops bytes)
