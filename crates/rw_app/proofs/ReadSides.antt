-- What is read as a document has what determines the pushout of its span: its schema presents a category, and the names of both
-- sides are each there once.
use Rattle.std.proofs.Common.{◌≡◌, ℕ, map, List, [], length, Option, Some, None, Ok, slice_index, sym, subst, inl, inr, arith}
use Rattle.std.specs.List.{range_with_len}
use Rattle.std.specs.Prelude.{codes, IfSome, is_none}
use Rattle.std.proofs.lemmas.Bool.{cases_lt}
use Rattle.std.proofs.lemmas.List.{get_or_past, length-map}
use Rattle.serde_json.specs.Data.{Data}
use Rattle.serde_json.specs.Find.{get}
use Rattle.rw_schema.specs.First.{all_in}
use Rattle.rw_schema.specs.Presentation.{Presentation, signature_of}
use Rattle.rw_schema.specs.RowLists.{list_at}
use Rattle.rw_schema.specs.SchemaFaults.{schema_fault}
use Rattle.rw_schema.specs.Signature.{Signature, IsCategory}
use Rattle.rw_schema.proofs.Lists.{list_at_map}
use Rattle.rw_schema.proofs.Schemas.{presents_category}
use Rattle.rw_schema.specs.declared.section.Section.TheVariants.{Schema, Span}
use Rattle.rw_spec.specs.Distinct.{AreDistinct}
use Rattle.rw_spec.specs.Tabled.{Tabled}
use Rattle.rw_spec.proofs.Ranges.{range_distinct}
use Rattle.rw_table.specs.TableFaults.{equation_fault}
use Rattle.rw_terms.specs.OpTables.{OpEntry}
use Rattle.rw_doc.specs.declared.piece.Piece.{Piece}
use Rattle.rw_doc.specs.Chain.{some_or}
use Rattle.rw_doc.specs.Faults.{fault_of}
use Rattle.rw_doc.specs.Instances.{rows_of}
use Rattle.rw_doc.specs.Json.{has_only}
use Rattle.rw_doc.specs.Pieces.{fault_in}
use Rattle.rw_doc.specs.Schemas as schemas
use Rattle.rw_doc.proofs.Chains.{chain, checked_then}
use Rattle.rw_doc.proofs.SoundSchemas.{sections_sound}
use Rattle.rw_docspan.specs.Frames.{FrameMembers, ThreeLists, members_of, piece_of, read_three}
use Rattle.rw_docspan.specs.Instances.{read_instance, form_of, has_lengths, is_in_limits, has_images, cells_of}
use Rattle.rw_docspan.specs.Spans.{SpanLists, read_span, read_span_maps, read_span_pieces, span_keys, span_of}
use Rattle.rw_document.specs.Documents as documents
use Rattle.rw_document.specs.Models.{DocumentLists}

-- ---- spans

-- each object's names are each there once
abbrev pub HasNamesApart : Tabled → Type 0
HasNamesApart table = (object : ℕ) → AreDistinct (list_at table.rows.names object)

-- names that are counted from 0 are apart
counted_apart : (parts : List ℕ) (object : ℕ) → AreDistinct (list_at (map (range_with_len 0) parts) object)
counted_apart parts object =
    elim (cases_lt object (length parts)) [
      | inl within ↦ subst (λ names. AreDistinct names) (sym (list_at_map (range_with_len 0) parts object 0 within)) (range_distinct (slice_index parts object))
      | inr past ↦
          let none : list_at (map (range_with_len 0) parts) object ≡ [] = get_or_past (map (range_with_len 0) parts) object [] (rw (length-map parts (range_with_len 0)) past) in
          subst (λ names. AreDistinct names) (sym none) (λ i j i_within j_within same. absurd (omega arith))
    ]

-- the names of a piece that is read are apart
instance_apart : (C : Signature) (piece : Piece) (value : Data) (table : Tabled) → read_instance C piece value ≡ Ok table → HasNamesApart table
instance_apart C piece value =
    chain HasNamesApart (some_or (fault_in piece 2) (form_of value)) _
    (λ form there. checked_then HasNamesApart (fault_in piece 2) (has_lengths C form) _
    (λ long. checked_then HasNamesApart (fault_in piece 4) (is_in_limits form) _
    (λ few. checked_then HasNamesApart (fault_in piece 8) (all_in (has_images form.parts form.rows) 0 C.arrows) _
    (λ within. chain HasNamesApart (some_or (fault_in piece 9) (cells_of C form.cells)) _
    (λ cells read. checked_then HasNamesApart (fault_in piece 10) (is_none (equation_fault C (rows_of form.parts form.rows cells)))
    (Ok (record { signature = C; rows = rows_of form.parts form.rows cells }))
    (λ equal table is.
    let same : record { signature = C; rows = rows_of form.parts form.rows cells } ≡ table = cc in
    subst HasNamesApart same (counted_apart form.parts)))))))

-- the names of both sides of a span are apart
pub record HasSidesApart (span : SpanLists) : Type 0 where
  pub left : HasNamesApart span.left
  pub right : HasNamesApart span.right

-- of the three instances of a span that are read, the names of the last two are apart
three_apart : (C : Signature) (members : FrameMembers) (three : ThreeLists) → read_three C Span members ≡ Ok three → HasNamesApart three.second × HasNamesApart three.third
three_apart C members =
    let AreApart : ThreeLists → Type 0 = λ three. HasNamesApart three.second × HasNamesApart three.third in
    chain AreApart (read_instance C (piece_of Span 1) members.first) _
    (λ first first_is. chain AreApart (read_instance C (piece_of Span 2) members.second) _
    (λ second second_is. chain AreApart (read_instance C (piece_of Span 3) members.third) _
    (λ third third_is three is.
    let read : ThreeLists = record { first = first; second = second; third = third } in
    let same : read ≡ three = cc in
    subst AreApart same (instance_apart C (piece_of Span 2) members.second second second_is, instance_apart C (piece_of Span 3) members.third third third_is))))

-- those of a span that is read
span_apart : (C : Signature) (value : Data) (span : SpanLists) → read_span C value ≡ Ok span → HasSidesApart span
span_apart C value =
    chain HasSidesApart (some_or (fault_in (piece_of Span 0) 2) (members_of span_keys value)) (read_span_pieces C)
    (λ members there. chain HasSidesApart (read_three C Span members) _
    (λ three three_is. chain HasSidesApart (read_span_maps C members three) _
    (λ maps maps_are span is.
    let same : span_of three maps ≡ span = cc in
    let apart : HasNamesApart three.second × HasNamesApart three.third = three_apart C members three three_is in
    subst HasSidesApart same (record { left = apart.0; right = apart.1 }))))

-- those of a span that may be absent
span_or_none_apart : (C : Signature) (value : Option Data) (span : Option SpanLists) → documents.span_or_none C value ≡ Ok span → IfSome span HasSidesApart
span_or_none_apart C None span is = let same : None ≡ span = cc in subst (λ span. IfSome span HasSidesApart) same tt
span_or_none_apart C (Some value) span is =
    chain (λ span. IfSome span HasSidesApart) (read_span C value) _
    (λ read read_is other is_other.
    let same : Some read ≡ other = cc in
    subst (λ span. IfSome span HasSidesApart) same (span_apart C value read read_is)) span is

-- ---- schemas

-- what is read as a schema has no fault
schema_sound : (value : Data) (schema : Presentation) → schemas.read_schema value ≡ Ok schema → schema_fault schema ≡ None
schema_sound value =
    let IsFaultless : Presentation → Type 0 = λ schema. schema_fault schema ≡ None in
    checked_then IsFaultless (fault_of 2 Schema) (has_only schemas.schema_keys value) _
    (λ keys. chain IsFaultless (some_or (fault_of 2 Schema) (get (codes "objects") value)) _
    (λ objects_value objects_there. chain IsFaultless (some_or (fault_of 2 Schema) (get (codes "arrows") value)) _
    (λ arrows_value arrows_there. chain IsFaultless (schemas.read_objects objects_value) _
    (λ objects objects_are. chain IsFaultless (schemas.read_arrows objects arrows_value) _
    (λ arrows arrows_are. chain IsFaultless (schemas.read_attributes objects (get (codes "attributes") value)) _
    (λ attributes attributes_are. chain IsFaultless (schemas.read_equations objects arrows (get (codes "equations") value)) _
    (λ equations equations_are schema is.
    let read : Presentation = record { objects = objects; arrows = arrows; attributes = attributes; equations = equations } in
    let same : read ≡ schema = cc in
    subst IsFaultless same
    (sections_sound objects_value arrows_value (get (codes "attributes") value) (get (codes "equations") value) objects arrows attributes equations
    objects_are arrows_are attributes_are equations_are))))))))

-- ---- documents

-- the schema presents a category, and the names of both sides of the span, where there is one, are apart
pub record IsReadWell (document : DocumentLists) : Type 0 where
  pub category : IsCategory (signature_of document.schema)
  pub span : IfSome document.span HasSidesApart

-- the sides of the span that is written are apart
ends_well : (schema : Presentation) (value : Data) (ends : documents.Ends) → documents.read_ends (signature_of schema) value ≡ Ok ends → IfSome ends.span HasSidesApart
ends_well schema value =
    let IsWell : documents.Ends → Type 0 = λ ends. IfSome ends.span HasSidesApart in
    chain IsWell (documents.span_or_none (signature_of schema) (get (codes "span") value)) _
    (λ span span_is. chain IsWell (documents.cospan_or_none (signature_of schema) (get (codes "cospan") value)) _
    (λ cospan cospan_is ends is.
    let read : documents.Ends = record { span = span; cospan = cospan } in
    let same : read ≡ ends = cc in
    subst IsWell same (span_or_none_apart (signature_of schema) (get (codes "span") value) span span_is)))

-- and so they are with the rules and watches that are written
others_well : (ops : List OpEntry) (schema : Presentation) (value : Data) (others : documents.Others) → documents.read_others schema ops value ≡ Ok others
    → IfSome others.ends.span HasSidesApart
others_well ops schema value =
    let IsWell : documents.Others → Type 0 = λ others. IfSome others.ends.span HasSidesApart in
    chain IsWell (documents.read_goals schema ops value) _
    (λ goals goals_are. chain IsWell (documents.read_ends (signature_of schema) value) _
    (λ ends ends_are. chain IsWell (documents.build_all value goals.rules) _
    (λ rules rules_are others is.
    let read : documents.Others = record { rules = rules; watches = goals.watches; ends = ends } in
    let same : read ≡ others = cc in
    subst IsWell same (ends_well schema value ends ends_are))))

-- the document over a schema that was read
over_well : (ops : List OpEntry) (schema : Presentation) → IsCategory (signature_of schema) → (value : Data) (document : DocumentLists)
    → documents.read_over schema ops value ≡ Ok document → IsReadWell document
over_well ops schema category value =
    chain IsReadWell (documents.instance_or_none (signature_of schema) (documents.allows_blanks value) (get (codes "instance") value)) _
    (λ table table_is. chain IsReadWell (documents.read_others schema ops value) _
    (λ others others_are document is.
    let read : DocumentLists = documents.document_with schema table others in
    let same : read ≡ document = cc in
    subst IsReadWell same (record { category = category; span = others_well ops schema value others others_are })))

-- the document that a value is
value_well : (ops : List OpEntry) (value : Data) (document : DocumentLists) → documents.read_value ops value ≡ Ok document → IsReadWell document
value_well ops value =
    chain IsReadWell (documents.schema_in value) _
    (λ written written_is. chain IsReadWell (schemas.read_schema written) _
    (λ schema schema_is. over_well ops schema (presents_category schema (schema_sound written schema schema_is)) value))

-- the document that bytes are
pub document_well : (ops : List OpEntry) (bytes : List ℕ) (document : DocumentLists) → documents.read_document ops bytes ≡ Ok document → IsReadWell document
document_well ops bytes =
    chain IsReadWell (documents.read_json bytes) (documents.read_value ops) (λ value read. value_well ops value)
