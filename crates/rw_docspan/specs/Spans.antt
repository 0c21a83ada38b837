-- The span and the cospan of a document, or their first faults.
use Rattle.std.specs.Prelude.{◌≡◌, ℕ, codes, List, Result, Ok}
use Rattle.serde_json.specs.Data.{Data}
use Rattle.rw_schema.specs.declared.section.Section.TheVariants as sections
use Rattle.rw_schema.specs.Signature.{Signature}
use Rattle.rw_spec.specs.Tabled.{Tabled, instance_of_table}
use Rattle.rw_map.specs.Homs.{IsHom}
use Rattle.rw_doc.specs.declared.fault.DocFault.{DocFault}
use Rattle.rw_doc.specs.Chain.{and_then, some_or}
use Rattle.rw_doc.specs.Pieces.{fault_in}
use Rattle.rw_docspan.specs.Frames.{FrameKeys, FrameMembers, ThreeLists, members_of, piece_of, read_three}
use Rattle.rw_docspan.specs.Instances.{IsOfSize}
use Rattle.rw_docspan.specs.Maps.{read_map}

-- the two maps
pub record TwoMaps : Type 0 where
  pub first : List (List ℕ)
  pub second : List (List ℕ)

-- ---- spans

pub record SpanLists : Type 0 where
  pub apex : Tabled
  pub left : Tabled
  pub right : Tabled
  pub to_left : List (List ℕ)
  pub to_right : List (List ℕ)

abbrev pub span_keys : FrameKeys
span_keys = record { first = codes "apex"; second = codes "left"; third = codes "right"; first_map = codes "to_left"; second_map = codes "to_right" }

-- the maps out of the apex
abbrev pub read_span_maps : Signature → FrameMembers → ThreeLists → Result TwoMaps DocFault
read_span_maps C members three =
    and_then (read_map C (piece_of sections.Span 4) three.first three.second members.first_map) (λ to_left.
    and_then (read_map C (piece_of sections.Span 5) three.first three.third members.second_map) (λ to_right.
    Ok (record { first = to_left; second = to_right })))

-- the span of three instances and two maps
abbrev pub span_of : ThreeLists → TwoMaps → SpanLists
span_of three maps = record { apex = three.first; left = three.second; right = three.third; to_left = maps.first; to_right = maps.second }

abbrev pub read_span_pieces : Signature → FrameMembers → Result SpanLists DocFault
read_span_pieces C members = and_then (read_three C sections.Span members) (λ three. and_then (read_span_maps C members three) (λ maps. Ok (span_of three maps)))

abbrev pub read_span : Signature → Data → Result SpanLists DocFault
read_span C value = and_then (some_or (fault_in (piece_of sections.Span 0) 2) (members_of span_keys value)) (read_span_pieces C)

-- both maps are homomorphisms
pub record AreSpanMaps (C : Signature) (three : ThreeLists) (maps : TwoMaps) : Type 0 where
  pub to_left : IsHom C (instance_of_table three.first) (instance_of_table three.second) maps.first
  pub to_right : IsHom C (instance_of_table three.first) (instance_of_table three.third) maps.second

-- all of it is over the signature, both maps are homomorphisms, and the instances are of the size that is read
pub record IsSpanOver (C : Signature) (span : SpanLists) : Type 0 where
  pub apex : span.apex.signature ≡ C
  pub left : span.left.signature ≡ C
  pub right : span.right.signature ≡ C
  pub to_left : IsHom C (instance_of_table span.apex) (instance_of_table span.left) span.to_left
  pub to_right : IsHom C (instance_of_table span.apex) (instance_of_table span.right) span.to_right
  pub left_size : IsOfSize C span.left
  pub right_size : IsOfSize C span.right

-- ---- cospans

pub record CospanLists : Type 0 where
  pub left : Tabled
  pub right : Tabled
  pub base : Tabled
  pub left_map : List (List ℕ)
  pub right_map : List (List ℕ)

abbrev pub cospan_keys : FrameKeys
cospan_keys = record { first = codes "left"; second = codes "right"; third = codes "base"; first_map = codes "left_map"; second_map = codes "right_map" }

-- the maps into the base
abbrev pub read_cospan_maps : Signature → FrameMembers → ThreeLists → Result TwoMaps DocFault
read_cospan_maps C members three =
    and_then (read_map C (piece_of sections.Cospan 4) three.first three.third members.first_map) (λ left_map.
    and_then (read_map C (piece_of sections.Cospan 5) three.second three.third members.second_map) (λ right_map.
    Ok (record { first = left_map; second = right_map })))

-- the cospan of three instances and two maps
abbrev pub cospan_of : ThreeLists → TwoMaps → CospanLists
cospan_of three maps = record { left = three.first; right = three.second; base = three.third; left_map = maps.first; right_map = maps.second }

abbrev pub read_cospan_pieces : Signature → FrameMembers → Result CospanLists DocFault
read_cospan_pieces C members = and_then (read_three C sections.Cospan members) (λ three. and_then (read_cospan_maps C members three) (λ maps. Ok (cospan_of three maps)))

abbrev pub read_cospan : Signature → Data → Result CospanLists DocFault
read_cospan C value = and_then (some_or (fault_in (piece_of sections.Cospan 0) 2) (members_of cospan_keys value)) (read_cospan_pieces C)

-- both maps are homomorphisms
pub record AreCospanMaps (C : Signature) (three : ThreeLists) (maps : TwoMaps) : Type 0 where
  pub left_map : IsHom C (instance_of_table three.first) (instance_of_table three.third) maps.first
  pub right_map : IsHom C (instance_of_table three.second) (instance_of_table three.third) maps.second

-- all of it is over the signature, and both maps are homomorphisms
pub record IsCospanOver (C : Signature) (cospan : CospanLists) : Type 0 where
  pub left : cospan.left.signature ≡ C
  pub right : cospan.right.signature ≡ C
  pub base : cospan.base.signature ≡ C
  pub left_map : IsHom C (instance_of_table cospan.left) (instance_of_table cospan.base) cospan.left_map
  pub right_map : IsHom C (instance_of_table cospan.right) (instance_of_table cospan.base) cospan.right_map
