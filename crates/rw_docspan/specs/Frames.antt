-- What spans and cospans have in common: three instances and two maps between them.
use Rattle.std.specs.Prelude.{◌≡◌, ℕ, List, [], ◌∷◌, Option, None, option_and_then, option_map, Result, Ok, if◌then◌else◌}
use Rattle.serde_json.specs.Data.{Data}
use Rattle.serde_json.specs.Find.{get}
use Rattle.rw_schema.specs.declared.section.Section.{Section}
use Rattle.rw_schema.specs.Signature.{Signature}
use Rattle.rw_spec.specs.Tabled.{Tabled}
use Rattle.rw_doc.specs.declared.fault.DocFault.{DocFault}
use Rattle.rw_doc.specs.Chain.{and_then}
use Rattle.rw_doc.specs.Json.{has_only}
use Rattle.rw_doc.specs.declared.piece.Piece.{Piece}
use Rattle.rw_docspan.specs.Instances.{read_instance, IsOfSize}

-- the keys of the instances and of the maps
pub record FrameKeys : Type 0 where
  pub first : List ℕ
  pub second : List ℕ
  pub third : List ℕ
  pub first_map : List ℕ
  pub second_map : List ℕ

-- the keys, in this order
abbrev pub all_keys : FrameKeys → List (List ℕ)
all_keys keys = keys.first ∷ keys.second ∷ keys.third ∷ keys.first_map ∷ keys.second_map ∷ []

-- what is written at them
pub record FrameMembers : Type 0 where
  pub first : Data
  pub second : Data
  pub third : Data
  pub first_map : Data
  pub second_map : Data

abbrev pub members_in : FrameKeys → Data → Option FrameMembers
members_in keys value = option_and_then (λ first. option_and_then (λ second. option_and_then (λ third. option_and_then (λ first_map.
    option_map (λ second_map. record { first = first; second = second; third = third; first_map = first_map; second_map = second_map })
    (get keys.second_map value)) (get keys.first_map value)) (get keys.third value)) (get keys.second value)) (get keys.first value)

-- an object with no other keys
abbrev pub members_of : FrameKeys → Data → Option FrameMembers
members_of keys value = if has_only (all_keys keys) value then members_in keys value else None

-- a piece of the section: 0 its keys, 1 to 3 its instances, 4 and 5 its maps
abbrev pub piece_of : Section → ℕ → Piece
piece_of section piece = record { section = section; first = piece; second = 0 }

-- the three instances
pub record ThreeLists : Type 0 where
  pub first : Tabled
  pub second : Tabled
  pub third : Tabled

abbrev pub read_three : Signature → Section → FrameMembers → Result ThreeLists DocFault
read_three C section members =
    and_then (read_instance C (piece_of section 1) members.first) (λ first.
    and_then (read_instance C (piece_of section 2) members.second) (λ second.
    and_then (read_instance C (piece_of section 3) members.third) (λ third.
    Ok (record { first = first; second = second; third = third }))))

-- each is over the signature, and of the size that is read
pub record AreOver (C : Signature) (three : ThreeLists) : Type 0 where
  pub first : three.first.signature ≡ C
  pub second : three.second.signature ≡ C
  pub third : three.third.signature ≡ C
  pub first_size : IsOfSize C three.first
  pub second_size : IsOfSize C three.second
  pub third_size : IsOfSize C three.third
