-- What names stand for.
use Rattle.std.proofs.Common.{◌≡◌, ℕ, Bool, true, nat_lt, length, position, Some, Ok, List, [], ◌∷◌, subst}
use Rattle.std.specs.Str.{bytes_eq}
use Rattle.std.proofs.lemmas.Bool.{lt-ltb}
use Rattle.std.proofs.lemmas.List.Quantifiers.{position-Some}
use Rattle.rw_schema.specs.declared.ids.ArrowId.{ArrowId}
use Rattle.rw_schema.specs.declared.ids.ObjectId.{ObjectId}
use Rattle.rw_schema.specs.declared.parts.ArrowDef.{ArrowDef}
use Rattle.rw_schema.specs.SchemaFaults.{has_arrows}
use Rattle.rw_doc.specs.declared.fault.DocFault.{DocFault}
use Rattle.rw_doc.specs.Chain.{some_or}
use Rattle.rw_doc.specs.Schemas.{object_named, arrow_named, path_named}
use Rattle.rw_doc.proofs.Chains.{chain, there, each_passes}

-- the first place that passes a test is within the list
placed : {X : Type 0} (test : X → Bool) (xs : List X) (place : ℕ) → position test xs ≡ Some place → nat_lt place (length xs) ≡ true
placed test [] place is = let never : ⊥ = cc in absurd never
placed test (x ∷ xs) place is = lt-ltb place (length (x ∷ xs)) (position-Some test (x ∷ xs) place x is).0

-- what a name stands for is an object
pub object_known : (fault : DocFault) (objects : List (List ℕ)) (name : List ℕ) (object : ObjectId)
    → object_named fault objects name ≡ Ok object → nat_lt object.0 (length objects) ≡ true
object_known fault objects name =
    let found = position (bytes_eq name) objects in
    chain (λ (object : ObjectId). nat_lt object.0 (length objects) ≡ true) (some_or fault found) (λ number. Ok (record { 0 = number }))
    (λ number is object whole. let same : record { 0 = number } ≡ object = cc in
    subst (λ (object : ObjectId). nat_lt object.0 (length objects) ≡ true) same (placed (bytes_eq name) objects number (there fault found number is)))

-- what a name stands for is an arrow
pub arrow_known : (fault : DocFault) (arrows : List ArrowDef) (name : List ℕ) (arrow : ArrowId)
    → arrow_named fault arrows name ≡ Ok arrow → nat_lt arrow.0 (length arrows) ≡ true
arrow_known fault arrows name =
    let test = λ (arrow : ArrowDef). bytes_eq name arrow.name in
    let found = position test arrows in
    chain (λ (arrow : ArrowId). nat_lt arrow.0 (length arrows) ≡ true) (some_or fault found) (λ number. Ok (record { 0 = number }))
    (λ number is arrow whole. let same : record { 0 = number } ≡ arrow = cc in
    subst (λ (arrow : ArrowId). nat_lt arrow.0 (length arrows) ≡ true) same (placed test arrows number (there fault found number is)))

-- what names stand for are arrows
pub path_known : (fault : DocFault) (arrows : List ArrowDef) (names : List (List ℕ)) (path : List ArrowId)
    → path_named fault arrows names ≡ Ok path → has_arrows (length arrows) path ≡ true
path_known fault arrows names path =
    each_passes (λ (arrow : ArrowId). nat_lt arrow.0 (length arrows)) (λ place name. arrow_named fault arrows name) (λ i. arrow_known fault arrows) 0 names path
