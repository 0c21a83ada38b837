-- Images that are read are a map of patterns.
use Rattle.std.proofs.Common.{◌≡◌, ◌==◌, ℕ, true, Option, Some, None, option_map, Result, Ok, Err, IfOk, List, length, refl, subst}
use Rattle.std.proofs.lemmas.Bool.{eqb-true}
use Rattle.serde_json.specs.Data.{Data}
use Rattle.rw_schema.specs.Signature.{Signature}
use Rattle.rw_pattern.specs.declared.map_fault.MapFault.{MapFault}
use Rattle.rw_pattern.specs.MapFaults.{map_fault}
use Rattle.rw_pattern.specs.PatternLists.{PatternLists}
use Rattle.rw_rule.specs.RuleFaults.{is_map}
use Rattle.rw_doc.specs.declared.end.ReadDocEnd.{ReadDocEnd}
use Rattle.rw_doc.specs.Chain.{some_or, unfaulted}
use Rattle.rw_doc.specs.Gives.{Gives}
use Rattle.rw_doc.proofs.Chains.{chain, checked_then}
use Rattle.rw_doc.specs.declared.piece.Piece.{Piece}
use Rattle.rw_docpattern.specs.Maps.{code_of, read_map}
use Rattle.rw_doc.specs.Numbers.{as_number_lists}
use Rattle.rw_doc.specs.Pieces.{fault_in}

-- one list of images for each object, which are a map of patterns
pub record IsReadMap (C : Signature) (from to : PatternLists) (images : List (List ℕ)) : Type 0 where
  pub long : length images ≡ C.objects
  pub map : is_map C from to images ≡ true

-- images without a fault are a map
map_unfaulted : (C : Signature) (piece : Piece) (from to : PatternLists) (images : List (List ℕ)) → length images ≡ C.objects
    → (fault : Option MapFault) → map_fault C from to images ≡ fault
    → (found : List (List ℕ)) → unfaulted (option_map (λ fault. fault_in piece (code_of fault)) fault) images ≡ Ok found → IsReadMap C from to found
map_unfaulted C piece from to images long None none found is =
    let same : images ≡ found = cc in
    subst (IsReadMap C from to) same (record { long = long; map = rw none refl })
map_unfaulted C piece from to images long (Some fault) some found is = let never : ⊥ = cc in absurd never

-- so are images that are read
pub map_read : (C : Signature) (piece : Piece) (from to : PatternLists) (value : Data) (images : List (List ℕ))
    → read_map C piece from to value ≡ Ok images → IsReadMap C from to images
map_read C piece from to value =
    let P = IsReadMap C from to in
    chain P (some_or (fault_in piece 2) (as_number_lists value)) _
    (λ images there. checked_then P (fault_in piece 2) (length images == C.objects) _
    (λ long. map_unfaulted C piece from to images (eqb-true (length images) C.objects long) (map_fault C from to images) refl))

-- so they are where they are read
pub long_read : (C : Signature) (piece : Piece) (from to : PatternLists) (value : Data) (result : Result (List (List ℕ)) ReadDocEnd)
    → Gives (λ images. images) result (read_map C piece from to value) → IfOk result (λ images. length images ≡ C.objects)
long_read C piece from to value (Ok images) gives = (map_read C piece from to value images gives).long
long_read C piece from to value (Err end) gives = tt
