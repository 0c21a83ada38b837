-- Each object has one mark.
use Rattle.std.proofs.Common.{◌≡◌, ◌==◌, ℕ, Bool, Option, Some, None, option_map, List, length, subst}
use Rattle.std.specs.List.{list_any}
use Rattle.std.proofs.lemmas.List.FromFn.{length-map-range_with_len}
use Rattle.rw_schema.specs.declared.ids.ObjectId.{ObjectId}
use Rattle.rw_doc.specs.Chain.{all_some}
use Rattle.rw_docpattern.specs.Objects.{marks_named, marks_of, object_named}

-- the marks of objects, where some are listed
marks_if_listed : (objects : ℕ) (listed : Option (List ObjectId)) (marks : List Bool) → option_map (marks_of objects) listed ≡ Some marks → length marks ≡ objects
marks_if_listed objects None marks is = let never : ⊥ = cc in absurd never
marks_if_listed objects (Some listed) marks is =
    let same : marks_of objects listed ≡ marks = cc in
    subst (λ marks. length marks ≡ objects) same (length-map-range_with_len (λ object. list_any (λ (other : ObjectId). other.0 == object) listed) 0 objects)

-- the marks of the objects with names
pub marks_long : (objects names : List (List ℕ)) (marks : List Bool) → marks_named objects names ≡ Some marks → length marks ≡ length objects
marks_long objects names marks is = marks_if_listed (length objects) (all_some (object_named objects) names) marks is
