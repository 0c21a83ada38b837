-- The images of a natural map.
use Rattle.std.proofs.Common.{◌∙◌, ℕ, ◌<◌, All, List, length, get_or, subst, arith}
use Rattle.std.specs.List.{Contains}
use Rattle.std.proofs.lemmas.List.{get_or_default}
use Rattle.std.proofs.lemmas.List.Elements.{Contains-get_or}
use Rattle.rw_schema.specs.RowLists.{list_at}
use Rattle.rw_schema.specs.Signature.{Signature}
use Rattle.rw_spec.specs.Distinct.{AreDistinct}
use Rattle.rw_spec.specs.Homomorphism.{map_of}
use Rattle.rw_spec.specs.Instance.{Instance, Has}
use Rattle.rw_spec.specs.Natural.{IsNatural}
use Rattle.rw_spec.proofs.Look.{look_at}
use Rattle.rw_map.specs.Homs.{HasImages}

-- each image is a name of the other instance
pub images_within : (C : Signature) (X Y : Instance) (images : List (List ℕ)) (object : ℕ) → HasImages C X images → IsNatural C X Y (map_of X images)
    → AreDistinct (X.names object) → object < C.objects → All (Contains (Y.names object)) (list_at images object)
images_within C X Y images object shape natural distinct known k d within =
    let below : k < length (X.names object) = omega (arith, shape.each object known) in
    let there : Has Y object (map_of X images object (get_or (X.names object) k 0)) =
    natural.parts object (get_or (X.names object) k 0) known (Contains-get_or (X.names object) k 0 below) in
    subst (Contains (Y.names object)) (look_at 0 (X.names object) (list_at images object) k distinct below ∙ get_or_default (list_at images object) k 0 d within) there
