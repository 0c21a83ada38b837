-- Lists of images that are a map of instances.
use Rattle.std.specs.Prelude.{◌≡◌, ◌<◌, ◌≤◌, ℕ, List, length, map}
use Rattle.std.specs.List.{range_with_len}
use Rattle.rw_schema.specs.RowLists.{list_at}
use Rattle.rw_schema.specs.Signature.{Signature}
use Rattle.rw_spec.specs.Homomorphism.{IsHomomorphism, map_of}
use Rattle.rw_spec.specs.Instance.{Instance, Has}

-- there is one list for each object, with one image for each name; lists beyond the objects say nothing
pub record HasImages (C : Signature) (X : Instance) (images : List (List ℕ)) : Type 0 where
  pub lists : C.objects ≤ length images
  pub each : (object : ℕ) → object < C.objects → length (list_at images object) ≡ length (X.names object)

-- each image is a name of Y
pub record IsMap (C : Signature) (X Y : Instance) (images : List (List ℕ)) : Type 0 where
  pub shape : HasImages C X images
  pub parts : (object x : ℕ) → object < C.objects → Has X object x → Has Y object (map_of X images object x)

-- the lists are a homomorphism
pub record IsHom (C : Signature) (X Y : Instance) (images : List (List ℕ)) : Type 0 where
  pub shape : HasImages C X images
  pub homomorphism : IsHomomorphism C X Y (map_of X images)

-- the lists of g after f, where f leads to Y: of each object the image under g of each image under f
abbrev pub composite : Signature → Instance → List (List ℕ) → List (List ℕ) → List (List ℕ)
composite C Y f g = map (λ object. map (map_of Y g object) (list_at f object)) (range_with_len 0 C.objects)
