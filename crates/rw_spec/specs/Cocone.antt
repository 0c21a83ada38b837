-- Pushouts, by their universal property: an initial cocone over two maps out of one instance.
use Rattle.rw_schema.specs.Signature.{Signature}
use Rattle.rw_spec.specs.Homomorphism.{IsHomomorphism, after}
use Rattle.rw_spec.specs.Instance.{Instance, IsInstance}
use Rattle.rw_spec.specs.Natural.{Map, SameOn}

-- two instances to be glued, and two maps that tell along what; the atoms of the right one are those that it demands
pub record Frame : Type 0 where
  pub apex : Instance
  pub left : Instance
  pub right : Instance
  pub to_left : Map
  pub to_right : Map

-- T takes both instances, and the two ways from the apex are one
pub record IsCocone (C : Signature) (F : Frame) (T : Instance) (d s : Map) : Type 0 where
  pub instance : IsInstance C T
  pub from_left : IsHomomorphism C F.left T d
  pub from_right : IsHomomorphism C F.right T s
  pub agrees : SameOn C F.apex (after d F.to_left) (after s F.to_right)

-- u leads from the cocone H to the cocone T, and commutes with the maps from both instances
pub record IsMediating (C : Signature) (F : Frame) (H : Instance) (l r : Map) (T : Instance) (d s u : Map) : Type 0 where
  pub homomorphism : IsHomomorphism C H T u
  pub from_left : SameOn C F.left (after u l) d
  pub from_right : SameOn C F.right (after u r) s

-- H is a cocone, and exactly one homomorphism leads from it to each cocone and commutes
pub record IsInitialCocone (C : Signature) (F : Frame) (H : Instance) (l r : Map) : Type 0 where
  pub cocone : IsCocone C F H l r
  pub mediating : (T : Instance) (d s : Map) → IsCocone C F T d s → (u : Map) × IsMediating C F H l r T d s u
  pub unique : (T : Instance) (d s u v : Map) → IsCocone C F T d s → IsMediating C F H l r T d s u → IsMediating C F H l r T d s v
      → SameOn C H u v
