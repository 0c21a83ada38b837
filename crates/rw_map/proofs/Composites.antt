-- One map after another, as lists of images.
use Rattle.std.proofs.Common.{◌≡◌, ◌==◌, ◌∙◌, ℕ, ◌+◌, ◌<◌, true, List, [], ◌∷◌, ◌++◌, map, length, refl, sym, ap, inl, inr, zero-add, arith}
use Rattle.std.specs.List.{list_any, range_with_len}
use Rattle.std.proofs.lemmas.Bool.{cases_Bool}
use Rattle.std.proofs.lemmas.List.{length-map, map-append}
use Rattle.std.proofs.lemmas.List.FromFn.{length-map-range_with_len, get_or-map-range_with_len, map-range_with_len_more}
use Rattle.rw_schema.specs.RowLists.{list_at}
use Rattle.rw_schema.specs.Signature.{Signature, IsCategory}
use Rattle.rw_spec.specs.Homomorphism.{IsHomomorphism, after, map_of}
use Rattle.rw_spec.specs.Instance.{Instance, IsInstance, look}
use Rattle.rw_spec.specs.Natural.{SameOn}
use Rattle.rw_spec.proofs.Look.{found_contained}
use Rattle.rw_map.specs.Homs.{HasImages, IsHom, composite}

-- one list more, as at a step of a loop
pub list_more : {V : Type 0} (items : V → List ℕ) (h : ℕ → List ℕ) (before more : List V) (last : V) (n : ℕ)
    → more ≡ before ++ last ∷ [] → map items before ≡ map h (range_with_len 0 n) → items last ≡ h n → map items more ≡ map h (range_with_len 0 (n + 1))
list_more items h before more last n more_is before_is last_is =
    rw (more_is, map-append items before (last ∷ []), before_is, last_is, map-range_with_len_more h 0 n n (zero-add n)) refl

-- the list of an object
list_of : (C : Signature) (Y : Instance) (f g : List (List ℕ)) (object : ℕ) → object < C.objects → list_at (composite C Y f g) object ≡ map (map_of Y g object) (list_at f object)
list_of C Y f g object known = get_or-map-range_with_len (λ object. map (map_of Y g object) (list_at f object)) 0 C.objects object object [] known (zero-add object)

-- what is found beside a name among mapped entries is the image of what is found among the entries
look_mapped : (h : ℕ → ℕ) (names entries : List ℕ) (x : ℕ) → length entries ≡ length names → list_any (λ name. name == x) names ≡ true
    → look 0 names (map h entries) x ≡ h (look 0 names entries x)
look_mapped h [] entries x beside found = cc
look_mapped h (name ∷ names) [] x beside found = absurd (omega arith)
look_mapped h (name ∷ names) (entry ∷ entries) x beside found =
    elim (cases_Bool (name == x)) [
      | inl here ↦ rw here refl
      | inr other ↦
          let later : list_any (λ name. name == x) names ≡ true = rw other at found in
          rw other (look_mapped h names entries x (omega arith) later)
    ]

-- the composite is the one map after the other
pub composite_after : (C : Signature) (X Y : Instance) (f g : List (List ℕ)) → HasImages C X f
    → SameOn C X (map_of X (composite C Y f g)) (after (map_of Y g) (map_of X f))
composite_after C X Y f g shape object x known has =
    ap (λ (images : List ℕ). look 0 (X.names object) images x) (list_of C Y f g object known)
    ∙ look_mapped (map_of Y g object) (X.names object) (list_at f object) x (shape.each object known) (found_contained (X.names object) x has)

-- the composite has one image for each name
composite_shape : (C : Signature) (X Y : Instance) (f g : List (List ℕ)) → HasImages C X f → HasImages C X (composite C Y f g)
composite_shape C X Y f g shape =
    let long : length (composite C Y f g) ≡ C.objects = length-map-range_with_len (λ object. map (map_of Y g object) (list_at f object)) 0 C.objects in
    record {
      lists = omega arith;
      each = λ object known.
          ap length (list_of C Y f g object known) ∙ length-map (list_at f object) (map_of Y g object) ∙ shape.each object known;
    }

-- a homomorphism after another is one
pub composite_hom : (C : Signature) (X Y Z : Instance) (f g : List (List ℕ)) → IsCategory C → IsInstance C X → HasImages C X f
    → IsHomomorphism C X Y (map_of X f) → IsHomomorphism C Y Z (map_of Y g) → IsHom C X Z (composite C Y f g)
composite_hom C X Y Z f g category instance shape first second =
    let h = map_of X (composite C Y f g) in
    let same : SameOn C X h (after (map_of Y g) (map_of X f)) = composite_after C X Y f g shape in
    record {
      shape = composite_shape C X Y f g shape;
      homomorphism = record {
        natural = record {
          parts = λ object x known has.
              rw (same object x known has) (second.natural.parts object (map_of X f object x) known (first.natural.parts object x known has));
          commutes = λ a ends x there has.
              let source = ends.source.0 in
              let target = ends.target.0 in
              let source_known : source < C.objects = category.sources a ends there in
              same target (X.value a x) (category.targets a ends there) (instance.values a ends x there has)
              ∙ ap (map_of Y g target) (first.natural.commutes a ends x there has)
              ∙ second.natural.commutes a ends (map_of X f source x) there (first.natural.parts source x source_known has)
              ∙ ap (Z.value a) (sym (same source x source_known has));
        };
        keeps = λ c ends x atom there has is.
            let object = ends.object.0 in
            let known : object < C.objects = category.holders c ends there in
            ap (Z.cell c) (same object x known has)
            ∙ second.keeps c ends (map_of X f object x) atom there (first.natural.parts object x known has) (first.keeps c ends x atom there has is);
      };
    }
