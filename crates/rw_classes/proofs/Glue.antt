-- The classes of what an apex joins are a pushout, whatever their names are.
use Rattle.std.proofs.Common.{◌≡◌, ◌∙◌, ◌⊎◌, ℕ, ◌+◌, ◌-◌, ◌<◌, ◌≤◌, List, length, get_or, Some, slice_get, ap, sym, subst, inl, inr, arith}
use Rattle.std.specs.List.{Contains}
use Rattle.std.proofs.lemmas.Bool.{cases_lt}
use Rattle.std.proofs.lemmas.List.{get_or_default}
use Rattle.std.proofs.lemmas.List.Elements.{All-contains, Contains-get_or}
use Rattle.rw_schema.specs.declared.signature.ArrowEnds.{ArrowEnds}
use Rattle.rw_schema.specs.Signature.{Signature, IsCategory}
use Rattle.rw_spec.specs.Cocone.{Frame}
use Rattle.rw_spec.specs.Distinct.{AreDistinct}
use Rattle.rw_spec.specs.Homomorphism.{IsHomomorphism, after}
use Rattle.rw_spec.specs.Instance.{Instance, Has, IsInstance}
use Rattle.rw_spec.specs.Natural.{Map, IsNatural, SameOn}
use Rattle.rw_spec.proofs.Sequences.{contains_map}
use Rattle.rw_universal.specs.Gluing.{IsGluing, From, Through}
use Rattle.rw_spec.specs.Values.{HasValues}
use Rattle.rw_classes.specs.Glued.{AreGlued}
use Rattle.rw_classes.specs.Places.{count_at, joined_at, spot, either}
use Rattle.rw_classes.proofs.Sides.{spot_within, spot_at, either_left, either_right, either_spot_left, either_spot_right, joins_either}

-- both sides and the apex are instances, the apex maps to both naturally, each name stands once, and H is glued of them
module _ (C : Signature) (category : IsCategory C) (F : Frame)
    (left_instance : IsInstance C F.left) (right_instance : IsInstance C F.right) (apex_instance : IsInstance C F.apex)
    (natural_left : IsNatural C F.apex F.left F.to_left) (natural_right : IsNatural C F.apex F.right F.to_right)
    (left_apart : (object : ℕ) → object < C.objects → AreDistinct (F.left.names object))
    (right_apart : (object : ℕ) → object < C.objects → AreDistinct (F.right.names object))
    (H : Instance) (l r : Map) (numbers firsts : ℕ → List ℕ) (glued : AreGlued C F H l r numbers firsts)
  where
    -- the class of a place has a name
    has_class : (object e : ℕ) → object < C.objects → e < count_at F object → Has H object (get_or (H.names object) (get_or (numbers object) e 0) 0)
    has_class object e known below =
        let class : ℕ = get_or (numbers object) e 0 in
        let within : class < length (firsts object) = (glued.classes object known).numbered.within e below in
        let same : length (H.names object) ≡ length (firsts object) = glued.each object known in
        Contains-get_or (H.names object) class 0 (omega arith)

    -- a left part goes to a part of H
    left_parts : (object x : ℕ) → object < C.objects → Has F.left object x → Has H object (l object x)
    left_parts object x known has =
        let below : spot (F.left.names object) x < length (F.left.names object) = spot_within (F.left.names object) x has in
        subst (λ (w : ℕ). Has H object w) (sym (glued.left object x known has)) (has_class object (spot (F.left.names object) x) known (omega arith))

    -- a right part goes to a part of H
    right_parts : (object y : ℕ) → object < C.objects → Has F.right object y → Has H object (r object y)
    right_parts object y known has =
        let below : spot (F.right.names object) y < length (F.right.names object) = spot_within (F.right.names object) y has in
        subst (λ (w : ℕ). Has H object w) (sym (glued.right object y known has))
        (has_class object (length (F.left.names object) + spot (F.right.names object) y) known (omega arith))

    -- a function of both sides that agrees on the apex gives of each place what it gives of the first of its class
    factors : (object : ℕ) (d s : ℕ → ℕ) (e : ℕ) → object < C.objects → e < count_at F object
        → ((z : ℕ) → Has F.apex object z → d (F.to_left object z) ≡ s (F.to_right object z))
        → either (F.left.names object) (F.right.names object) d s (get_or (firsts object) (get_or (numbers object) e 0) 0)
        ≡ either (F.left.names object) (F.right.names object) d s e
    factors object d s e known below agree =
        (glued.classes object known).finest (either (F.left.names object) (F.right.names object) d s)
        (joins_either (F.left.names object) (F.right.names object) (F.apex.names object) (F.to_left object) (F.to_right object) d s
        (λ z has. natural_left.parts object z known has) (λ z has. natural_right.parts object z known has) agree)
        e below

    -- of each left part it gives what it gives of the first of the part's class
    factors_left : (object : ℕ) (d s : ℕ → ℕ) (x : ℕ) → object < C.objects → Has F.left object x
        → ((z : ℕ) → Has F.apex object z → d (F.to_left object z) ≡ s (F.to_right object z))
        → either (F.left.names object) (F.right.names object) d s (get_or (firsts object) (get_or (numbers object) (spot (F.left.names object) x) 0) 0) ≡ d x
    factors_left object d s x known has agree =
        let below : spot (F.left.names object) x < length (F.left.names object) = spot_within (F.left.names object) x has in
        factors object d s (spot (F.left.names object) x) known (omega arith) agree
        ∙ either_spot_left (F.left.names object) (F.right.names object) d s x has

    -- and so of each right part
    factors_right : (object : ℕ) (d s : ℕ → ℕ) (y : ℕ) → object < C.objects → Has F.right object y
        → ((z : ℕ) → Has F.apex object z → d (F.to_left object z) ≡ s (F.to_right object z))
        → either (F.left.names object) (F.right.names object) d s
        (get_or (firsts object) (get_or (numbers object) (length (F.left.names object) + spot (F.right.names object) y) 0) 0)
        ≡ s y
    factors_right object d s y known has agree =
        let below : spot (F.right.names object) y < length (F.right.names object) = spot_within (F.right.names object) y has in
        factors object d s (length (F.left.names object) + spot (F.right.names object) y) known (omega arith) agree
        ∙ either_spot_right (F.left.names object) (F.right.names object) d s y has

    -- both ways from a part of the apex lead to one part of H
    agree : SameOn C F.apex (after l F.to_left) (after r F.to_right)
    agree object z known has =
        let x : ℕ = F.to_left object z in
        let y : ℕ = F.to_right object z in
        let joined : get_or (numbers object) (spot (F.left.names object) x) 0 ≡ get_or (numbers object) (length (F.left.names object) + spot (F.right.names object) y) 0 =
        All-contains (λ (pair : ℕ × ℕ). get_or (numbers object) pair.0 0 ≡ get_or (numbers object) pair.1 0) (joined_at F object)
        (spot (F.left.names object) x, length (F.left.names object) + spot (F.right.names object) y)
        (glued.classes object known).joins
        (contains_map (λ z. (spot (F.left.names object) (F.to_left object z), length (F.left.names object) + spot (F.right.names object) (F.to_right object z))) (F.apex.names object) z has) in
        glued.left object x known (natural_left.parts object z known has)
        ∙ ap (λ class. get_or (H.names object) class 0) joined
        ∙ sym (glued.right object y known (natural_right.parts object z known has))

    -- after an arrow both ways from a part of the apex lead to one part of H
    agree_after : (a : ℕ) (ends : ArrowEnds) (z : ℕ) → slice_get C.arrows a ≡ Some ends → Has F.apex ends.source.0 z
        → l ends.target.0 (F.left.value a (F.to_left ends.source.0 z)) ≡ r ends.target.0 (F.right.value a (F.to_right ends.source.0 z))
    agree_after a ends z there has =
        ap (l ends.target.0) (sym (natural_left.commutes a ends z there has))
        ∙ agree ends.target.0 (F.apex.value a z) (category.targets a ends there) (apex_instance.values a ends z there has)
        ∙ ap (r ends.target.0) (natural_right.commutes a ends z there has)

    -- the part of H at a place is the class of a left part or of a right part
    covered : (object w : ℕ) (P Q : ℕ → Type 0) → object < C.objects → (e : ℕ) → e < count_at F object
        → get_or (H.names object) (get_or (numbers object) e 0) 0 ≡ w
        → (e < length (F.left.names object) → P (get_or (F.left.names object) e 0))
        → (length (F.left.names object) ≤ e → Q (get_or (F.right.names object) (e - length (F.left.names object)) 0))
        → From F.left l P object w ⊎ From F.right r Q object w
    covered object w P Q known e below is on_left on_right =
        let left : List ℕ = F.left.names object in
        let right : List ℕ = F.right.names object in
        elim (cases_lt e (length left)) [
          | inl here ↦
              let has : Contains left (get_or left e 0) = Contains-get_or left e 0 here in
              inl (
                get_or left e 0,
                has,
                glued.left object (get_or left e 0) known has
                    ∙ ap (λ k. get_or (H.names object) (get_or (numbers object) k 0) 0) (spot_at left e (left_apart object known) here) ∙ is,
                on_left here,
              )
          | inr past ↦
              let k : ℕ = e - length left in
              let within : k < length right = omega arith in
              let whole : length left + k ≡ e = omega arith in
              let has : Contains right (get_or right k 0) = Contains-get_or right k 0 within in
              inr (
                get_or right k 0,
                has,
                glued.right object (get_or right k 0) known has
                    ∙ ap (λ i. get_or (H.names object) (get_or (numbers object) (length left + i) 0) 0) (spot_at right k (right_apart object known) within)
                    ∙ ap (λ i. get_or (H.names object) (get_or (numbers object) i 0) 0) whole ∙ is,
                on_right past,
              )
        ]

    -- a part of H is the class at its place
    class_of : (object w : ℕ) → object < C.objects → Has H object w
        → (k : ℕ) × (k < length (firsts object)) × (get_or (H.names object) k 0 ≡ w)
    class_of object w known (k, within, there) =
        let same : length (H.names object) ≡ length (firsts object) = glued.each object known in
        (k, omega arith, get_or_default (H.names object) k 0 w within ∙ there)

    -- each arrow of H leads from names to names
    values : HasValues C H
    values a ends w there has =
        let source : ℕ = ends.source.0 in
        let target : ℕ = ends.target.0 in
        let source_known : source < C.objects = category.sources a ends there in
        let target_known : target < C.objects = category.targets a ends there in
        let class = class_of source w source_known has in
        let first : ℕ = get_or (firsts source) class.0 0 in
        let below : first < count_at F source = (glued.classes source source_known).numbered.below class.0 class.1 in
        let left : List ℕ = F.left.names source in
        let right : List ℕ = F.right.names source in
        let d : ℕ → ℕ = λ x. l target (F.left.value a x) in
        let s : ℕ → ℕ = λ y. r target (F.right.value a y) in
        let value : H.value a w ≡ either left right d s first =
        ap (H.value a) (sym class.2) ∙ glued.values a ends class.0 there class.1 in
        elim (cases_lt first (length left)) [
          | inl here ↦
              subst (λ (v : ℕ). Has H target v) (sym (value ∙ either_left left right d s first here))
              (left_parts target (F.left.value a (get_or left first 0)) target_known
              (left_instance.values a ends (get_or left first 0) there (Contains-get_or left first 0 here)))
          | inr past ↦
              let k : ℕ = first - length left in
              let within : k < length right = omega arith in
              subst (λ (v : ℕ). Has H target v) (sym (value ∙ either_right left right d s first past))
              (right_parts target (F.right.value a (get_or right k 0)) target_known
              (right_instance.values a ends (get_or right k 0) there (Contains-get_or right k 0 within)))
        ]

    -- the map from the left side is a homomorphism
    from_left : IsHomomorphism C F.left H l
    from_left = record {
      natural = record {
        parts = left_parts;
        commutes = λ a ends x there has.
            let source : ℕ = ends.source.0 in
            let known : source < C.objects = category.sources a ends there in
            let below : spot (F.left.names source) x < length (F.left.names source) = spot_within (F.left.names source) x has in
            let class : ℕ = get_or (numbers source) (spot (F.left.names source) x) 0 in
            let within : class < length (firsts source) = (glued.classes source known).numbered.within (spot (F.left.names source) x) (omega arith) in
            sym (ap (H.value a) (glued.left source x known has)
            ∙ glued.values a ends class there within
            ∙ factors_left source (λ x. l ends.target.0 (F.left.value a x)) (λ y. r ends.target.0 (F.right.value a y)) x known has
            (λ z has. agree_after a ends z there has));
      };
      keeps = glued.left_cells;
    }

    -- the map from the right side is a homomorphism
    from_right : IsHomomorphism C F.right H r
    from_right = record {
      natural = record {
        parts = right_parts;
        commutes = λ a ends y there has.
            let source : ℕ = ends.source.0 in
            let known : source < C.objects = category.sources a ends there in
            let below : spot (F.right.names source) y < length (F.right.names source) = spot_within (F.right.names source) y has in
            let place : ℕ = length (F.left.names source) + spot (F.right.names source) y in
            let class : ℕ = get_or (numbers source) place 0 in
            let within : class < length (firsts source) = (glued.classes source known).numbered.within place (omega arith) in
            sym (ap (H.value a) (glued.right source y known has)
            ∙ glued.values a ends class there within
            ∙ factors_right source (λ x. l ends.target.0 (F.left.value a x)) (λ y. r ends.target.0 (F.right.value a y)) y known has
            (λ z has. agree_after a ends z there has));
      };
      keeps = glued.right_cells;
    }

    -- a function of both sides that agrees on the apex is one of the parts of H
    finest : (object : ℕ) (d s : ℕ → ℕ) → object < C.objects
        → ((z : ℕ) → Has F.apex object z → d (F.to_left object z) ≡ s (F.to_right object z))
        → (v : ℕ → ℕ) × Through F.left l object d v × Through F.right r object s v
    finest object d s known agree =
        let names : List ℕ = H.names object in
        let h : ℕ → ℕ = either (F.left.names object) (F.right.names object) d s in
        let v : ℕ → ℕ = λ w. h (get_or (firsts object) (spot names w) 0) in
        let at : (e : ℕ) → e < count_at F object → v (get_or names (get_or (numbers object) e 0) 0) ≡ h (get_or (firsts object) (get_or (numbers object) e 0) 0) =
        λ e below.
        let class : ℕ = get_or (numbers object) e 0 in
        let within : class < length (firsts object) = (glued.classes object known).numbered.within e below in
        let same : length names ≡ length (firsts object) = glued.each object known in
        ap (λ k. h (get_or (firsts object) k 0)) (spot_at names class (glued.apart object known) (omega arith)) in (
          v,
          (λ x has.
              let below : spot (F.left.names object) x < length (F.left.names object) = spot_within (F.left.names object) x has in
              ap v (glued.left object x known has) ∙ at (spot (F.left.names object) x) (omega arith) ∙ factors_left object d s x known has agree),
          (λ y has.
              let below : spot (F.right.names object) y < length (F.right.names object) = spot_within (F.right.names object) y has in
              ap v (glued.right object y known has) ∙ at (length (F.left.names object) + spot (F.right.names object) y) (omega arith)
              ∙ factors_right object d s y known has agree),
        )

    -- H is a gluing
    pub gluing_from_classes : IsGluing C F H l r
    gluing_from_classes = record {
      values = values;
      from_left = from_left;
      from_right = from_right;
      agrees = agree;
      covers = λ object w known has.
          let class = class_of object w known has in
          let first : ℕ = get_or (firsts object) class.0 0 in
          let numbered = (glued.classes object known).numbered in
          covered object w (λ x. Unit {0}) (λ y. Unit {0}) known first (numbered.below class.0 class.1)
          (ap (λ k. get_or (H.names object) k 0) (numbered.found class.0 class.1) ∙ class.2) (λ here. tt) (λ past. tt);
      finest = finest;
      cells = λ c ends w atom there has is.
          let object : ℕ = ends.object.0 in
          let known : object < C.objects = category.holders c ends there in
          let class = class_of object w known has in
          let from = glued.cells c ends class.0 atom there class.1 (ap (H.cell c) class.2 ∙ is) in
          covered object w (λ x. F.left.cell c x ≡ Some atom) (λ y. F.right.cell c y ≡ Some atom) known from.0 from.1
          (ap (λ k. get_or (H.names object) k 0) from.2 ∙ class.2)
          (λ here. sym (either_left (F.left.names object) (F.right.names object) (F.left.cell c) (F.right.cell c) from.0 here) ∙ from.3)
          (λ past. sym (either_right (F.left.names object) (F.right.names object) (F.left.cell c) (F.right.cell c) from.0 past) ∙ from.3);
    }
