-- An order in which arrows point backwards gives ranks, and can be gone through from any objects that arrows do not leave.
use Rattle.std.proofs.Common.{◌≡◌, ◌∙◌, ◌⊎◌, ◌<◌, ◌+◌, ◌==◌, ℕ, zero, suc, inl, inr, Bool, not, List, [], ◌∷◌, Contains, Some, map, filter, slice_get, sym, ap, subst, arith, refl}
use Rattle.std.specs.List.{list_any}
use Rattle.std.proofs.lemmas.Bool.{both_ways, cases_Bool, cases_eq, eq-eqb, ne_eqb}
use Rattle.rw_schema.specs.declared.ids.ObjectId.{ObjectId}
use Rattle.rw_schema.specs.Signature.{Signature}
use Rattle.rw_schema.specs.Topological.{IsTopological}
use Rattle.rw_spec.proofs.Look.{contains_cases, contains_found, found_contained}
use Rattle.rw_spec.proofs.Sequences.{contains_first, contains_filter, contains_later, contains_map, contains_none}
use Rattle.rw_copies.specs.Copying.{IsRank}
use Rattle.rw_copies.specs.Order.{IsInOrder, place_in}

-- an object that stands in the order stands at its first place
at_place : (order : List ObjectId) (p x : ℕ) → slice_get order p ≡ Some (record { 0 = x }) → slice_get order (place_in order x) ≡ Some (record { 0 = x })
at_place [] p x there = let no : ⊥ = cc in absurd no
at_place (y ∷ order) zero x there =
    let same : y ≡ record { 0 = x } = cc in
    rw (eq-eqb y.0 x (ap (λ (o : ObjectId). o.0) same)) there
at_place (y ∷ order) (suc p) x there =
    elim (cases_eq y.0 x) [
      | inl same ↦ rw (eq-eqb y.0 x same) (subst (λ (n : ℕ). Some y ≡ Some (record { 0 = n })) same refl)
      | inr other ↦ rw (ne_eqb y.0 x other) (at_place order p x there)
    ]

-- the place in such an order is a rank
pub rank_from_order : (C : Signature) (order : List ObjectId) → IsTopological C order → IsRank C (place_in order)
rank_from_order C order topological a ends is =
    let before = topological.targets_first a ends is in
    let target = topological.once (place_in order ends.target.0) before.first_place (record { 0 = ends.target.0 }) (at_place order before.first_place ends.target.0 before.first_is) before.first_is in
    let source = topological.once (place_in order ends.source.0) before.second_place (record { 0 = ends.source.0 }) (at_place order before.second_place ends.source.0 before.second_is) before.second_is in
    let less = before.before in
    omega arith

-- the numbers of the objects of an order
abbrev pub numbers_of : List ObjectId → List ℕ
numbers_of order = map (λ (o : ObjectId). o.0) order

-- the rest of the order is in order, after the first n objects
in_order_from : (C : Signature) (order : List ObjectId) → IsTopological C order → (n : ℕ) (before : List ℕ) (more : List ObjectId)
    → ((i : ℕ) (x : ObjectId) → slice_get more i ≡ Some x → slice_get order (n + i) ≡ Some x)
    → ((x : ℕ) → Contains before x → (p : ℕ) × (p < n) × (slice_get order p ≡ Some (record { 0 = x })))
    → ((p x : ℕ) → p < n → slice_get order p ≡ Some (record { 0 = x }) → Contains before x)
    → IsInOrder C before (numbers_of more)
in_order_from C order topological n before [] at earlier seen = tt
in_order_from C order topological n before (x ∷ more) at earlier seen =
    let sum : n + 0 ≡ n = omega arith in
    let here : slice_get order n ≡ Some x = subst (λ (m : ℕ). slice_get order m ≡ Some x) sum (at 0 x refl) in (
      topological.known n x here,
      (λ there. let found = earlier x.0 there in let same : found.0 ≡ n = topological.once found.0 n x found.2 here in let low = found.1 in omega arith),
      (λ a ends is leaves.
          let pair = topological.targets_first a ends is in
          let source : slice_get order pair.second_place ≡ Some x = subst (λ (o : ℕ). slice_get order pair.second_place ≡ Some (record { 0 = o })) leaves pair.second_is in
          let same : pair.second_place ≡ n = topological.once pair.second_place n x source here in
          let low = pair.before in
          seen pair.first_place ends.target.0 (omega arith) pair.first_is),
      in_order_from C order topological (suc n) (x.0 ∷ before) more
          (λ i y is.
          let move : n + suc i ≡ suc n + i = omega arith in
          subst (λ (m : ℕ). slice_get order m ≡ Some y) move (at (suc i) y is))
          (λ y there. elim (contains_cases x.0 before y there) [
            | inl same ↦ (n, omega arith, subst (λ (o : ℕ). slice_get order n ≡ Some (record { 0 = o })) same here)
            | inr old ↦ let found = earlier y old in let low = found.1 in (found.0, omega arith, found.2)
          ])
          (λ p y low is. elim (cases_eq p n) [
            | inl same ↦
                let there : slice_get order n ≡ Some (record { 0 = y }) = subst (λ (m : ℕ). slice_get order m ≡ Some (record { 0 = y })) same is in
                let both : Some x ≡ Some (record { 0 = y }) = sym here ∙ there in
                let one : x ≡ record { 0 = y } = cc in
                contains_first x.0 y before (ap (λ (o : ObjectId). o.0) one)
            | inr other ↦ contains_later x.0 before y (seen p y (omega arith) is)
          ]),
    )

-- the whole order is in order
pub in_order : (C : Signature) (order : List ObjectId) → IsTopological C order → IsInOrder C [] (numbers_of order)
in_order C order topological =
    in_order_from C order topological 0 [] order (λ i x is. subst (λ (m : ℕ). slice_get order m ≡ Some x) (omega arith) is)
    (λ x never. absurd (contains_none x never)) (λ p x low is. absurd (omega arith))

-- and it has each object
pub order_covers : (C : Signature) (order : List ObjectId) → IsTopological C order → (object : ℕ) → object < C.objects → Contains (numbers_of order) object
order_covers C order topological object below = contains_map (λ (o : ObjectId). o.0) order (record { 0 = object }) (topological.all object below)

-- the others than those of a list
abbrev pub others_than : List ℕ → List ℕ → List ℕ
others_than apart more = filter (λ o. not (list_any (λ other. other == o) apart)) more

-- an order without objects that have been placed before, after what has been placed
without : (C : Signature) (apart start placed more : List ℕ) → ((o : ℕ) → Contains apart o → Contains placed o) → ((o : ℕ) → Contains start o → Contains placed o)
    → ((o : ℕ) → Contains placed o → Contains apart o ⊎ Contains start o) → IsInOrder C start more → IsInOrder C placed (others_than apart more)
without C apart start placed [] given early back order = tt
without C apart start placed (x ∷ more) given early back (below, new, targets, order) =
    let found : Bool = list_any (λ other. other == x) apart in
    elim (cases_Bool found) [
      | inl is ↦
          rw is
          (without C apart (x ∷ start) placed more given
          (λ o there. elim (contains_cases x start o there) [
            | inl here ↦ subst (λ (n : ℕ). Contains placed n) here (given x (contains_found apart x is))
            | inr earlier ↦ early o earlier
          ])
          (λ o there. elim (back o there) [ inl one ↦ inl one | inr earlier ↦ inr (contains_later x start o earlier) ]) order)
      | inr isnt ↦
          let rest : IsInOrder C (x ∷ placed) (others_than apart more) =
          without C apart (x ∷ start) (x ∷ placed) more (λ o one. contains_later x placed o (given o one))
          (λ o there. elim (contains_cases x start o there) [ inl here ↦ contains_first x o placed here | inr earlier ↦ contains_later x placed o (early o earlier) ])
          (λ o there. elim (contains_cases x placed o there) [
            | inl here ↦ inr (contains_first x o start here)
            | inr earlier ↦ elim (back o earlier) [ inl one ↦ inl one | inr old ↦ inr (contains_later x start o old) ]
          ]) order in
          rw isnt (
            below,
            (λ there. elim (back x there) [ inl one ↦ both_ways found isnt (found_contained apart x one) | inr earlier ↦ new earlier ]),
            (λ a ends is leaves. early ends.target.0 (targets a ends is leaves)),
            rest,
          )
    ]

-- the rest of an order, after any objects
pub rest_in_order : (C : Signature) (order before : List ℕ) → IsInOrder C [] order → IsInOrder C before (others_than before order)
rest_in_order C order before from_first =
    without C before [] before order (λ o there. there) (λ o never. absurd (contains_none o never)) (λ o there. inl there) from_first

-- an object of the order has been placed or is in the rest
pub rest_covers : (order before : List ℕ) (object : ℕ) → Contains order object → Contains before object ⊎ Contains (others_than before order) object
rest_covers order before object there =
    elim (cases_Bool (list_any (λ other. other == object) before)) [
      | inl is ↦ inl (contains_found before object is)
      | inr isnt ↦ inr (contains_filter (λ o. not (list_any (λ other. other == o) before)) order object there (rw isnt refl))
    ]
