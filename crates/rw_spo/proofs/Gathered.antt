-- The names at which the host's elements go alone.
use Rattle.std.proofs.Common.{◌≡◌, ◌∙◌, ◌+◌, ◌<◌, ◌≤◌, ◌++◌, ◌&&◌, ◌||◌, ℕ, Bool, true, false, not, cond, is_none, List, [], Option, Some, None, Contains, length, slice_get, inl, inr, refl, sym, ap, subst, arith}
use Rattle.std.specs.Option.{option_to_list}
use Rattle.std.proofs.lemmas.Bool.{and_from, and_parts, cases_eq}
use Rattle.std.proofs.lemmas.List.Elements.{Contains-append_cases, Contains-append_left, Contains-append_right}
use Rattle.rw_spec.proofs.Look.{contains_cases}
use Rattle.rw_spec.proofs.Sequences.{contains_at, contains_here, contains_none}
use Rattle.rw_spo.specs.declared.element.Element.{Element}
use Rattle.rw_spo.specs.inner.Removal.{part_at}
use Rattle.rw_spo.specs.inner.Removed.{goes, is_same}
use Rattle.rw_spo.specs.inner.Staying.{goes_alone, part_alone}
use Rattle.rw_spo.proofs.Going.{elements_decide, goes_from, goes_where}
use Rattle.rw_spo.proofs.Growth.{some_is}
use Rattle.rw_spo.proofs.Reasons.{cond_some}

-- what is in the list of one is it
in_option : (part : Option ℕ) (x : ℕ) → Contains (option_to_list part) x → part ≡ Some x
in_option None x there = absurd (contains_none x there)
in_option (Some y) x there = elim (contains_cases y [] x there) [
  | inl same ↦ ap (λ (y : ℕ). Some y) same
  | inr none ↦ absurd (contains_none x none)
]

-- what there is is in the list of it
option_in : (part : Option ℕ) (x : ℕ) → part ≡ Some x → Contains (option_to_list part) x
option_in part x is = subst (λ (part : Option ℕ). Contains (option_to_list part) x) (sym is) (contains_here x [])

module _ (elements : List Element) (attribute : Option ℕ) (object : ℕ) where
  -- the host's element of this attribute and object at a name
  abbrev own : ℕ → Element
  own x = record { is_right = false; attribute = attribute; object = object; part = x }

  abbrev alone : ℕ → Bool
  alone x = is_none attribute || not (goes elements (part_at false object x))

  -- the element whose part is found goes alone
  alone_from : (element : Element) (x : ℕ) → Contains elements element → part_alone elements attribute object element ≡ Some x → goes_alone elements attribute object x ≡ true
  alone_from element x there is =
      let parts = cond_some (is_same element (own element.part) && alone element.part) element.part x is in
      let both = and_parts (is_same element (own element.part)) (alone element.part) parts.0 in
      let same : element ≡ own element.part = (elements_decide element (own element.part)).0 both.0 in
      subst (λ (x : ℕ). goes_alone elements attribute object x ≡ true) parts.1
      (and_from (goes elements (own element.part)) (alone element.part) (goes_where elements (own element.part) (subst (Contains elements) same there)) both.1)

  -- the element that goes alone is there, and its part is found
  pub alone_at : (x : ℕ) → goes_alone elements attribute object x ≡ true
      → Contains elements (record { is_right = false; attribute = attribute; object = object; part = x })
      × (part_alone elements attribute object (record { is_right = false; attribute = attribute; object = object; part = x }) ≡ Some x)
  alone_at x passes =
      let both = and_parts (goes elements (own x)) (alone x) passes in (
        goes_from elements (own x) both.0,
        ap (λ (test : Bool). cond test (Some x) None) (and_from (is_same (own x) (own x)) (alone x) ((elements_decide (own x) (own x)).1 refl) both.1),
      )

  -- a step of the loop that gathers the names
  pub gathering_step : (names new : List ℕ) (place : ℕ) (element : Element) (part : Option ℕ)
      → ((x : ℕ) → Contains names x → goes_alone elements attribute object x ≡ true)
      × ((k : ℕ) (element : Element) (x : ℕ) → k < place → slice_get elements k ≡ Some element → part_alone elements attribute object element ≡ Some x → Contains names x)
      → slice_get elements place ≡ Some element → part ≡ part_alone elements attribute object element → new ≡ names ++ option_to_list part
      → ((x : ℕ) → Contains new x → goes_alone elements attribute object x ≡ true)
      × ((k : ℕ) (element : Element) (x : ℕ) → k < place + 1 → slice_get elements k ≡ Some element → part_alone elements attribute object element ≡ Some x → Contains new x)
  gathering_step names new place element part before there is pushed = (
    (λ x has. elim (Contains-append_cases names (option_to_list part) x (subst (λ (names : List ℕ). Contains names x) pushed has)) [
      | inl earlier ↦ before.0 x earlier
      | inr now ↦ alone_from element x (contains_at elements place element there) (sym is ∙ in_option part x now)
    ]),
    (λ k other x below at finds. subst (λ (names : List ℕ). Contains names x) (sym pushed) (elim (cases_eq k place) [
      | inl same ↦
          let one : element ≡ other = some_is element other (sym there ∙ ap (slice_get elements) (sym same) ∙ at) in
          Contains-append_right names (option_to_list part) x
          (option_in part x (is ∙ subst (λ (element : Element). part_alone elements attribute object element ≡ Some x) (sym one) finds))
      | inr different ↦ Contains-append_left names (option_to_list part) x (before.1 k other x (omega arith) at finds)
    ])),
  )
