-- Which elements go.
use Rattle.std.proofs.Common.{◌≡◌, ◌∙◌, ◌⊎◌, ◌==◌, ◌&&◌, ◌+◌, ◌<◌, ◌++◌, ℕ, zero, suc, Bool, true, false, Contains, List, [], ◌∷◌, length, if◌then◌else◌, Option, Some, None, append-nil, inl, inr, refl, sym, ap, subst, arith, nat_eq}
use Rattle.std.specs.Bool.{Decides, beq}
use Rattle.std.specs.Cmp.{booleans_Decides}
use Rattle.std.specs.List.{list_any}
use Rattle.std.specs.Option.{option_eq}
use Rattle.std.proofs.lemmas.Bool.{and_parts, and_from, cases_Bool, or_cases, or_left, or_right}
use Rattle.std.proofs.lemmas.Bool.Decides.{Decides-eqb}
use Rattle.std.proofs.lemmas.List.Elements.{Contains-push}
use Rattle.indexmap.specs.IndexSet.{insert_key}
use Rattle.rw_spec.proofs.Look.{contains_cases}
use Rattle.rw_spec.proofs.Sequences.{contains_first, contains_later, contains_none}
use Rattle.rw_spo.specs.contracts.element.ElementPartialEq.TheImpl.{eq-value}
use Rattle.rw_spo.specs.declared.element.Element.{Element}
use Rattle.rw_spo.specs.inner.Removed.{Marks, goes, is_same}

-- the comparison of attributes decides whether they are one
attributes_decide : (one other : Option ℕ) → Decides (option_eq nat_eq one other) (one ≡ other)
attributes_decide None None = (λ yes. refl, λ same. refl)
attributes_decide None (Some y) = (λ yes. cc, λ same. cc)
attributes_decide (Some x) None = (λ yes. cc, λ same. cc)
attributes_decide (Some x) (Some y) = let parts = Decides-eqb x y in (λ yes. ap (λ attribute. Some attribute) (parts.0 yes), λ same. parts.1 cc)

-- elements with the same fields are one
element_is : (one other : Element) → one.is_right ≡ other.is_right → one.attribute ≡ other.attribute → one.object ≡ other.object → one.part ≡ other.part → one ≡ other
element_is one other side attribute object part = λ i. record { is_right = side i; attribute = attribute i; object = object i; part = part i }

-- the comparison of elements decides whether they are one
pub elements_decide : (one other : Element) → Decides (is_same one other) (one ≡ other)
elements_decide one other =
    let sides : Bool = beq one.is_right other.is_right in
    let attributes : Bool = option_eq nat_eq one.attribute other.attribute in
    let objects : Bool = one.object == other.object in
    let parts : Bool = one.part == other.part in
    let side = booleans_Decides one.is_right other.is_right in
    let attribute = attributes_decide one.attribute other.attribute in
    let object = Decides-eqb one.object other.object in
    let part = Decides-eqb one.part other.part in (
      (λ same.
          let first = and_parts sides (attributes && (objects && parts)) same in
          let second = and_parts attributes (objects && parts) first.1 in
          let third = and_parts objects parts second.1 in
          element_is one other (side.0 first.0) (attribute.0 second.0) (object.0 third.0) (part.0 third.1)),
      (λ same.
          and_from sides (attributes && (objects && parts)) (side.1 (ap (λ (e : Element). e.is_right) same))
          (and_from attributes (objects && parts) (attribute.1 (ap (λ (e : Element). e.attribute) same))
          (and_from objects parts (object.1 (ap (λ (e : Element). e.object) same)) (part.1 (ap (λ (e : Element). e.part) same))))),
    )

-- what is the same behind Some is the same
some_is : (one other : Element) → Some one ≡ Some other → one ≡ other
some_is one other is = cc

-- an element that is found goes
pub goes_from : (elements : List Element) (element : Element) → goes elements element ≡ true → Contains elements element
goes_from [] element found = absurd (cc)
goes_from (other ∷ elements) element found =
    elim (or_cases (is_same element other) (goes elements element) found) [
      | inl here ↦ contains_first other element elements (sym ((elements_decide element other).0 here))
      | inr later ↦ contains_later other elements element (goes_from elements element later)
    ]

-- an element that goes is found
pub goes_where : (elements : List Element) (element : Element) → Contains elements element → goes elements element ≡ true
goes_where [] element contains = absurd (contains_none element contains)
goes_where (other ∷ elements) element contains =
    elim (contains_cases other elements element contains) [
      | inl here ↦ or_left (is_same element other) (goes elements element) ((elements_decide element other).1 (sym here))
      | inr later ↦ or_right (is_same element other) (goes elements element) (goes_where elements element later)
    ]

-- an element that is put among those that go goes, and no other one comes
pub marked : (old : List Element) (element : Element) → Marks old (Some element) (insert_key is_same old element)
marked old element =
    elim (cases_Bool (list_any (is_same element) old)) [
      | inl found ↦
          let stays : insert_key is_same old element ≡ old = ap (λ (b : Bool). if b then old else old ++ element ∷ []) found in
          record {
            there = λ other is. subst (λ (elements : List Element). Contains elements other) (sym stays) (subst (Contains old) (some_is element other is) (goes_from old element found));
            more = [];
            behind = stays ∙ sym (append-nil old);
            one = λ other there. absurd (contains_none other there);
          }
      | inr missing ↦
          let comes : insert_key is_same old element ≡ old ++ element ∷ [] = ap (λ (b : Bool). if b then old else old ++ element ∷ []) missing in
          record {
            there = λ other is. subst (λ (elements : List Element). Contains elements other) (sym comes) (subst (Contains (old ++ element ∷ [])) (some_is element other is) (Contains-push old element));
            more = element ∷ [];
            behind = comes;
            one = λ other there. elim (contains_cases element [] other there) [
              | inl same ↦ ap (λ (e : Element). Some e) same
              | inr none ↦ absurd (contains_none other none)
            ];
          }
    ]

-- where there is no element, none comes
pub marked_none : (old : List Element) → Marks old None old
marked_none old = record {
  there = λ other is. absurd (cc);
  more = [];
  behind = sym (append-nil old);
  one = λ other there. absurd (contains_none other there);
}
