-- Elements that come behind others.
use Rattle.std.proofs.Common.{◌≡◌, ◌∙◌, ◌⊎◌, ◌+◌, ◌<◌, ◌≤◌, ◌++◌, ℕ, List, [], length, Option, Some, None, Contains, get_or, slice_get, length-append, append-nil, append_assoc, inl, inr, refl, sym, ap, subst, arith}
use Rattle.std.proofs.lemmas.Bool.{cases_eq}
use Rattle.std.proofs.lemmas.List.{get_or_append_left}
use Rattle.std.proofs.lemmas.List.Elements.{Contains-append_left, Contains-append_cases}
use Rattle.std.proofs.lemmas.Option.{get_or_from_slice_get, slice_get-get_or, slice_get_within}
use Rattle.rw_schema.specs.declared.signature.ArrowEnds.{ArrowEnds}
use Rattle.rw_schema.specs.declared.signature.AttrEnds.{AttrEnds}
use Rattle.rw_schema.specs.Signature.{Signature}
use Rattle.rw_spec.proofs.Sequences.{contains_none}
use Rattle.rw_partial.specs.SinglePushout.{Applied}
use Rattle.rw_rule.specs.RuleLists.{RuleLists}
use Rattle.rw_spo.specs.declared.element.Element.{Element}
use Rattle.rw_spo.specs.inner.Removal.{AllMustGo, AreFollowed, Grows, HasBelow, IsFollowed, IsFollowedAlong, MustGo, part_at, side_of}
use Rattle.rw_spo.specs.inner.Removed.{Marks}

module _ (C : Signature) (S : Applied) where
  -- where nothing goes, nothing goes without reason
  pub none_go : (elements : List Element) → elements ≡ [] → AllMustGo C S elements
  none_go elements none element there = absurd (contains_none element (subst (λ (elements : List Element). Contains elements element) none there))

  -- without more elements
  pub grows_none : (elements : List Element) → Grows C S elements elements
  grows_none elements = record { more = []; behind = sym (append-nil elements); sound = λ all. all }

  -- what comes behind what came comes behind
  pub grows_more : (old mid new : List Element) → Grows C S old mid → Grows C S mid new → Grows C S old new
  grows_more old mid new first second = record {
    more = first.more ++ second.more;
    behind = second.behind ∙ ap (λ (elements : List Element). elements ++ second.more) first.behind ∙ append_assoc old first.more second.more;
    sound = λ all. second.sound (first.sound all);
  }

  -- an element that has to go comes
  pub grows_marked : (old new : List Element) (element : Option Element) → ((marked : Element) → element ≡ Some marked → MustGo C S marked) → Marks old element new → Grows C S old new
  grows_marked old new element goes marks = record {
    more = marks.more;
    behind = marks.behind;
    sound = λ all other there.
        elim (Contains-append_cases old marks.more other (subst (λ (elements : List Element). Contains elements other) marks.behind there)) [
          | inl before ↦ all other before
          | inr comes ↦ goes other (marks.one other comes)
        ];
  }

  -- what is among the elements stays there
  pub grown : (old new : List Element) → Grows C S old new → (element : Element) → Contains old element → Contains new element
  grown old new grows element there = subst (λ (elements : List Element). Contains elements element) (sym grows.behind) (Contains-append_left old grows.more element there)

  -- so does all that f gives below a number
  pub grown_below : (old new : List Element) (n : ℕ) (f : ℕ → Option Element) → Grows C S old new → HasBelow n f old → HasBelow n f new
  grown_below old new n f grows has k element below is = grown old new grows element (has k element below is)

  -- what goes at once with an element still does
  pub grown_followed : (rule : RuleLists) (tuple : List ℕ) (old new : List Element) (element : Element) → Grows C S old new → IsFollowed C rule tuple S old element → IsFollowed C rule tuple S new element
  grown_followed rule tuple old new element grows followed = record {
    arrows = λ bare a ends there enters x has leads. grown old new grows _ (followed.arrows bare a ends there enters x has leads);
    kept = λ k other below is. grown old new grows other (followed.kept k other below is);
  }

-- what comes stands among the elements, and so does what was there
pub marked_stays : (old new : List Element) (element : Option Element) → Marks old element new → (other : Element) → Contains old other → Contains new other
marked_stays old new element marks other there = subst (λ (elements : List Element). Contains elements other) (sym marks.behind) (Contains-append_left old marks.more other there)

-- with what f gives of n, all is there that it gives up to n
pub below_more : (old new : List Element) (n : ℕ) (f : ℕ → Option Element) → HasBelow n f old → Marks old (f n) new → HasBelow (n + 1) f new
below_more old new n f has marks k element below is =
    elim (cases_eq k n) [
      | inl same ↦ marks.there element (subst (λ (k : ℕ). f k ≡ Some element) same is)
      | inr other ↦ marked_stays old new (f n) marks element (has k element (omega arith) is)
    ]

-- a step of a loop that marks what f gives of each number
pub marking_step : (C : Signature) (S : Applied) (old mid new : List Element) (n : ℕ) (f : ℕ → Option Element) (element : Option Element)
    → Grows C S old mid × HasBelow n f mid → element ≡ f n → ((marked : Element) → f n ≡ Some marked → MustGo C S marked) → Marks mid element new
    → Grows C S old new × HasBelow (n + 1) f new
marking_step C S old mid new n f element before is goes marks =
    let marks_next : Marks mid (f n) new = subst (λ (element : Option Element). Marks mid element new) is marks in
    (grows_more C S old mid new before.0 (grows_marked C S mid new (f n) goes marks_next), below_more mid new n f before.1 marks_next)

-- what is the same behind Some is the same
pub some_is : {A : Type 0} (one other : A) → Some one ≡ Some other → one ≡ other
some_is one other is = cc

-- a step of a loop that follows the arrows back
pub arrow_step : (C : Signature) (S : Applied) (old mid new : List Element) (element : Element) (number : ℕ) (here : ArrowEnds) → slice_get C.arrows number ≡ Some here
    → Grows C S old mid × ((a : ℕ) (ends : ArrowEnds) → a < number → slice_get C.arrows a ≡ Some ends → ends.target.0 ≡ element.object → IsFollowedAlong S mid element a ends)
    → Grows C S mid new → (here.target.0 ≡ element.object → IsFollowedAlong S new element number here)
    → Grows C S old new × ((a : ℕ) (ends : ArrowEnds) → a < number + 1 → slice_get C.arrows a ≡ Some ends → ends.target.0 ≡ element.object → IsFollowedAlong S new element a ends)
arrow_step C S old mid new element number here is before grows followed = (
  grows_more C S old mid new before.0 grows,
  (λ a ends below there enters x has leads. elim (cases_eq a number) [
    | inl same ↦
        let one : here ≡ ends = some_is here ends (sym is ∙ ap (slice_get C.arrows) (sym same) ∙ there) in
        let along : IsFollowedAlong S new element number ends =
        subst (λ (ends : ArrowEnds). ends.target.0 ≡ element.object → IsFollowedAlong S new element number ends) one followed enters in
        along x has (subst (λ (a : ℕ). (side_of S element.is_right).value a x ≡ element.part) same leads)
    | inr other ↦ grown C S mid new grows (part_at element.is_right ends.source.0 x) (before.1 a ends (omega arith) there enters x has leads)
  ]),
)

-- a step of a loop over the attributes
pub attribute_step : (C : Signature) (S : Applied) (old mid new : List Element) (n : ℕ → ℕ) (f : ℕ → ℕ → ℕ → Option Element) (number : ℕ) (here : AttrEnds)
    → slice_get C.attributes number ≡ Some here
    → Grows C S old mid × ((c : ℕ) (ends : AttrEnds) → c < number → slice_get C.attributes c ≡ Some ends → HasBelow (n ends.object.0) (f c ends.object.0) mid)
    → Grows C S mid new → HasBelow (n here.object.0) (f number here.object.0) new
    → Grows C S old new × ((c : ℕ) (ends : AttrEnds) → c < number + 1 → slice_get C.attributes c ≡ Some ends → HasBelow (n ends.object.0) (f c ends.object.0) new)
attribute_step C S old mid new n f number here is before grows all = (
  grows_more C S old mid new before.0 grows,
  (λ c ends below there k element within gives. elim (cases_eq c number) [
    | inl same ↦
        let one : here ≡ ends = some_is here ends (sym is ∙ ap (slice_get C.attributes) (sym same) ∙ there) in
        let at : HasBelow (n ends.object.0) (f number ends.object.0) new = subst (λ (ends : AttrEnds). HasBelow (n ends.object.0) (f number ends.object.0) new) one all in
        at k element within (subst (λ (c : ℕ). f c ends.object.0 k ≡ Some element) same gives)
    | inr other ↦ grown C S mid new grows element (before.1 c ends (omega arith) there k element within gives)
  ]),
)

-- a step of a loop over the objects
pub object_step : (C : Signature) (S : Applied) (old mid new : List Element) (n : ℕ → ℕ) (f : ℕ → ℕ → Option Element) (number : ℕ)
    → Grows C S old mid × ((object : ℕ) → object < number → HasBelow (n object) (f object) mid) → Grows C S mid new → HasBelow (n number) (f number) new
    → Grows C S old new × ((object : ℕ) → object < number + 1 → HasBelow (n object) (f object) new)
object_step C S old mid new n f number before grows all = (
  grows_more C S old mid new before.0 grows,
  (λ object below k element within gives. elim (cases_eq object number) [
    | inl same ↦ subst (λ (o : ℕ). HasBelow (n o) (f o) new) (sym same) all k element within gives
    | inr other ↦ grown C S mid new grows element (before.1 object (omega arith) k element within gives)
  ]),
)

-- what stands among the first elements stood there before
stood : (C : Signature) (S : Applied) (mid new : List Element) (k : ℕ) (element : Element) → Grows C S mid new → k < length mid → slice_get new k ≡ Some element → slice_get mid k ≡ Some element
stood C S mid new k element grows short is =
    slice_get-get_or mid k element short
    ∙ ap Some (sym (get_or_append_left mid grows.more element k short) ∙ ap (λ (elements : List Element). get_or elements k element) (sym grows.behind) ∙ get_or_from_slice_get new k element element is)

-- a step of the loop that follows the elements
pub follow_step : (C : Signature) (rule : RuleLists) (tuple : List ℕ) (S : Applied) (old mid new : List Element) (place : ℕ) (here : Element)
    → Grows C S old mid × (place ≤ length mid) × AreFollowed C rule tuple S mid place → slice_get mid place ≡ Some here → Grows C S mid new → IsFollowed C rule tuple S new here
    → Grows C S old new × (place + 1 ≤ length new) × AreFollowed C rule tuple S new (place + 1)
follow_step C rule tuple S old mid new place here before is grows followed =
    let short : place < length mid = slice_get_within mid place here is in
    let long : length new ≡ length mid + length grows.more = ap length grows.behind ∙ length-append mid grows.more in (
      grows_more C S old mid new before.0 grows,
      omega (arith, short, long),
      (λ k element below there. elim (cases_eq k place) [
        | inl same ↦
            let one : here ≡ element =
            some_is here element (sym is ∙ stood C S mid new place element grows short (subst (λ (k : ℕ). slice_get new k ≡ Some element) same there)) in
            subst (IsFollowed C rule tuple S new) one followed
        | inr other ↦
            let earlier : k < place = omega arith in
            grown_followed C S rule tuple mid new element grows (before.2 k element earlier (stood C S mid new k element grows (omega (arith, earlier, short)) there))
      ]),
    )
