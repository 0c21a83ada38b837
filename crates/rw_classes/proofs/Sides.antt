-- Where parts stand among the parts of both sides, left ones first.
use Rattle.std.proofs.Common.{◌≡◌, ◌==◌, ◌∙◌, ℕ, ◌+◌, ◌-◌, ◌<◌, ◌≤◌, List, length, get_or, map, refl, ap, sym, inl, inr, arith, lt-ltb, le-ltb}
use Rattle.std.specs.List.{Contains}
use Rattle.std.proofs.lemmas.Bool.{both_ways, cases_lt, eq-eqb, eqb-true}
use Rattle.std.proofs.lemmas.List.{get_or_default}
use Rattle.std.proofs.lemmas.List.Elements.{All-map, All-weaker, All-contains_itself, Contains-get_or}
use Rattle.std.proofs.lemmas.List.Sums.{fails_before_first, passes_at_first}
use Rattle.rw_spec.specs.Distinct.{AreDistinct}
use Rattle.rw_classes.specs.Classes.{Joins}
use Rattle.rw_classes.specs.Places.{spot, either}

-- a name that is there has a place
pub spot_within : (names : List ℕ) (x : ℕ) → Contains names x → spot names x < length names
spot_within names x (k, within, there) =
    let here : get_or names k 0 ≡ x = get_or_default names k 0 x within ∙ there in
    elim (cases_lt k (spot names x)) [
      | inl before ↦
          absurd (both_ways (get_or names k 0 == x) (fails_before_first (λ name. name == x) names k 0 before) (eq-eqb (get_or names k 0) x here))
      | inr after ↦ omega arith
    ]

-- the name stands at its place
pub spot_here : (names : List ℕ) (x : ℕ) → Contains names x → get_or names (spot names x) 0 ≡ x
spot_here names x has =
    eqb-true (get_or names (spot names x) 0) x (passes_at_first (λ name. name == x) names 0 (spot_within names x has))

-- where each name is there once, the place of the name at a place is that place
pub spot_at : (names : List ℕ) (k : ℕ) → AreDistinct names → k < length names → spot names (get_or names k 0) ≡ k
spot_at names k distinct within =
    let has : Contains names (get_or names k 0) = Contains-get_or names k 0 within in
    distinct (spot names (get_or names k 0)) k (spot_within names (get_or names k 0) has) within (spot_here names (get_or names k 0) has)

-- the first places are those of left parts
pub either_left : {A : Type 0} (left right : List ℕ) (d s : ℕ → A) (e : ℕ) → e < length left → either left right d s e ≡ d (get_or left e 0)
either_left left right d s e below = rw (lt-ltb e (length left) below) refl

-- the later places are those of right parts
pub either_right : {A : Type 0} (left right : List ℕ) (d s : ℕ → A) (e : ℕ)
    → length left ≤ e → either left right d s e ≡ s (get_or right (e - length left) 0)
either_right left right d s e past = rw (le-ltb e (length left) past) refl

-- what is given at the place of a left part is what d gives of it
pub either_spot_left : {A : Type 0} (left right : List ℕ) (d s : ℕ → A) (x : ℕ) → Contains left x → either left right d s (spot left x) ≡ d x
either_spot_left left right d s x has = either_left left right d s (spot left x) (spot_within left x has) ∙ ap d (spot_here left x has)

-- what is given at the place of a right part is what s gives of it
pub either_spot_right : {A : Type 0} (left right : List ℕ) (d s : ℕ → A) (y : ℕ)
    → Contains right y → either left right d s (length left + spot right y) ≡ s y
either_spot_right left right d s y has =
    let after : (length left + spot right y) - length left ≡ spot right y = omega arith in
    either_right left right d s (length left + spot right y) (omega arith) ∙ ap (λ k. s (get_or right k 0)) after ∙ ap s (spot_here right y has)

-- functions of both sides that agree on the apex do not tell apart the places that it joins
pub joins_either : (left right apex : List ℕ) (f g d s : ℕ → ℕ)
    → ((z : ℕ) → Contains apex z → Contains left (f z)) → ((z : ℕ) → Contains apex z → Contains right (g z))
    → ((z : ℕ) → Contains apex z → d (f z) ≡ s (g z))
    → Joins (map (λ z. (spot left (f z), length left + spot right (g z))) apex) (either left right d s)
joins_either left right apex f g d s in_left in_right agree =
    let h : ℕ → ℕ = either left right d s in
    let places : ℕ → ℕ × ℕ = λ z. (spot left (f z), length left + spot right (g z)) in
    All-map (λ (pair : ℕ × ℕ). h pair.0 ≡ h pair.1) places apex
    (All-weaker (Contains apex) (λ z. h (spot left (f z)) ≡ h (length left + spot right (g z)))
    (λ z has. either_spot_left left right d s (f z) (in_left z has) ∙ agree z has ∙ sym (either_spot_right left right d s (g z) (in_right z has)))
    apex (All-contains_itself apex))
