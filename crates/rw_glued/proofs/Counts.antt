-- How many numbers of a list are less than a number.
use Rattle.std.proofs.Common.{◌<◌, ◌≤◌, ℕ, nat_lt, Contains, List, [], ◌∷◌, filter, length, inl, inr, arith, lt-ltb, le-ltb}
use Rattle.std.proofs.lemmas.Bool.{cases_lt}
use Rattle.rw_spec.proofs.Look.{contains_cases}

-- how many numbers are less than a number
abbrev pub less : List ℕ → ℕ → ℕ
less xs y = length (filter (λ x. nat_lt x y) xs)

-- at most as many are less than a lesser number
pub less_far : (xs : List ℕ) (y z : ℕ) → y ≤ z → less xs y ≤ less xs z
less_far [] y z order = omega arith
less_far (x ∷ xs) y z order =
    let rest : less xs y ≤ less xs z = less_far xs y z order in
    elim (cases_lt x y) [
      | inl under ↦ rw (lt-ltb x y under, lt-ltb x z (omega arith)) (omega arith)
      | inr over ↦
          elim (cases_lt x z) [
            | inl between ↦ rw (le-ltb x y over, lt-ltb x z between) (omega arith)
            | inr above ↦ rw (le-ltb x y over, le-ltb x z above) rest
          ]
    ]

-- fewer are less than a number of the list than are less than a greater one
pub less_more : (xs : List ℕ) (y z : ℕ) → Contains xs y → y < z → less xs y < less xs z
less_more [] y z there order = absurd (omega (arith, there.1))
less_more (x ∷ xs) y z there order =
    let rest : less xs y ≤ less xs z = less_far xs y z (omega arith) in
    elim (cases_lt x y) [
      | inl under ↦
          elim (contains_cases x xs y there) [
            | inl here ↦ absurd (omega arith)
            | inr later ↦
                let more : less xs y < less xs z = less_more xs y z later order in
                rw (lt-ltb x y under, lt-ltb x z (omega arith)) (omega arith)
          ]
      | inr over ↦
          elim (cases_lt x z) [
            | inl between ↦ rw (le-ltb x y over, lt-ltb x z between) (omega arith)
            | inr above ↦
                elim (contains_cases x xs y there) [
                  | inl here ↦ absurd (omega arith)
                  | inr later ↦
                      let more : less xs y < less xs z = less_more xs y z later order in
                      rw (le-ltb x y over, le-ltb x z above) more
                ]
          ]
    ]

-- at most all are less
pub less_all : (xs : List ℕ) (y : ℕ) → less xs y ≤ length xs
less_all [] y = omega arith
less_all (x ∷ xs) y =
    let rest : less xs y ≤ length xs = less_all xs y in
    elim (cases_lt x y) [
      | inl under ↦ rw (lt-ltb x y under) (omega arith)
      | inr over ↦ rw (le-ltb x y over) (omega arith)
    ]

-- a number of the list is not less than itself
pub less_some : (xs : List ℕ) (y : ℕ) → Contains xs y → less xs y < length xs
less_some [] y there = absurd (omega (arith, there.1))
less_some (x ∷ xs) y there =
    let rest : less xs y ≤ length xs = less_all xs y in
    elim (cases_lt x y) [
      | inl under ↦
          elim (contains_cases x xs y there) [
            | inl here ↦ absurd (omega arith)
            | inr later ↦
                let more : less xs y < length xs = less_some xs y later in
                rw (lt-ltb x y under) (omega arith)
          ]
      | inr over ↦ rw (le-ltb x y over) (omega arith)
    ]
