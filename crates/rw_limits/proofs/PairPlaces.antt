-- Where a pair stands.
use Rattle.std.proofs.Common.{◌≡◌, ◌==◌, ◌<◌, ℕ, inl, inr, List, Contains, length, get_or, refl, ap, ◌∙◌, arith, eq-eqb}
use Rattle.std.proofs.lemmas.Bool.{and_parts, and_from, both_ways, cases_lt, eqb-true}
use Rattle.std.proofs.lemmas.List.Sums.{fails_before_first, passes_at_first}
use Rattle.rw_limits.specs.Pairs.{is_pair, place_of}

-- a pair that is there has a place
pub place_within : (pairs : List (ℕ × ℕ)) (x y : ℕ) → Contains pairs (x, y) → place_of pairs x y < length pairs
place_within pairs x y there =
    elim (cases_lt (place_of pairs x y) (length pairs)) [
      | inl within ↦ within
      | inr past ↦
          let missed = fails_before_first (is_pair x y) pairs there.0 (x, y) (omega (arith, there.1)) in
          let found = ap (is_pair x y) there.2 ∙ and_from (x == x) (y == y) (eq-eqb x x refl) (eq-eqb y y refl) in
          absurd (both_ways (is_pair x y (get_or pairs there.0 (x, y))) missed found)
    ]

-- at its place stands the pair
pub place_found : (pairs : List (ℕ × ℕ)) (x y : ℕ) (d : ℕ × ℕ) → Contains pairs (x, y)
    → ((get_or pairs (place_of pairs x y) d).0 ≡ x) × ((get_or pairs (place_of pairs x y) d).1 ≡ y)
place_found pairs x y d there =
    let pair = get_or pairs (place_of pairs x y) d in
    let parts = and_parts (pair.0 == x) (pair.1 == y) (passes_at_first (is_pair x y) pairs d (place_within pairs x y there)) in
    (eqb-true pair.0 x parts.0, eqb-true pair.1 y parts.1)
