-- The place of a name among names.
use Rattle.std.proofs.Common.{◌≡◌, ◌==◌, ◌∙◌, ℕ, ◌≤◌, not, nat_lt, List, length, position, Some, None, refl, inl, inr, arith}
use Rattle.std.proofs.lemmas.Bool.{cases_Bool, ltb-false}
use Rattle.std.proofs.lemmas.List.Sums.{prefix_len-le-length}
use Rattle.rw_classes.specs.Places.{spot}

-- where a name has a place, it is that one
pub spot_placed : (names : List ℕ) (name k : ℕ) → Some k ≡ position (λ other. other == name) names → k ≡ spot names name
spot_placed names name k placed =
    elim (cases_Bool (nat_lt (spot names name) (length names))) [
      | inl within ↦
          let some : position (λ other. other == name) names ≡ Some (spot names name) = rw within refl in
          let same : Some k ≡ Some (spot names name) = placed ∙ some in
          cc
      | inr past ↦
          let none : position (λ other. other == name) names ≡ None = rw past refl in
          let same : Some k ≡ None = placed ∙ none in
          cc
    ]

-- where a name has none, it is the number of names
pub spot_nowhere : (names : List ℕ) (name : ℕ) → None ≡ position (λ other. other == name) names → length names ≡ spot names name
spot_nowhere names name nowhere =
    elim (cases_Bool (nat_lt (spot names name) (length names))) [
      | inl within ↦
          let some : position (λ other. other == name) names ≡ Some (spot names name) = rw within refl in
          let same : None ≡ Some (spot names name) = nowhere ∙ some in
          cc
      | inr past ↦
          let least : length names ≤ spot names name = ltb-false (spot names name) (length names) past in
          let most : spot names name ≤ length names = prefix_len-le-length (λ other. not (other == name)) names in
          omega arith
    ]
