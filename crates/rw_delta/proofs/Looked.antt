-- Where a name is looked up: among names that come, among entries that are written anew, or where it stood.
use Rattle.std.proofs.Common.{◌≡◌, ◌==◌, ◌∙◌, ℕ, ◌<◌, List, None, Some, position, length, get_or, sym, ap, arith}
use Rattle.std.specs.Prelude.{Contains}
use Rattle.std.specs.List.{list_any}
use Rattle.std.specs.Option.{is_some}
use Rattle.std.proofs.lemmas.Bool.{eqb-true, eqb-false, both_ways}
use Rattle.std.proofs.lemmas.List.{get_or_default, get_or-map, length-map}
use Rattle.std.proofs.lemmas.List.Quantifiers.{position-Some}
use Rattle.rw_spec.specs.Instance.{look}
use Rattle.rw_spec.proofs.Look.{found_contained, look_first, look_missing}
use Rattle.rw_table.proofs.Places.{place_found}
use Rattle.rw_columns.specs.Changes.{beside, entry_names, entry_values}

-- the place of a name is one of the places of the names
pub place_within : (names : List ℕ) (x k : ℕ) → position (λ other. other == x) names ≡ Some k → k < length names
place_within names x k found = (position-Some (λ other. other == x) names k 0 found).0

-- a name without a place is none of the names
pub place_missing : (names : List ℕ) (x : ℕ) → position (λ other. other == x) names ≡ None → Contains names x → ⊥
place_missing names x none among =
    both_ways (list_any (λ other. other == x) names) (sym (place_found (λ other. other == x) names) ∙ ap is_some none) (found_contained names x among)

module _ {A : Type 0} (old : A) (names : List ℕ) (values : List A) (x k : ℕ) where
  -- the entry at the place of a name is what is looked up
  pub looked_at : (d : A) → length values ≡ length names → position (λ other. other == x) names ≡ Some k → get_or values k d ≡ look old names values x
  looked_at d long found =
      let at = position-Some (λ other. other == x) names k 0 found in
      let within : k < length values = omega (arith, long, at.0) in
      get_or_default values k d old within
      ∙ sym (look_first old names values x k at.0 (eqb-true (get_or names k 0) x at.1) (λ j before. eqb-false (get_or names j 0) x (at.2 j before)))

module _ {A : Type 0} (old : A) (entries : List (ℕ × A)) (names : List ℕ) (values : List A) (x k : ℕ)
    (apart : position (λ other. other == x) names ≡ None) where
  -- the entry of a name is what is written beside it
  pub looked_beside : (entry : ℕ × A) → position (λ other. other == x) (entry_names entries) ≡ Some k → (get_or entries k entry).1 ≡ look (beside old entries x) names values x
  looked_beside entry found =
      let names_long : length (entry_names entries) ≡ length entries = length-map entries (λ (each : ℕ × A). each.0) in
      let values_long : length (entry_values entries) ≡ length entries = length-map entries (λ (each : ℕ × A). each.1) in
      let within = place_within (entry_names entries) x k found in
      sym (get_or-map (λ (each : ℕ × A). each.1) entries k entry old (omega (arith, names_long, within)))
      ∙ looked_at old (entry_names entries) (entry_values entries) x k old (values_long ∙ sym names_long) found
      ∙ sym (look_missing (beside old entries x) names values x (place_missing names x apart))

module _ {A : Type 0} (old : A) (entries : List (ℕ × A)) (names : List ℕ) (values : List A) (x : ℕ)
    (apart : position (λ other. other == x) names ≡ None) where
  -- where nothing is written anew, what was there is looked up
  pub looked_old : position (λ other. other == x) (entry_names entries) ≡ None → old ≡ look (beside old entries x) names values x
  looked_old unwritten =
      sym (look_missing old (entry_names entries) (entry_values entries) x (place_missing (entry_names entries) x unwritten))
      ∙ sym (look_missing (beside old entries x) names values x (place_missing names x apart))
