-- The places of a number from one on, by the first of them.
use Rattle.std.proofs.Common.{◌≡◌, ℕ, suc, zero, ◌+◌, ◌-◌, ◌<◌, ◌≤◌, Bool, true, false, List, [], ◌∷◌, length, filter, refl, sym, ap, ◌∙◌, inl, inr, subst, arith, get_or, eqb, eq-eqb, ne_eqb}
use Rattle.std.specs.Prelude.{◌≢◌}
use Rattle.std.specs.List.{range_with_len}
use Rattle.std.proofs.lemmas.Bool.{cases_eq}
use Rattle.rw_column.specs.Threads.{nothing, places_from}
use Rattle.rw_column.specs.inner.Links.{IsFirstFrom}

-- no number of the range passes the test
none_in : (test : ℕ → Bool) (m k : ℕ) → ((z : ℕ) → k ≤ z → z < k + m → test z ≡ false) → filter test (range_with_len k m) ≡ []
none_in test zero k none = refl
none_in test (suc m) k none = rw (none k (omega arith) (omega arith)) (none_in test m (k + 1) (λ z from to. none z (omega arith) (omega arith)))

-- the first number of the range that passes the test stands first
first_in : (test : ℕ → Bool) (m k s : ℕ) → ((z : ℕ) → k ≤ z → z < s → test z ≡ false) → k ≤ s → s < k + m → test s ≡ true
    → filter test (range_with_len k m) ≡ s ∷ filter test (range_with_len (s + 1) (k + m - (s + 1)))
first_in test zero k s none from to passes = absurd (omega arith)
first_in test (suc m) k s none from to passes =
    elim (cases_eq k s) [
      | inl same ↦
          let short : k + suc m - (s + 1) ≡ m = omega arith in
          rw (short, ← same, subst (λ (z : ℕ). test z ≡ true) (sym same) passes) refl
      | inr apart ↦
          let rest = first_in test m (k + 1) s (λ z above below. none z (omega arith) below) (omega arith) (omega arith) passes in
          let short : k + 1 + m - (s + 1) ≡ k + suc m - (s + 1) = omega arith in
          rw (none k (omega arith) (omega arith)) (rest ∙ rw short refl)
    ]

-- where no place is left, the list is empty
nowhere : (values : List ℕ) (value from : ℕ) → length values ≤ nothing → IsFirstFrom (length values) (λ z. get_or values z 0) value from nothing
    → places_from values value from ≡ []
nowhere values value from few first =
    none_in (λ z. eqb (get_or values z 0) value) (length values - from) from (λ z above below.
    ne_eqb (get_or values z 0) value (λ is. let far : nothing ≤ z = first.least z above (omega arith) is in omega (arith, few, below, far)))

-- where a place is left, it stands first in the list, and those behind it follow
somewhere : (values : List ℕ) (value from stop : ℕ) → stop ≢ nothing → IsFirstFrom (length values) (λ z. get_or values z 0) value from stop
    → places_from values value from ≡ stop ∷ places_from values value (stop + 1)
somewhere values value from stop some first =
    let at = first.there some in
    let long : from + (length values - from) - (stop + 1) ≡ length values - (stop + 1) = omega (arith, at.0, at.1) in
    first_in (λ z. eqb (get_or values z 0) value) (length values - from) from stop
    (λ z above below. ne_eqb (get_or values z 0) value (λ is. let far : stop ≤ z = first.least z above (omega (arith, at.1)) is in omega (arith, far)))
    at.0 (omega (arith, at.0, at.1)) (eq-eqb (get_or values stop 0) value at.2)
    ∙ ap (λ m. stop ∷ filter (λ z. eqb (get_or values z 0) value) (range_with_len (stop + 1) m)) long

module _ (values : List ℕ) (value : ℕ) (few : length values ≤ nothing) where
  -- a place that has the number is the first from itself on
  itself : (s : ℕ) → (s ≢ nothing → (s < length values) × (get_or values s 0 ≡ value)) → s ≤ nothing → IsFirstFrom (length values) (λ z. get_or values z 0) value s s
  itself s at in_range = record {
    least = λ place from within is. from;
    there = λ some. (omega arith, (at some).0, (at some).1);
  }

  -- nothing is passed over before the first place
  pub skipped : (from s : ℕ) → IsFirstFrom (length values) (λ z. get_or values z 0) value from s → places_from values value s ≡ places_from values value from
  skipped from s first =
      elim (cases_eq s nothing) [
        | inl none ↦
            let from_nothing : IsFirstFrom (length values) (λ z. get_or values z 0) value nothing nothing =
            record { least = λ place above within is. above; there = λ some. absurd (some refl) } in
            ap (places_from values value) none ∙ nowhere values value nothing few from_nothing
            ∙ sym (nowhere values value from few (subst (IsFirstFrom (length values) (λ z. get_or values z 0) value from) none first))
        | inr some ↦
            let at = first.there some in
            somewhere values value s s some (itself s (λ other. (at.1, at.2)) (omega (arith, at.1))) ∙ sym (somewhere values value from s some first)
      ]

  -- one step of a walk
  pub stepped : (x s : ℕ) → x < length values → get_or values x 0 ≡ value → IsFirstFrom (length values) (λ z. get_or values z 0) value (x + 1) s
      → places_from values value x ≡ x ∷ places_from values value s
  stepped x s within is first =
      somewhere values value x x (λ e. omega (arith, e)) (itself x (λ some. (within, is)) (omega arith)) ∙ ap (λ rest. x ∷ rest) (sym (skipped (x + 1) s first))
