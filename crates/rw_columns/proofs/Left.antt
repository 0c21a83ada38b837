-- The names that a change leaves to an arrow, list by list.
use Rattle.std.proofs.Common.{◌≡◌, ◌==◌, ◌∙◌, ℕ, Bool, true, false, not, ◌&&◌, All, List, [], ◌∷◌, ◌++◌, filter, length, refl, sym, ap, subst, inl, inr, arith, eq-eqb}
use Rattle.std.specs.Prelude.{Contains}
use Rattle.std.specs.List.{list_any}
use Rattle.std.proofs.lemmas.Bool.{cases_Bool, ne_eqb, both_ways}
use Rattle.std.proofs.lemmas.List.{length-map}
use Rattle.std.proofs.lemmas.List.Elements.{All-contains, filter-append}
use Rattle.rw_spec.specs.Ascending.{ascends}
use Rattle.rw_spec.specs.Instance.{look}
use Rattle.rw_spec.proofs.Ascending.{ascends_distinct, ascends_filter}
use Rattle.rw_spec.proofs.EachOnce.{EachOnce, once_from_distinct}
use Rattle.rw_spec.proofs.Look.{contains_found, found_contained, look_missing}
use Rattle.rw_spec.proofs.Sequences.{contains_filter, contained_in_filter, filter_same}
use Rattle.rw_columns.specs.Changes.{AreDifferences, beside, entry_names, entry_values, staying}
use Rattle.rw_columns.specs.inner.Walks.{is_kept, leading, merge}
use Rattle.rw_columns.proofs.Walked.{same_order, filter_twice, merge_parts}

-- what is false with anything else is false
pub and_false : (b : Bool) → (b && false) ≡ false
and_false true = refl
and_false false = refl

-- what is true with something else is that
and_true : (b : Bool) → (b && true) ≡ b
and_true true = refl
and_true false = refl

-- the order of two tests does not matter
and_swapped : (a b : Bool) → (a && b) ≡ (b && a)
and_swapped true b = sym (and_true b)
and_swapped false b = sym (and_false b)

-- two filters, in the other order
filter_swapped : (first second : ℕ → Bool) (xs : List ℕ) → filter second (filter first xs) ≡ filter first (filter second xs)
filter_swapped first second xs =
    filter_twice first second xs
    ∙ filter_same (λ x. first x && second x) (λ x. second x && first x) xs (λ x there. and_swapped (first x) (second x))
    ∙ sym (filter_twice second first xs)

-- the numbers of a list that stand among some of them are these, where both lists ascend
members_are : (xs ys : List ℕ) → ascends xs ≡ true → ascends ys ≡ true → All (Contains xs) ys → filter (λ x. list_any (λ other. other == x) ys) xs ≡ ys
members_are xs ys up up' among =
    let test = λ (x : ℕ). list_any (λ other. other == x) ys in
    same_order (filter test xs) ys (ascends_filter test xs up) up'
    (λ x there. contains_found ys x (contained_in_filter test xs x there).1)
    (λ x there. contains_filter test xs x (All-contains (Contains xs) ys x among there) (found_contained ys x there))

-- the names beside which a number stands are those where it is looked up
leading_looked : (none : ℕ → ℕ) (names values : List ℕ) (number : ℕ) → length values ≡ length names → EachOnce names
    → filter (λ x. look (none x) names values x == number) names ≡ leading names values number
leading_looked none [] values number long once = refl
leading_looked none (name ∷ names) [] number long once = absurd (omega arith)
leading_looked none (name ∷ names) (value ∷ values) number long once =
    let all = λ (x : ℕ). look (none x) (name ∷ names) (value ∷ values) x == number in
    let rest = λ (x : ℕ). look (none x) names values x == number in
    let here : all name ≡ (value == number) = rw (eq-eqb name name refl) refl in
    let later : filter all names ≡ leading names values number =
    filter_same all rest names (λ x there. rw (ne_eqb name x (λ same. once.0 (subst (Contains names) (sym same) there))) refl)
    ∙ leading_looked none names values number (omega arith) once.1 in
    elim (cases_Bool (value == number)) [
      | inl stands ↦ rw (here ∙ stands, stands) (ap (λ (xs : List ℕ). name ∷ xs) later)
      | inr another ↦ rw (here ∙ another, another) later
    ]

-- a name with nothing written beside it stays and leads somewhere as it did
kept_test : (gone led leads written : Bool) → (written ≡ false → led ≡ leads) → (not gone && (led && not written)) ≡ (leads && (not gone && not written))
kept_test gone led leads true same = rw (and_false led, and_false (not gone), and_false leads) refl
kept_test gone led leads false same = rw (same refl, and_true leads, and_true (not gone)) (and_swapped (not gone) leads)

module _ (value : ℕ → ℕ) (names removed : List ℕ) (rows : List (ℕ × ℕ)) (number : ℕ) (up : ascends names ≡ true)
    (differ : AreDifferences (staying removed names) value rows) where
  -- the name goes; something is written beside it; it leads to the number before, and afterwards
  abbrev gone : ℕ → Bool
  gone x = list_any (λ other. other == x) removed

  abbrev written : ℕ → Bool
  written x = list_any (λ other. other == x) (entry_names rows)

  abbrev leads : ℕ → Bool
  leads x = value x == number

  abbrev led : ℕ → Bool
  led x = beside (value x) rows x == number

  -- of the names that stay and have nothing written beside them, those that lead there do so before
  kept_led : filter (λ x. not (written x)) (filter led (staying removed names)) ≡ filter (is_kept removed rows) (filter leads names)
  kept_led =
      filter_twice led (λ x. not (written x)) (staying removed names)
      ∙ filter_twice (λ x. not (gone x)) (λ x. led x && not (written x)) names
      ∙ filter_same (λ x. not (gone x) && (led x && not (written x))) (λ x. leads x && is_kept removed rows x) names
      (λ x there. kept_test (gone x) (led x) (leads x) (written x) (λ not_written.
      ap (λ (y : ℕ). y == number) (look_missing (value x) (entry_names rows) (entry_values rows) x (λ among. both_ways (written x) not_written (found_contained (entry_names rows) x among)))))
      ∙ sym (filter_twice leads (is_kept removed rows) names)

  -- the others are those beside which the number is written
  written_led : filter written (filter led (staying removed names)) ≡ leading (entry_names rows) (entry_values rows) number
  written_led =
      filter_swapped led written (staying removed names)
      ∙ ap (filter led) (members_are (staying removed names) (entry_names rows) (ascends_filter (λ x. not (gone x)) names up) differ.ascend differ.among)
      ∙ leading_looked value (entry_names rows) (entry_values rows) number
      (length-map rows (λ (entry : ℕ × ℕ). entry.1) ∙ sym (length-map rows (λ (entry : ℕ × ℕ). entry.0)))
      (once_from_distinct (entry_names rows) (ascends_distinct (entry_names rows) differ.ascend))

  -- the names that stay and lead there
  staying_led : merge (filter (is_kept removed rows) (filter leads names)) (leading (entry_names rows) (entry_values rows) number) ≡ filter led (staying removed names)
  staying_led =
      ap (λ (xs : List ℕ). merge xs (leading (entry_names rows) (entry_values rows) number)) (sym kept_led)
      ∙ ap (merge (filter (λ x. not (written x)) (filter led (staying removed names)))) (sym written_led)
      ∙ merge_parts written (filter led (staying removed names)) (ascends_filter led (staying removed names) (ascends_filter (λ x. not (gone x)) names up))

  -- and those that come
  pub all_led : (added images : List ℕ) → ascends added ≡ true → length images ≡ length added → ((x : ℕ) → Contains names x → Contains added x → ⊥)
      → merge (filter (is_kept removed rows) (filter (λ x. value x == number) names)) (leading (entry_names rows) (entry_values rows) number) ++ leading added images number
      ≡ filter (λ x. look (beside (value x) rows x) added images x == number) (staying removed names ++ added)
  all_led added images up_added long apart =
      let after = λ (x : ℕ). look (beside (value x) rows x) added images x == number in
      ap (λ (xs : List ℕ). xs ++ leading added images number) (staying_led
      ∙ filter_same led after (staying removed names) (λ x there. ap (λ (y : ℕ). y == number)
      (sym (look_missing (beside (value x) rows x) added images x (apart x (contained_in_filter (λ y. not (gone y)) names x there).0)))))
      ∙ ap (λ (xs : List ℕ). filter after (staying removed names) ++ xs)
      (sym (leading_looked (λ x. beside (value x) rows x) added images number long (once_from_distinct added (ascends_distinct added up_added))))
      ∙ sym (filter-append after (staying removed names) added)
