-- The place of a name among names, and the entry beside it.
use Rattle.std.proofs.Common.{◌≡◌, ◌==◌, ◌∙◌, ℕ, suc, ◌+◌, ◌<◌, Bool, true, false, cond, if◌then◌else◌, nat_lt, List, [], ◌∷◌, length, get_or, slice_get, position, Some, None, refl, sym, ap, inl, inr, arith, Result, Ok, Err}
use Rattle.std.specs.List.{list_any, position_or_len}
use Rattle.std.specs.Option.{is_some, unwrap_or}
use Rattle.std.specs.List.Sorted.{IsBinarySearchResult}
use Rattle.std.specs.Ordering.{nat_cmp}
use Rattle.std.specs.Result.{result_ok}
use Rattle.std.proofs.lemmas.Bool.{eqb-true, eqb-false, eq-eqb, ne_eqb, both_ways, cases_Bool, cases_lt, lt-ltb, le-ltb}
use Rattle.std.proofs.lemmas.Bool.Decides.{nat_tests}
use Rattle.std.proofs.lemmas.List.Sorted.{searched}
use Rattle.std.proofs.lemmas.Option.{slice_get_within, slice_get-get_or, get_or_from_slice_get}
use Rattle.std.proofs.lemmas.List.Sums.{position_or_len_is}
use Rattle.std.proofs.lemmas.List.Quantifiers.{position-Some}
use Rattle.std.proofs.lemmas.List.Folds.{list_any_at}
use Rattle.rw_spec.specs.Instance.{look}
use Rattle.rw_spec.proofs.Look.{look_first, look_missing, found_contained}
use Rattle.rw_spec.specs.Ascending.{ascends}
use Rattle.rw_spec.proofs.Ascending.{ascends_apart, ascends_far}

-- the place of an element that is the first to pass a test
place_is : {X : Type 0} (test : X → Bool) (xs : List X) (k : ℕ) (d : X)
    → k < length xs → ((j : ℕ) → j < k → test (get_or xs j d) ≡ false) → test (get_or xs k d) ≡ true → position test xs ≡ Some k
place_is test xs k d within before here =
    let first = position_or_len_is test xs k d (omega arith) before (λ _. here) in
    rw (first, lt-ltb k (length xs) within) refl

-- a value that stands under a test is there exactly where the test passes
is_some_cond : {A : Type 0} (test : Bool) (a : A) → is_some (cond test (Some a) None) ≡ test
is_some_cond true a = refl
is_some_cond false a = refl

-- where no element passes a test there is no place
place_none : {X : Type 0} (test : X → Bool) (xs : List X) (d : X)
    → ((j : ℕ) → j < length xs → test (get_or xs j d) ≡ false) → position test xs ≡ None
place_none test xs d fails =
    let all = position_or_len_is test xs (length xs) d (omega arith) fails (λ within. absurd (omega arith)) in
    rw (all, le-ltb (length xs) (length xs) (omega arith)) refl

-- one place more is below one element more exactly where the place is below the elements
below_more : (m n : ℕ) → nat_lt (1 + m) (suc n) ≡ nat_lt m n
below_more m n = grind (arith, nat_tests)

-- the first place is below the length exactly where some element passes the test
place_below : {X : Type 0} (test : X → Bool) (xs : List X) → nat_lt (position_or_len test xs) (length xs) ≡ list_any test xs
place_below test [] = refl
place_below test (x ∷ xs) =
    elim (cases_Bool (test x)) [
      | inl passes ↦ rw (passes, lt-ltb 0 (suc (length xs)) (omega arith)) refl
      | inr fails ↦ rw fails (below_more (position_or_len test xs) (length xs) ∙ place_below test xs)
    ]

-- there is a place exactly where some element passes the test
pub place_found : {X : Type 0} (test : X → Bool) (xs : List X) → is_some (position test xs) ≡ list_any test xs
place_found test xs = is_some_cond (nat_lt (position_or_len test xs) (length xs)) (position_or_len test xs) ∙ place_below test xs

-- where a name stands among ascending names is its place
pub place_stands : (names : List ℕ) (name k : ℕ) → ascends names ≡ true → slice_get names k ≡ Some name → Some k ≡ position (λ other. other == name) names
place_stands names name k up stands =
    let within : k < length names = slice_get_within names k name stands in
    let here : get_or names k 0 ≡ name = get_or_from_slice_get names k name 0 stands in
    sym (place_is (λ other. other == name) names k 0 within
    (λ j below. ne_eqb (get_or names j 0) name (λ same. let less = ascends_apart names j k up below within in absurd (omega arith)))
    (eq-eqb (get_or names k 0) name here))

-- what a binary search of ascending names finds is the place of the name
pub place_searched : (names : List ℕ) (name : ℕ) (answer : Result ℕ ℕ) → ascends names ≡ true
    → IsBinarySearchResult (λ other. nat_cmp other name) names answer → result_ok answer ≡ position (λ other. other == name) names
place_searched names name (Ok k) up is =
    let found = searched names name (Ok k) is (ascends_far names up) in
    place_stands names name k up (slice_get-get_or names k 0 found.0 ∙ ap (λ (n : ℕ). Some n) found.1)
place_searched names name (Err k) up is =
    let missed = searched names name (Err k) is (ascends_far names up) in
    sym (place_none (λ other. other == name) names 0
    (λ j within. ne_eqb (get_or names j 0) name (λ same. elim (cases_lt j k) [
      | inl below ↦ let less = missed.1 j below in absurd (omega arith)
      | inr above ↦ let more = missed.2 j above within in absurd (omega arith)
    ])))

-- the entry at the place of a name is the entry beside it
pub entry_found : {A : Type 0} (none : A) (names : List ℕ) (entries : List A) (name k : ℕ) → position (λ other. other == name) names ≡ Some k
    → Some (get_or entries k none) ≡ (if list_any (λ other. other == name) names then Some (look none names entries name) else None)
entry_found none names entries name k found =
    let at = position-Some (λ other. other == name) names k 0 found in
    let among : list_any (λ other. other == name) names ≡ true = list_any_at (λ other. other == name) names k 0 at.0 at.1 in
    let beside : look none names entries name ≡ get_or entries k none =
    look_first none names entries name k at.0 (eqb-true (get_or names k 0) name at.1) (λ j below. eqb-false (get_or names j 0) name (at.2 j below)) in
    rw (among, beside) refl

-- no entry is beside a name that has no place
pub entry_missing : {A : Type 0} (none : A) (names : List ℕ) (entries : List A) (name : ℕ) → position (λ other. other == name) names ≡ None
    → None ≡ (if list_any (λ other. other == name) names then Some (look none names entries name) else None)
entry_missing none names entries name missing =
    let among : list_any (λ other. other == name) names ≡ false = sym (place_found (λ other. other == name) names) ∙ ap is_some missing in
    rw among refl

-- the entry beside a name, or the one given where the name has no place, is what is looked up
pub entry_or : {A : Type 0} (none : A) (names : List ℕ) (entries : List A) (name : ℕ)
    → unwrap_or (if list_any (λ other. other == name) names then Some (look none names entries name) else None) none ≡ look none names entries name
entry_or none names entries name =
    elim (cases_Bool (list_any (λ other. other == name) names)) [
      | inl among ↦ rw among refl
      | inr missing ↦ rw missing (sym (look_missing none names entries name (λ contains. both_ways (list_any (λ other. other == name) names) missing (found_contained names name contains))))
    ]

-- where no entry is beside a name, the one given is what is looked up
pub entry_none : {A : Type 0} (none : A) (names : List ℕ) (entries : List A) (name : ℕ)
    → None ≡ (if list_any (λ other. other == name) names then Some (look none names entries name) else None) → none ≡ look none names entries name
entry_none none names entries name missing = ap (λ found. unwrap_or found none) missing ∙ entry_or none names entries name
