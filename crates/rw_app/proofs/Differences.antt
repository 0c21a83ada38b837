-- Lists that stay as they are have no difference.
use Rattle.std.proofs.Common.{◌≡◌, ℕ, zero, suc, ◌+◌, Bool, true, false, not, List, [], ◌∷◌, All, Contains, filter, Some, slice_get, refl, ap, ◌∙◌, add-zero, zero-add, arith}
use Rattle.std.specs.List.{list_any}
use Rattle.std.specs.Str.{bytes_eq}
use Rattle.std.proofs.lemmas.Bool.{or_left, or_right}
use Rattle.std.proofs.lemmas.List.Elements.{All-head, All-tail, All-weaker, All-contains_itself}
use Rattle.std.proofs.lemmas.Option.{get_or_from_slice_get}
use Rattle.std.proofs.lemmas.Slice.Eq.{bytes_eq-Decides}
use Rattle.rw_schema.specs.First.{flat_map_in}
use Rattle.rw_schema.specs.RowLists.{list_at}
use Rattle.rw_lists.specs.News.{is_in, without, news_at, differences}

-- a list that contains an item that passes a test has one that passes
any_contained : {X : Type 0} (test : X → Bool) (xs : List X) (x : X) → Contains xs x → test x ≡ true → list_any test xs ≡ true
any_contained test [] x (k, within, there) passed = absurd (omega arith)
any_contained test (y ∷ xs) x (zero, within, there) passed = or_left (test y) (list_any test xs) (ap test there ∙ passed)
any_contained test (y ∷ xs) x (suc k, within, there) passed =
    or_right (test y) (list_any test xs) (any_contained test xs x (k, omega arith, there) passed)

-- a filter that no item passes keeps none
filter_none : {X : Type 0} (test : X → Bool) (xs : List X) → All (λ x. test x ≡ false) xs → filter test xs ≡ []
filter_none test [] none = refl
filter_none test (x ∷ xs) none =
    rw (All-head (λ y. test y ≡ false) x xs none) (filter_none test xs (All-tail (λ y. test y ≡ false) x xs none))

-- each tuple of a list is in it
none_missing : (tuples : List (List ℕ)) → without tuples tuples ≡ []
none_missing tuples =
    filter_none (λ tuple. not (is_in tuples tuple)) tuples
    (All-weaker (Contains tuples) (λ tuple. not (is_in tuples tuple) ≡ false)
    (λ tuple there. ap not (any_contained (bytes_eq tuple) tuples tuple there ((bytes_eq-Decides tuple tuple).1 refl)))
    tuples (All-contains_itself tuples))

-- where no item gives anything at its place, nothing is given
flat_map_in_none : {X A : Type 0} (f : ℕ → X → List A) (i : ℕ) (xs : List X) → ((k : ℕ) (x : X) → slice_get xs k ≡ Some x → f (i + k) x ≡ [])
    → flat_map_in f i xs ≡ []
flat_map_in_none f i [] none = refl
flat_map_in_none f i (x ∷ xs) none =
    let here : f i x ≡ [] = rw add-zero at (none 0 x refl) in
    let later : flat_map_in f (i + 1) xs ≡ [] =
    flat_map_in_none f (i + 1) xs (λ k y there. let same : (i + 1) + k ≡ i + suc k = omega arith in rw same (none (suc k) y there)) in
    rw (here, later) refl

-- lists that stay have no difference
pub none_changed : (lists : List (List (List ℕ))) → differences lists lists ≡ []
none_changed lists =
    flat_map_in_none (news_at lists) 0 lists
    (λ k list there.
    let same : list_at lists (0 + k) ≡ list = rw zero-add (get_or_from_slice_get lists k list [] there) in
    rw (same, none_missing list) refl)
