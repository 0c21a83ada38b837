-- The numbers from one on, with one number more.
use Rattle.std.proofs.Common.{◌≡◌, ℕ, zero, suc, ◌+◌, ◌<◌, Bool, true, false, cond, filter, map, length, get_or, Some, slice_get, List, [], ◌∷◌, ◌++◌, refl, ap, sym, ◌∙◌, add-zero, zero-add, arith, length-append}
use Rattle.std.specs.List.{list_any, range_with_len}
use Rattle.std.proofs.lemmas.List.{length-map}
use Rattle.std.proofs.lemmas.List.Elements.{filter-append}
use Rattle.std.proofs.lemmas.List.Folds.{list_any-append}
use Rattle.std.proofs.lemmas.List.FromFn.{length-range_with_len, get_or-range_with_len, length-map-range_with_len, get_or-map-range_with_len, map-range_with_len_more}
use Rattle.std.proofs.lemmas.Option.{slice_get-get_or}
use Rattle.rw_schema.specs.RowLists.{list_at}
use Rattle.rw_schema.proofs.Lists.{list_at_map}

-- a range is a range and the one behind it
pub range_split : (start first later : ℕ) → range_with_len start (first + later) ≡ range_with_len start first ++ range_with_len (start + first) later
range_split start zero later = rw (zero-add later, add-zero) refl
range_split start (suc first) later =
    let one_more : suc first + later ≡ suc (first + later) = omega arith in
    let same : (start + 1) + first ≡ start + suc first = omega arith in
    rw (one_more, range_split (start + 1) first later, same) refl

-- a number of a range from 0 stands at its place
pub range_at : (n k : ℕ) → k < n → slice_get (range_with_len 0 n) k ≡ Some k
range_at n k short =
    slice_get-get_or (range_with_len 0 n) k 0 (rw (length-range_with_len 0 n) short)
    ∙ ap Some (get_or-range_with_len 0 n k 0 short ∙ zero-add k)

-- one number more stands behind the others
pub range_more : (first n : ℕ) → range_with_len first (n + 1) ≡ range_with_len first n ++ (first + n) ∷ []
range_more first n = range_split first n 1

-- a test that fails at the numbers below n and at n fails at the numbers up to n
pub none_more : (test : ℕ → Bool) (n : ℕ) → list_any test (range_with_len 0 n) ≡ false → test n ≡ false → list_any test (range_with_len 0 (n + 1)) ≡ false
none_more test n before here = rw (range_more 0 n, zero-add n, list_any-append test (range_with_len 0 n) (n ∷ []), before, here) refl

-- the numbers up to n that pass a test
pub filter_more : (test : ℕ → Bool) (n : ℕ) (passes : Bool) → test n ≡ passes
    → filter test (range_with_len 0 (n + 1)) ≡ filter test (range_with_len 0 n) ++ cond passes (n ∷ []) []
filter_more test n passes here = rw (range_more 0 n, zero-add n, filter-append test (range_with_len 0 n) (n ∷ []), here) refl

-- how many numbers up to n pass a test
pub count_more : (test : ℕ → Bool) (n : ℕ) (passes : Bool) → test n ≡ passes
    → length (filter test (range_with_len 0 (n + 1))) ≡ length (filter test (range_with_len 0 n)) + cond passes 1 0
count_more test n passes here =
    ap length (filter_more test n passes here) ∙ length-append (filter test (range_with_len 0 n)) (cond passes (n ∷ []) [])
    ∙ ap (λ more. length (filter test (range_with_len 0 n)) + more) (one passes n)
  where
    one : (passes : Bool) (n : ℕ) → length (cond passes (n ∷ []) []) ≡ cond passes 1 0
    one true n = refl
    one false n = refl

-- a map over the numbers below n, and over n
pub map_more : {X : Type 0} (f : ℕ → X) (n : ℕ) (xs : List X) (x : X) → xs ≡ map f (range_with_len 0 n) → x ≡ f n → xs ++ x ∷ [] ≡ map f (range_with_len 0 (n + 1))
map_more f n xs x are is =
    ap (λ xs. xs ++ x ∷ []) are ∙ ap (λ x. map f (range_with_len 0 n) ++ x ∷ []) is
    ∙ sym (map-range_with_len_more f 0 n n (zero-add n))

-- lists that are given by a function of the numbers below n are n
pub mapped_long : {V X : Type 0} (items : V → X) (values : List V) (f : ℕ → X) (n : ℕ) → map items values ≡ map f (range_with_len 0 n) → length values ≡ n
mapped_long items values f n same = sym (length-map values items) ∙ ap length same ∙ length-map-range_with_len f 0 n

-- the list at a number is that of the function
pub mapped_at : {V : Type 0} (items : V → List ℕ) (values : List V) (f : ℕ → List ℕ) (n i : ℕ) (value : V)
    → map items values ≡ map f (range_with_len 0 n) → i < n → value ≡ get_or values i value → items value ≡ f i
mapped_at items values f n i value same within is =
    let there : i < length values = omega (arith, mapped_long items values f n same) in
    sym (list_at_map items values i value there ∙ ap items (sym is)) ∙ ap (λ lists. list_at lists i) same
    ∙ get_or-map-range_with_len f 0 n i i [] within (zero-add i)
