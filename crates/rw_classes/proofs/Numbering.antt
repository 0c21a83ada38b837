-- Trees numbered in the order of their roots.
use Rattle.std.proofs.Common.{◌≡◌, ◌≢◌, ◌<◌, ◌≤◌, ◌+◌, ◌++◌, ℕ, zero, suc, List, [], ◌∷◌, length, slice_index, refl, sym, ap, ◌∙◌, subst, add-one, add-zero, arith, below_more, length-append}
use Rattle.std.proofs.Math.ListN.{get_or-append}
use Rattle.std.proofs.Math.Seq.{get_or-append_seam}
use Rattle.std.proofs.lemmas.List.FromFn.{length-range_with_len, get_or-range_with_len}
use Rattle.std.specs.List.{range_with_len}
use Rattle.rw_classes.specs.Classes.{AreNumbered, AreClasses}
use Rattle.rw_classes.specs.inner.Links.{Descends, Follows, AreUnited, AreRootClasses}

-- an earlier entry stays where one more is put behind
earlier : (xs : List ℕ) (last n x : ℕ) → length xs ≡ n → x < n → slice_index (xs ++ last ∷ []) x ≡ slice_index xs x
earlier xs last n x long within = get_or-append xs (last ∷ []) 0 x (omega arith)

-- the entry that was put behind
latest : (xs : List ℕ) (last n : ℕ) → length xs ≡ n → slice_index (xs ++ last ∷ []) n ≡ last
latest xs last n long = ap (slice_index (xs ++ last ∷ [])) (sym long) ∙ get_or-append_seam xs last [] 0

-- one more entry
longer : (xs : List ℕ) (last n : ℕ) → length xs ≡ n → length (xs ++ last ∷ []) ≡ n + 1
longer xs last n long = length-append xs (last ∷ []) ∙ ap (λ k. k + 1) long

-- a root begins a class
pub numbered_root : (parents : List ℕ) (n : ℕ) (numbers firsts : List ℕ) → Descends parents → n < length parents → slice_index parents n ≡ n
    → AreRootClasses parents n numbers firsts → AreRootClasses parents (n + 1) (numbers ++ length firsts ∷ []) (firsts ++ n ∷ [])
numbered_root parents n numbers firsts descends within own before =
    let count : ℕ = length firsts in
    let more : List ℕ = numbers ++ count ∷ [] in
    let begun : List ℕ = firsts ++ n ∷ [] in
    let each : length numbers ≡ n = before.numbered.each in
    let one_more : length begun ≡ count + 1 = longer firsts n count refl in
    let number_new : slice_index more n ≡ count = latest numbers count n each in
    let first_new : slice_index begun count ≡ n = latest firsts n count refl in
    let number_of : (x : ℕ) → x < n → slice_index more x ≡ slice_index numbers x = λ x below. earlier numbers count n x each below in
    let first_of_class : (k : ℕ) → k < count → slice_index begun k ≡ slice_index firsts k = λ k below. earlier firsts n count k refl below in
    let first_of_number : (x : ℕ) → x < n → slice_index begun (slice_index more x) ≡ slice_index firsts (slice_index numbers x) =
    λ x below. ap (slice_index begun) (number_of x below) ∙ first_of_class (slice_index numbers x) (before.numbered.within x below) in
    let first_of_new : slice_index begun (slice_index more n) ≡ n = ap (slice_index begun) number_new ∙ first_new in
    record {
      numbered = record {
        each = longer numbers count n each;
        within = below_more (λ x. slice_index more x < length begun) n
            (λ x below. rw (number_of x below, one_more) (omega (arith, before.numbered.within x below)))
            (rw (number_new, one_more) (omega arith));
        least = below_more (λ x. slice_index begun (slice_index more x) ≤ x) n
            (λ x below. rw (first_of_number x below) (before.numbered.least x below))
            (rw first_of_new (omega arith));
        found = λ k k_within.
            below_more (λ k. slice_index more (slice_index begun k) ≡ k) count
            (λ k below. ap (slice_index more) (first_of_class k below) ∙ number_of (slice_index firsts k) (before.numbered.below k below) ∙ before.numbered.found k below)
            (ap (slice_index more) first_new ∙ number_new)
            k (omega arith);
        below = λ k k_within.
            below_more (λ k. slice_index begun k < n + 1) count
            (λ k below. rw (first_of_class k below) (omega (arith, before.numbered.below k below)))
            (rw first_new (omega arith))
            k (omega arith);
        ascend = λ i k order k_within.
            below_more (λ k. i < k → slice_index begun i < slice_index begun k) count
            (λ k below i_below.
            let i_there : i < count = omega arith in
            rw (first_of_class i i_there, first_of_class k below) (before.numbered.ascend i k i_below below))
            (λ i_below. rw (first_of_class i i_below, first_new) (before.numbered.below i i_below))
            k (omega arith) order;
      };
      few = rw one_more (omega (arith, before.few));
      follows = below_more (λ x. slice_index more (slice_index parents x) ≡ slice_index more x) n
          (λ x below.
          let parent_below : slice_index parents x < n = omega (arith, descends x (omega arith)) in
          number_of (slice_index parents x) parent_below ∙ before.follows x below ∙ sym (number_of x below))
          (ap (slice_index more) own);
      finest = λ h follows.
          below_more (λ x. h (slice_index begun (slice_index more x)) ≡ h x) n
          (λ x below. ap h (first_of_number x below) ∙ before.finest h follows x below)
          (ap h first_of_new);
    }

-- another number is in its parent's class
pub numbered_child : (parents : List ℕ) (n parent : ℕ) (numbers firsts : List ℕ) → Descends parents → n < length parents → slice_index parents n ≡ parent → parent ≢ n
    → AreRootClasses parents n numbers firsts → AreRootClasses parents (n + 1) (numbers ++ slice_index numbers parent ∷ []) firsts
numbered_child parents n parent numbers firsts descends within is other before =
    let class : ℕ = slice_index numbers parent in
    let more : List ℕ = numbers ++ class ∷ [] in
    let each : length numbers ≡ n = before.numbered.each in
    let parent_least : slice_index parents n ≤ n = descends n within in
    let parent_below : parent < n = omega arith in
    let number_new : slice_index more n ≡ class = latest numbers class n each in
    let number_of : (x : ℕ) → x < n → slice_index more x ≡ slice_index numbers x = λ x below. earlier numbers class n x each below in
    record {
      numbered = record {
        each = longer numbers class n each;
        within = below_more (λ x. slice_index more x < length firsts) n
            (λ x below. rw (number_of x below) (before.numbered.within x below))
            (rw number_new (before.numbered.within parent parent_below));
        least = below_more (λ x. slice_index firsts (slice_index more x) ≤ x) n
            (λ x below. rw (number_of x below) (before.numbered.least x below))
            (rw number_new (omega (arith, before.numbered.least parent parent_below)));
        found = λ k k_within. number_of (slice_index firsts k) (before.numbered.below k k_within) ∙ before.numbered.found k k_within;
        below = λ k k_within. omega (arith, before.numbered.below k k_within);
        ascend = before.numbered.ascend;
      };
      few = omega (arith, before.few);
      follows = below_more (λ x. slice_index more (slice_index parents x) ≡ slice_index more x) n
          (λ x below.
          let x_parent_below : slice_index parents x < n = omega (arith, descends x (omega arith)) in
          number_of (slice_index parents x) x_parent_below ∙ before.follows x below ∙ sym (number_of x below))
          (ap (slice_index more) is ∙ number_of parent parent_below ∙ sym number_new);
      finest = λ h follows.
          below_more (λ x. h (slice_index firsts (slice_index more x)) ≡ h x) n
          (λ x below. ap (λ (w : ℕ). h (slice_index firsts w)) (number_of x below) ∙ before.finest h follows x below)
          (ap (λ (w : ℕ). h (slice_index firsts w)) number_new ∙ before.finest h follows parent parent_below ∙ ap h (sym is) ∙ follows n within);
    }

-- the numbers from a first one on, with one more
range_more : (first count : ℕ) → range_with_len first (suc count) ≡ range_with_len first count ++ (first + count) ∷ []
range_more first zero = rw add-zero refl
range_more first (suc count) =
    let same : (first + 1) + count ≡ first + suc count = omega arith in
    ap (λ (rest : List ℕ). first ∷ rest) (range_more (first + 1) count ∙ ap (λ (last : ℕ). range_with_len (first + 1) count ++ last ∷ []) same)

-- the numbers below n + 1 are those below n, and n
pub singletons_more : (n : ℕ) → range_with_len 0 (n + 1) ≡ range_with_len 0 n ++ n ∷ []
singletons_more n =
    let same : 0 + n ≡ n = omega arith in
    rw add-one (range_more 0 n ∙ ap (λ (last : ℕ). range_with_len 0 n ++ last ∷ []) same)

-- numbers are their own parents at first: no number is greater than itself
pub singletons_descend : (n : ℕ) → Descends (range_with_len 0 n)
singletons_descend n x within =
    let x_below : x < n = subst (λ (k : ℕ). x < k) (length-range_with_len 0 n) within in
    rw (get_or-range_with_len 0 n x 0 x_below) (omega arith)

-- and each function follows them
singletons_follow : (n : ℕ) (h : ℕ → ℕ) → Follows (range_with_len 0 n) h
singletons_follow n h x within =
    let x_below : x < n = subst (λ (k : ℕ). x < k) (length-range_with_len 0 n) within in
    let own : 0 + x ≡ x = omega arith in
    ap h (get_or-range_with_len 0 n x 0 x_below ∙ own)

-- the trees that join the pairs, as classes
pub classes_from_trees : (n : ℕ) (pairs : List (ℕ × ℕ)) (parents numbers firsts : List ℕ) → AreUnited pairs (range_with_len 0 n) parents
    → AreRootClasses parents (length parents) numbers firsts → AreClasses n pairs numbers firsts
classes_from_trees n pairs parents numbers firsts united trees =
    let long : length parents ≡ n = united.same ∙ length-range_with_len 0 n in
    let numbered : AreNumbered n numbers firsts = subst (λ (k : ℕ). AreNumbered k numbers firsts) long trees.numbered in
    record {
      numbered = numbered;
      joins = united.joins (slice_index numbers) trees.follows;
      finest = λ h joins x within.
          trees.finest h (united.onward h (singletons_follow n h) joins) x (subst (λ (k : ℕ). x < k) (sym long) within);
    }
