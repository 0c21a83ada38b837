-- There is one division into classes: its numbers and its first members are determined.
use Rattle.std.proofs.Common.{◌≡◌, ◌∙◌, ℕ, zero, suc, ◌<◌, ◌≤◌, List, length, slice_index, sym, ap, inl, inr, arith}
use Rattle.std.proofs.lemmas.Bool.{cases_lt}
use Rattle.std.proofs.lemmas.List.{ext_get_or}
use Rattle.rw_classes.specs.Classes.{AreNumbered, AreClasses}

-- two numberings of classes with the same least members
module _ (n : ℕ) (numbers firsts others starts : List ℕ) (one : AreNumbered n numbers firsts) (other : AreNumbered n others starts)
    (same : (x : ℕ) → x < n → slice_index firsts (slice_index numbers x) ≡ slice_index starts (slice_index others x))
  where
    -- the first member of a class is that of its class in the other numbering
    start_is : (k : ℕ) → k < length firsts → slice_index starts (slice_index others (slice_index firsts k)) ≡ slice_index firsts k
    start_is k within = sym (same (slice_index firsts k) (one.below k within)) ∙ ap (slice_index firsts) (one.found k within)

    -- a later class has a later number in the other numbering
    rises : (i k : ℕ) → i < k → k < length firsts → slice_index others (slice_index firsts i) < slice_index others (slice_index firsts k)
    rises i k order within =
        let here : ℕ = slice_index others (slice_index firsts i) in
        let there : ℕ = slice_index others (slice_index firsts k) in
        let i_within : i < length firsts = omega arith in
        let less : slice_index firsts i < slice_index firsts k = one.ascend i k order within in
        let i_start : slice_index starts here ≡ slice_index firsts i = start_is i i_within in
        let k_start : slice_index starts there ≡ slice_index firsts k = start_is k within in
        let here_within : here < length starts = other.within (slice_index firsts i) (one.below i i_within) in
        elim (cases_lt here there) [
          | inl more ↦ more
          | inr no_more ↦ elim (cases_lt there here) [
            | inl fewer ↦
                let turned : slice_index starts there < slice_index starts here = other.ascend there here fewer here_within in
                omega arith
            | inr no_fewer ↦
                let equal : here ≡ there = omega arith in
                let together : slice_index starts here ≡ slice_index starts there = ap (slice_index starts) equal in
                omega arith
          ]
        ]

    -- a class has no lesser number in the other numbering
    at_least : (k : ℕ) → k < length firsts → k ≤ slice_index others (slice_index firsts k)
    at_least zero within = omega arith
    at_least (suc k) within =
        let before : k ≤ slice_index others (slice_index firsts k) = at_least k (omega arith) in
        let more : slice_index others (slice_index firsts k) < slice_index others (slice_index firsts (suc k)) = rises k (suc k) (omega arith) within in
        omega arith

-- two such numberings are one
module _ (n : ℕ) (numbers firsts others starts : List ℕ) (one : AreNumbered n numbers firsts) (other : AreNumbered n others starts)
    (same : (x : ℕ) → x < n → slice_index firsts (slice_index numbers x) ≡ slice_index starts (slice_index others x))
  where
    -- a class has its number in the other numbering too
    number_is : (k : ℕ) → k < length firsts → slice_index others (slice_index firsts k) ≡ k
    number_is k within =
        let there : ℕ = slice_index others (slice_index firsts k) in
        let there_within : there < length starts = other.within (slice_index firsts k) (one.below k within) in
        let up : k ≤ there = at_least n numbers firsts others starts one other same k within in
        let on : there ≤ slice_index numbers (slice_index starts there) = at_least n others starts numbers firsts other one (λ x below. sym (same x below)) there there_within in
        let back : slice_index numbers (slice_index starts there) ≡ k =
        ap (slice_index numbers) (start_is n numbers firsts others starts one other same k within) ∙ one.found k within in
        omega arith

    -- the other numbering has no fewer classes
    no_fewer : length firsts ≤ length starts
    no_fewer =
        elim (cases_lt (length starts) (length firsts)) [
          | inl fewer ↦
              let last : ℕ = length starts in
              let there_within : slice_index others (slice_index firsts last) < length starts = other.within (slice_index firsts last) (one.below last fewer) in
              let stays : slice_index others (slice_index firsts last) ≡ last = number_is last fewer in
              omega arith
          | inr enough ↦ enough
        ]

    -- a number has the same class in both
    same_class : (x : ℕ) → x < n → slice_index numbers x ≡ slice_index others x
    same_class x below =
        sym (number_is (slice_index numbers x) (one.within x below))
        ∙ ap (slice_index others) (same x below)
        ∙ other.found (slice_index others x) (other.within x below)

-- the least member of a number's class is no later in another division by the same pairs
no_later : (n : ℕ) (pairs : List (ℕ × ℕ)) (numbers firsts others starts : List ℕ) → AreClasses n pairs numbers firsts → AreClasses n pairs others starts
    → (x : ℕ) → x < n → slice_index starts (slice_index others x) ≤ slice_index firsts (slice_index numbers x)
no_later n pairs numbers firsts others starts one other x below =
    let first : ℕ = slice_index firsts (slice_index numbers x) in
    let first_below : first < n = one.numbered.below (slice_index numbers x) (one.numbered.within x below) in
    let together : slice_index starts (slice_index others first) ≡ slice_index starts (slice_index others x) =
    ap (slice_index starts) (one.finest (slice_index others) other.joins x below) in
    let least : slice_index starts (slice_index others first) ≤ first = other.numbered.least first first_below in
    omega arith

-- two divisions by the same pairs have the same numbers and the same first members
pub only_classes : (n : ℕ) (pairs : List (ℕ × ℕ)) (numbers firsts others starts : List ℕ) → AreClasses n pairs numbers firsts → AreClasses n pairs others starts
    → (numbers ≡ others) × (firsts ≡ starts)
only_classes n pairs numbers firsts others starts one other =
    let same : (x : ℕ) → x < n → slice_index firsts (slice_index numbers x) ≡ slice_index starts (slice_index others x) = λ x below.
    let up : slice_index starts (slice_index others x) ≤ slice_index firsts (slice_index numbers x) = no_later n pairs numbers firsts others starts one other x below in
    let down : slice_index firsts (slice_index numbers x) ≤ slice_index starts (slice_index others x) = no_later n pairs others starts numbers firsts other one x below in
    omega arith in
    let turned : (x : ℕ) → x < n → slice_index starts (slice_index others x) ≡ slice_index firsts (slice_index numbers x) = λ x below. sym (same x below) in
    let up : length firsts ≤ length starts = no_fewer n numbers firsts others starts one.numbered other.numbered same in
    let down : length starts ≤ length firsts = no_fewer n others starts numbers firsts other.numbered one.numbered turned in
    let long : length numbers ≡ n = one.numbered.each in (
      ext_get_or 0 numbers others (one.numbered.each ∙ sym other.numbered.each) (λ x within.
          same_class n numbers firsts others starts one.numbered other.numbered same x (omega arith)),
      ext_get_or 0 firsts starts (omega arith) (λ k within.
          sym (start_is n numbers firsts others starts one.numbered other.numbered same k within)
          ∙ ap (slice_index starts) (number_is n numbers firsts others starts one.numbered other.numbered same k within)),
    )
