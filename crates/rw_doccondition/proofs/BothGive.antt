-- What the first of two readings gave.
use Rattle.std.proofs.Common.{◌≡◌, Result, Ok, Err, ap}
use Rattle.rw_doc.specs.declared.end.ReadDocEnd.{ReadDocEnd}
use Rattle.rw_doccondition.specs.Both.{both_ends}

-- where both gave something, the first gave its part of it
pub first_gave : {A B : Type 0} (first : Result A ReadDocEnd) (second : Result B ReadDocEnd) (x : A) (y : B) → both_ends first second ≡ Ok (x, y) → first ≡ Ok x
first_gave {A} {B} (Ok a) (Ok b) x y is =
    let pairs : A × B = (a, b) in
    let other : A × B = (x, y) in
    let same : pairs ≡ other = cc in
    ap (λ (pair : A × B). Ok pair.0) same
first_gave (Ok a) (Err end) x y is = let never : ⊥ = cc in absurd never
first_gave (Err end) (Ok b) x y is = let never : ⊥ = cc in absurd never
first_gave (Err end) (Err other) x y is = let never : ⊥ = cc in absurd never
