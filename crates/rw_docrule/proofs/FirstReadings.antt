-- Readings, one after the other, and what a test lets pass.
use Rattle.std.proofs.Common.{◌≡◌, Bool, true, false, refl, ap, Result, Ok, Err}
use Rattle.rw_doc.specs.declared.end.ReadDocEnd.{ReadDocEnd}
use Rattle.rw_doc.specs.declared.end.ReadDocEnd.TheVariants.{Refused, OutOfMemory}
use Rattle.rw_doc.specs.declared.fault.DocFault.{DocFault}
use Rattle.rw_doc.specs.Chain.{and_then, checked}
use Rattle.rw_doc.specs.Gives.{Gives}

-- where the first one ends without a value, so do both
pub ends_first : {X Y A B : Type 0} (first : X → A) (both : Y → B) (end : ReadDocEnd) (reading : Result A DocFault) (later : A → Result B DocFault)
    → Gives first (Err end) reading → Gives both (Err end) (and_then reading later)
ends_first first both (Refused fault) reading later gives = rw gives refl
ends_first first both OutOfMemory reading later gives = tt

-- where both of two readings give something, what is read of both is what follows them
pub both_read : {A B C Z : Type 0} (model : Z → C) (end : Result Z ReadDocEnd) (first : Result A DocFault) (second : A → Result B DocFault) (later : A → B → Result C DocFault)
    (x : A) (y : B) → first ≡ Ok x → second x ≡ Ok y → Gives model end (later x y) → Gives model end (and_then first (λ x. and_then (second x) (later x)))
both_read model end first second later x y is_first is_second gives = rw (is_first, is_second) gives

-- where a test lets nothing pass, it lets nothing else pass either
pub ends_checked : {X Y A B : Type 0} (one : X → A) (other : Y → B) (end : ReadDocEnd) (fault : DocFault) (test : Bool) (x : A) (y : B)
    → Gives one (Err end) (checked fault test (Ok x)) → Gives other (Err end) (checked fault test (Ok y))
ends_checked one other (Refused found) fault true x y gives = let never : ⊥ = cc in absurd never
ends_checked one other (Refused found) fault false x y gives = let same : fault ≡ found = cc in ap Err same
ends_checked one other OutOfMemory fault test x y gives = tt

-- where it lets one value pass, it lets what is made of that pass
pub checked_so : {A B : Type 0} (f : A → B) (fault : DocFault) (test : Bool) (x y : A) → checked fault test (Ok x) ≡ Ok y → checked fault test (Ok (f x)) ≡ Ok (f y)
checked_so f fault true x y is = let same : x ≡ y = cc in ap (λ z. Ok (f z)) same
checked_so f fault false x y is = let never : ⊥ = cc in absurd never
