-- What holds of what a test lets pass.
use Rattle.std.proofs.Common.{◌≡◌, Bool, true, Option, Some, None, is_none, Ok, refl, subst}
use Rattle.rw_doc.specs.Chain.{checked}
use Rattle.rw_doc.proofs.Chains.{checked_then}

-- what holds of x, where a test passes, holds of what the test lets pass
pub passed : {A E : Type 0} (P : A → Type 0) (fault : E) (test : Bool) (x : A) → (test ≡ true → P x) → (y : A) → checked fault test (Ok x) ≡ Ok y → P y
passed P fault test x holds = checked_then P fault test (Ok x) (λ passes y is. let same : x ≡ y = cc in subst P same (holds passes))

-- nothing is there where the test for it passes
pub none_is : {A : Type 0} (found : Option A) → is_none found ≡ true → found ≡ None
none_is None passes = refl
none_is (Some x) passes = cc
