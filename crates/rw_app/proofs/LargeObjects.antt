-- The object that a pullback is too large at.
use Rattle.std.proofs.Common.{◌≡◌, ℕ, zero, suc, ◌+◌, ◌<◌, Bool, true, false, nat_le, Option, Some, length, subst, arith}
use Rattle.std.specs.List.{range_with_len}
use Rattle.rw_schema.specs.declared.ids.ObjectId.{ObjectId}
use Rattle.rw_schema.specs.First.{or_else, first_in, fault_unless}
use Rattle.rw_schema.specs.Signature.{Signature}
use Rattle.rw_spec.specs.Pullback.{Cospan}
use Rattle.rw_limits.specs.Pairs.{pairs_at}
use Rattle.rw_limits.specs.Pullbacks.{most_pairs, too_large}

-- the object that fails its test is this one, or it comes later
this_or_later : (passes : Bool) (later : Option ObjectId) (this bound : ℕ) (object : ObjectId) → this < bound → (later ≡ Some object → object.0 < bound)
    → or_else (fault_unless passes (record { 0 = this })) later ≡ Some object → object.0 < bound
this_or_later true later this bound object within comes found = comes found
this_or_later false later this bound object within comes found =
    let here : ObjectId = record { 0 = this } in
    let same : here ≡ object = cc in
    subst (λ (object : ObjectId). object.0 < bound) same within

-- the first object in a range that fails a test is before its end
first_before : (test : ℕ → Bool) (place start count : ℕ) (object : ObjectId)
    → first_in (λ place each. fault_unless (test each) (record { 0 = each })) place (range_with_len start count) ≡ Some object → object.0 < start + count
first_before test place start zero object found = let no : ⊥ = cc in absurd no
first_before test place start (suc count) object found =
    let later : Option ObjectId = first_in (λ place each. fault_unless (test each) (record { 0 = each })) (place + 1) (range_with_len (start + 1) count) in
    let comes : later ≡ Some object → object.0 < start + suc count =
    λ first. let before : object.0 < (start + 1) + count = first_before test (place + 1) (start + 1) count object first in omega arith in
    this_or_later (test start) later start (start + suc count) object (omega arith) comes found

-- the object with too many pairs is one of the schema
pub large_object : (C : Signature) (S : Cospan) (object : ObjectId) → too_large C S ≡ Some object → object.0 < C.objects
large_object C S object found =
    let before : object.0 < 0 + C.objects = first_before (λ each. nat_le (length (pairs_at S each)) most_pairs) 0 0 C.objects object found in
    omega arith
