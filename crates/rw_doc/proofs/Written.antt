-- What is written at a place of a list.
use Rattle.std.proofs.Common.{◌≡◌, ◌∙◌, ◌<◌, ℕ, false, nat_le, Option, Some, None, List, slice_get, sym, subst, refl, arith}
use Rattle.std.proofs.lemmas.Option.{same_Some}
use Rattle.serde_json.specs.Data.{Data}
use Rattle.rw_doc.specs.Entries.{HasOtherForm, IsWritten, form_at}

-- nothing is both there and not
pub never_both : {A : Type 0} (value : Option A) (x : A) → value ≡ Some x → value ≡ None → ⊥
never_both value x is none = cc

-- where a number fails to be at most another, it is more
pub many : (count most : ℕ) → nat_le count most ≡ false → most < count
many count most fails = grind arith

-- what is written at the place
pub written_at : {A : Type 0} (form : Data → Option A) (items : List Data) (place : ℕ) (value : Data) (entry : A)
    → slice_get items place ≡ Some value → form value ≡ Some entry → form_at form items place ≡ Some entry
written_at form items place value entry found is = rw found is

-- of what is written a property holds where it is written that it does
pub written_is : {A : Type 0} (form : Data → Option A) (items : List Data) (place : ℕ) (entry : A) (Property : A → Type 0)
    → form_at form items place ≡ Some entry → IsWritten form items place Property → Property entry
written_is form items place entry Property written holds = subst Property (same_Some holds.0 entry (sym holds.1 ∙ written)) holds.2

-- what is written has no other form
pub no_other_form : {A : Type 0} (form : Data → Option A) (items : List Data) (place : ℕ) (entry : A)
    → form_at form items place ≡ Some entry → HasOtherForm form items place → ⊥
no_other_form form items place entry written other =
    let none : form_at form items place ≡ None = rw other.1 other.2 in
    never_both (form_at form items place) entry written none

-- where nothing stands, nothing is written
pub nothing_written : {A : Type 0} (form : Data → Option A) (items : List Data) (place : ℕ) (Property : A → Type 0)
    → slice_get items place ≡ None → IsWritten form items place Property → ⊥
nothing_written form items place Property none holds =
    let no : form_at form items place ≡ None = rw none refl in
    never_both (form_at form items place) holds.0 holds.1 no

-- nor is it of another form
pub nothing_of_other_form : {A : Type 0} (form : Data → Option A) (items : List Data) (place : ℕ) → slice_get items place ≡ None → HasOtherForm form items place → ⊥
nothing_of_other_form form items place none other = never_both (slice_get items place) other.0 other.1 none
