-- The names of what was read so far are those that are written.
use Rattle.std.proofs.Common.{◌≡◌, ◌∙◌, ◌<◌, ℕ, zero, suc, inl, inr, true, false, not, Option, Some, None, List, [], ◌∷◌, ◌++◌, length, map, option_map, slice_get, refl, sym, ap, arith}
use Rattle.std.specs.List.{list_any}
use Rattle.std.specs.Str.{bytes_eq}
use Rattle.std.proofs.lemmas.Bool.{cases_Bool, cases_lt}
use Rattle.std.proofs.lemmas.List.{length-append, length-map, map-append}
use Rattle.std.proofs.lemmas.Option.{slice_get_within, same_Some}
use Rattle.std.proofs.lemmas.Slice.Eq.{bytes_eq-Decides}
use Rattle.serde_json.specs.Data.{Data}
use Rattle.rw_doc.specs.Entries.{RepeatsName, form_at}
use Rattle.rw_doc.proofs.Written.{written_at}

-- as many are read as stand before the place, and their names are those that are written there
pub record NamesRead {X A : Type 0} (form : Data → Option X) (name : X → List ℕ) (name_read : A → List ℕ) (items : List Data) (place : ℕ) (read : List A) : Type 0 where
  pub long : length read ≡ place
  pub names : (other : ℕ) → other < place → option_map name (form_at form items other) ≡ slice_get (map name_read read) other

-- at first none is read
pub no_names_read : {X A : Type 0} (form : Data → Option X) (name : X → List ℕ) (name_read : A → List ℕ) (items : List Data) → NamesRead form name name_read items 0 []
no_names_read form name name_read items = record { long = refl; names = λ other less. absurd (omega arith) }

-- what stands before a list's end, with one item more
get_before : {A : Type 0} (xs : List A) (y : A) (i : ℕ) → i < length xs → slice_get (xs ++ y ∷ []) i ≡ slice_get xs i
get_before [] y i less = absurd (omega arith)
get_before (x ∷ xs) y zero less = refl
get_before (x ∷ xs) y (suc i) less = get_before xs y i (omega arith)

-- and at its end
get_last : {A : Type 0} (xs : List A) (y : A) → slice_get (xs ++ y ∷ []) (length xs) ≡ Some y
get_last [] y = refl
get_last (x ∷ xs) y = get_last xs y

-- one more is read
pub one_name_read : {X A : Type 0} (form : Data → Option X) (name : X → List ℕ) (name_read : A → List ℕ) (items : List Data) (place : ℕ) (read : List A)
    (value : Data) (y : A) (entry : X) → NamesRead form name name_read items place read → slice_get items place ≡ Some value → form value ≡ Some entry
    → name entry ≡ name_read y → NamesRead form name name_read items (suc place) (read ++ y ∷ [])
one_name_read form name name_read items place read value y entry names found is same = record {
  long = let long = names.long in omega (arith, length-append read (y ∷ []));
  names = λ other less. elim (cases_lt other place) [
    | inl before ↦
        let within : other < length (map name_read read) = rw (length-map read name_read, names.long) before in
        rw (map-append name_read read (y ∷ []), get_before (map name_read read) (name_read y) other within) (names.names other before)
    | inr behind ↦
        let here : other ≡ length (map name_read read) = rw (length-map read name_read, names.long) (omega arith) in
        let there : place ≡ length (map name_read read) = rw (length-map read name_read) (sym names.long) in
        let last : slice_get (map name_read read ++ name_read y ∷ []) other ≡ Some (name_read y) = rw here (get_last (map name_read read) (name_read y)) in
        let written : form_at form items other ≡ Some entry = rw (here ∙ sym there) (written_at form items place value entry found is) in
        rw (map-append name_read read (y ∷ []), written, last) (ap (λ n. Some n) same)
  ];
}

-- a name that one of the list has stands at a place
any_at : {A : Type 0} (h : A → List ℕ) (n : List ℕ) (xs : List A) → list_any (λ x. bytes_eq n (h x)) xs ≡ true → (place : ℕ) × (slice_get (map h xs) place ≡ Some n)
any_at h n [] any = absurd (let never : ⊥ = cc in never)
any_at h n (x ∷ xs) any = elim (cases_Bool (bytes_eq n (h x))) [
  | inl same ↦ (0, ap (λ m. Some m) (sym ((bytes_eq-Decides n (h x)).0 same)))
  | inr other ↦ let later = any_at h n xs (rw other at any) in (suc later.0, later.1)
]

-- a name that stands at a place, one of the list has
any_from : {A : Type 0} (h : A → List ℕ) (n : List ℕ) (xs : List A) (place : ℕ) → slice_get (map h xs) place ≡ Some n → list_any (λ x. bytes_eq n (h x)) xs ≡ true
any_from h n [] place found = absurd (let never : ⊥ = cc in never)
any_from h n (x ∷ xs) zero found = rw ((bytes_eq-Decides n (h x)).1 (sym (same_Some (h x) n found))) refl
any_from h n (x ∷ xs) (suc place) found = elim (cases_Bool (bytes_eq n (h x))) [
  | inl same ↦ rw same refl
  | inr other ↦ rw other (any_from h n xs place found)
]

-- what is mapped to something is something
mapped_some : {X : Type 0} (name : X → List ℕ) (n : List ℕ) (o : Option X) → option_map name o ≡ Some n → (x : X) × (o ≡ Some x) × (name x ≡ n)
mapped_some name n None is = absurd (let never : ⊥ = cc in never)
mapped_some name n (Some x) is = (x, refl, same_Some (name x) n is)

-- where a test finds the name among what was read, an earlier entry has it
pub name_repeats : {X A : Type 0} (form : Data → Option X) (name : X → List ℕ) (name_read : A → List ℕ) (items : List Data) (place : ℕ) (read : List A) (entry : X)
    → NamesRead form name name_read items place read → not (list_any (λ y. bytes_eq (name entry) (name_read y)) read) ≡ false → RepeatsName form name items place entry
name_repeats form name name_read items place read entry names fails =
    let any : list_any (λ y. bytes_eq (name entry) (name_read y)) read ≡ true = grind arith in
    let found = any_at name_read (name entry) read any in
    let within : found.0 < length (map name_read read) = slice_get_within (map name_read read) found.0 (name entry) found.1 in
    let less : found.0 < place = rw (length-map read name_read, names.long) at within in
    let earlier = mapped_some name (name entry) (form_at form items found.0) (names.names found.0 less ∙ found.1) in
    (found.0, less, earlier.0, earlier.1, earlier.2)

-- where the test does not find it, no earlier entry has it
pub is_repeated : {X A : Type 0} (form : Data → Option X) (name : X → List ℕ) (name_read : A → List ℕ) (items : List Data) (place : ℕ) (read : List A) (entry : X)
    → NamesRead form name name_read items place read → not (list_any (λ y. bytes_eq (name entry) (name_read y)) read) ≡ true → RepeatsName form name items place entry → ⊥
is_repeated form name name_read items place read entry names passes repeats =
    let found : slice_get (map name_read read) repeats.0 ≡ Some (name entry) =
    sym (names.names repeats.0 repeats.1) ∙ ap (option_map name) repeats.3 ∙ ap (λ n. Some n) repeats.4 in
    let any : list_any (λ y. bytes_eq (name entry) (name_read y)) read ≡ true = any_from name_read (name entry) read repeats.0 found in
    cc
