-- Lists without a fault.
use Rattle.std.proofs.Common.{◌≡◌, ℕ, suc, ◌+◌, ◌<◌, true, false, Option, None, List, [], ◌∷◌, ◌++◌, length, take, refl, add-zero, zero-add, arith, sym}
use Rattle.std.specs.List.{list_all, list_any}
use Rattle.std.specs.Str.{bytes_eq}
use Rattle.std.proofs.lemmas.List.{take-append-le, take_at}
use Rattle.std.proofs.lemmas.List.Folds.{list_all-append}
use Rattle.std.proofs.lemmas.Option.{slice_get_within}
use Rattle.rw_schema.specs.First.{first_in}
use Rattle.rw_schema.specs.SchemaFaults.{is_name, first_twice}
use Rattle.rw_schema.specs.declared.section.Section.{Section}
use Rattle.rw_schema.proofs.Firsts.{or_else_none, first_none, none_from}
use Rattle.rw_schema.proofs.Schemas.{twice_at}

-- the first fault of two lists, one behind the other
first_append : {X A : Type 0} (f : ℕ → X → Option A) (i : ℕ) (xs ys : List X)
    → first_in f i xs ≡ None → first_in f (i + length xs) ys ≡ None → first_in f i (xs ++ ys) ≡ None
first_append f i [] ys before later = rw add-zero at later
first_append f i (x ∷ xs) ys before later =
    let parts = or_else_none (f i x) (first_in f (i + 1) xs) before in
    let same : i + suc (length xs) ≡ (i + 1) + length xs = omega arith in
    rw parts.0 (first_append f (i + 1) xs ys parts.1 (rw same at later))

-- an item whose name has the length of one, and no earlier item has it
pub record IsNew {X : Type 0} (name : X → List ℕ) (before : List X) (item : X) : Type 0 where
  pub named : is_name (name item) ≡ true
  pub apart : list_any (λ other. bytes_eq (name item) (name other)) before ≡ false

-- items whose names have the length of names, each once
pub record HasNames {X : Type 0} (name : X → List ℕ) (section : Section) (items : List X) : Type 0 where
  pub named : list_all (λ item. is_name (name item)) items ≡ true
  pub apart : first_twice name section items ≡ None

-- no items
pub no_names : {X : Type 0} (name : X → List ℕ) (section : Section) → HasNames name section []
no_names name section = record { named = refl; apart = refl }

-- the names of the others are apart behind one item more
before_apart : {X : Type 0} (name : X → List ℕ) (section : Section) (before : List X) (item : X)
    → first_twice name section before ≡ None → first_in (twice_at name section (before ++ item ∷ [])) 0 before ≡ None
before_apart name section before item apart =
    none_from (twice_at name section (before ++ item ∷ [])) 0 before
    (λ k x there. let within : k < length before = slice_get_within before k x there in
    let same : take (0 + k) (before ++ item ∷ []) ≡ take (0 + k) before = take-append-le (0 + k) before (item ∷ []) (omega arith) in
    rw same (first_none (twice_at name section before) 0 before apart k x there))

-- one item more
pub one_name_more : {X : Type 0} (name : X → List ℕ) (section : Section) (before : List X) (item : X)
    → HasNames name section before → IsNew name before item → HasNames name section (before ++ item ∷ [])
one_name_more name section before item names new = record {
  named = rw (list_all-append (λ other. is_name (name other)) before (item ∷ []), names.named, new.named) refl;
  apart = first_append (twice_at name section (before ++ item ∷ [])) 0 before (item ∷ []) (before_apart name section before item names.apart)
      (let same : take (0 + length before) (before ++ item ∷ []) ≡ before = take_at before (item ∷ []) (0 + length before) (sym (zero-add (length before))) in
      rw (same, new.apart) refl);
}
