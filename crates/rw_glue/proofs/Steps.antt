-- What one step of a loop adds, and what stands at its place.
use Rattle.std.proofs.Common.{◌≡◌, ◌∙◌, ◌⊎◌, ◌<◌, ◌+◌, ◌==◌, ℕ, Bool, true, false, not, cond, List, [], ◌∷◌, ◌++◌, All, Contains, Some, None, filter, get_or, length, map, option_map, position, slice_get, slice_index, take, refl, sym, ap, subst, inl, inr}
use Rattle.std.proofs.lemmas.Bool.{cases_Bool}
use Rattle.std.proofs.lemmas.List.Elements.{filter-append}
use Rattle.std.proofs.lemmas.List.{append-nil, get_or-map, length-map, take_more}
use Rattle.std.proofs.lemmas.Option.{slice_get-map, slice_get_read}
use Rattle.rw_schema.specs.declared.parts.ArrowDef.{ArrowDef}
use Rattle.rw_schema.specs.declared.parts.AttrDef.{AttrDef}
use Rattle.rw_schema.specs.declared.signature.ArrowEnds.{ArrowEnds}
use Rattle.rw_schema.specs.declared.signature.AttrEnds.{AttrEnds}
use Rattle.rw_schema.specs.Presentation.{ends_of_arrow, ends_of_attribute}
use Rattle.rw_columns.specs.Changes.{beside, differences, entry_names}
use Rattle.rw_delta.specs.Deltas.{IsListOf}
use Rattle.rw_delta.proofs.Gathered.{joined_from}
use Rattle.rw_delta.proofs.Looked.{looked_beside, looked_old}

-- what f gives of the item at a place stands there in the mapped list
pub listed : {X Y : Type 0} (f : X → Y) (xs : List X) (place : ℕ) (x : X) → place < length xs → x ≡ get_or xs place x → slice_get (map f xs) place ≡ Some (f x)
listed f xs place x within is = slice_get-map f xs place ∙ ap (option_map f) (slice_get_read xs (length xs) place x refl within is)

-- a number of the item at a place, among the numbers of all
number_listed : {X Y : Type 0} (f : X → Y) (number : Y → ℕ) (xs : List X) (place : ℕ) (x : X) → place < length xs → x ≡ get_or xs place x
    → slice_index (map number (map f xs)) place ≡ number (f x)
number_listed f number xs place x within is =
    let long : place < length (map f xs) = rw (length-map xs f) within in
    get_or-map number (map f xs) place (f x) 0 long ∙ ap number (get_or-map f xs place x (f x) within ∙ ap f (sym is))

pub source_listed : (arrows : List ArrowDef) (place : ℕ) (arrow : ArrowDef) → place < length arrows → arrow ≡ get_or arrows place arrow
    → slice_index (map (λ (ends : ArrowEnds). ends.source.0) (map ends_of_arrow arrows)) place ≡ arrow.source.0
source_listed arrows place arrow within is = number_listed ends_of_arrow (λ (ends : ArrowEnds). ends.source.0) arrows place arrow within is

pub target_listed : (arrows : List ArrowDef) (place : ℕ) (arrow : ArrowDef) → place < length arrows → arrow ≡ get_or arrows place arrow
    → slice_index (map (λ (ends : ArrowEnds). ends.target.0) (map ends_of_arrow arrows)) place ≡ arrow.target.0
target_listed arrows place arrow within is = number_listed ends_of_arrow (λ (ends : ArrowEnds). ends.target.0) arrows place arrow within is

pub holder_listed : (attributes : List AttrDef) (place : ℕ) (attribute : AttrDef) → place < length attributes → attribute ≡ get_or attributes place attribute
    → slice_index (map (λ (ends : AttrEnds). ends.object.0) (map ends_of_attribute attributes)) place ≡ attribute.object.0
holder_listed attributes place attribute within is = number_listed ends_of_attribute (λ (ends : AttrEnds). ends.object.0) attributes place attribute within is

-- what stands at the place of a name's entry is beside the name
pub beside_at : {A : Type 0} (old : A) (entries : List (ℕ × A)) (name place : ℕ) (entry : ℕ × A) → position (λ other. other == name) (entry_names entries) ≡ Some place
    → (get_or entries place entry).1 ≡ beside old entries name
beside_at old entries name place entry found = looked_beside old entries [] [] name place refl entry found

-- and the old is beside a name without an entry
pub beside_none : {A : Type 0} (old : A) (entries : List (ℕ × A)) (name : ℕ) → position (λ other. other == name) (entry_names entries) ≡ None → old ≡ beside old entries name
beside_none old entries name nowhere = looked_old old entries [] [] name refl nowhere

-- names of two lists in one order
pub removed_from : (first second names : List ℕ) → IsListOf (Contains (first ++ second)) names → IsListOf (λ x. Contains first x ⊎ Contains second x) names
removed_from first second names is = joined_from first second names is

-- what holds of all lists holds of the one at a place
pub all_mapped_list : {X Y : Type 0} (P : Y → Type 0) (f : X → Y) (xs : List X) → All P (map f xs) → (place : ℕ) (x : X) → place < length xs → x ≡ get_or xs place x → P (f x)
all_mapped_list P f xs all place x within is =
    subst P (get_or-map f xs place x (f x) within ∙ ap f (sym is)) (all place (f x) (rw (length-map xs f) within))

-- values of places of a list have what all of the list have
pub all_values : (row parts placed : List ℕ) → All (λ part. part < length placed) row → All (λ part. part < length row) parts
    → All (λ part. part < length placed) (map (slice_index row) parts)
all_values row parts placed values within k d below =
    let inside : k < length parts = rw (length-map parts (slice_index row)) at below in
    rw (get_or-map (slice_index row) parts k 0 d inside) (values (slice_index parts k) 0 (within k 0 inside))

-- differences over one name more
differences_push : {A : Type 0} (same : A → A → Bool) (old new : ℕ → A) (xs : List ℕ) (x : ℕ)
    → differences same old new (xs ++ x ∷ []) ≡ differences same old new xs ++ cond (same (old x) (new x)) [] ((x, new x) ∷ [])
differences_push same old new [] x =
    elim (cases_Bool (same (old x) (new x))) [
      | inl one ↦ rw (one) refl
      | inr other ↦ rw (other) refl
    ]
differences_push same old new (y ∷ xs) x =
    elim (cases_Bool (same (old y) (new y))) [
      | inl one ↦ rw (one) (differences_push same old new xs x)
      | inr other ↦ rw (other) (ap (λ rest. (y, new y) ∷ rest) (differences_push same old new xs x))
    ]

-- a name more, which is put behind where it has something new
pub differences_more : {A : Type 0} (same : A → A → Bool) (old new : ℕ → A) (xs : List ℕ) (place x : ℕ) (before after : List (ℕ × A))
    → place < length xs → x ≡ get_or xs place x → before ≡ differences same old new (take place xs)
    → ((same (old x) (new x) ≡ false) × (after ≡ before ++ (x, new x) ∷ [])) ⊎ ((same (old x) (new x) ≡ true) × (after ≡ before))
    → after ≡ differences same old new (take (place + 1) xs)
differences_more same old new xs place x before after within is so_far cases =
    let more : take (place + 1) xs ≡ take place xs ++ x ∷ [] = rw (take_more xs place x within, ← is) refl in
    let pushed : differences same old new (take (place + 1) xs) ≡ differences same old new (take place xs) ++ cond (same (old x) (new x)) [] ((x, new x) ∷ []) =
    ap (differences same old new) more ∙ differences_push same old new (take place xs) x in
    elim cases [
      | inl (differs, put) ↦ put ∙ ap (λ list. list ++ (x, new x) ∷ []) so_far ∙ sym (pushed ∙ rw (differs) refl)
      | inr (one, kept) ↦ kept ∙ so_far ∙ sym (pushed ∙ rw (one) (append-nil (differences same old new (take place xs))))
    ]

-- a name more among those that stay, which is put behind where it stays and has something new
pub filtered_more : {A : Type 0} (same : A → A → Bool) (old new : ℕ → A) (moved : ℕ → Bool) (xs : List ℕ) (place x : ℕ) (before after : List (ℕ × A))
    → place < length xs → x ≡ get_or xs place x → before ≡ differences same old new (filter (λ y. not (moved y)) (take place xs))
    → ((moved x ≡ false) × (after ≡ before ++ cond (same (old x) (new x)) [] ((x, new x) ∷ []))) ⊎ ((moved x ≡ true) × (after ≡ before))
    → after ≡ differences same old new (filter (λ y. not (moved y)) (take (place + 1) xs))
filtered_more same old new moved xs place x before after within is so_far cases =
    let stays : ℕ → Bool = λ y. not (moved y) in
    let more : take (place + 1) xs ≡ take place xs ++ x ∷ [] = rw (take_more xs place x within, ← is) refl in
    let split : filter stays (take (place + 1) xs) ≡ filter stays (take place xs) ++ filter stays (x ∷ []) =
    ap (filter stays) more ∙ filter-append stays (take place xs) (x ∷ []) in
    elim cases [
      | inl (stay, put) ↦
          let last : filter stays (x ∷ []) ≡ x ∷ [] = rw (stay) refl in
          put ∙ ap (λ list. list ++ cond (same (old x) (new x)) [] ((x, new x) ∷ [])) so_far
          ∙ sym (differences_push same old new (filter stays (take place xs)) x)
          ∙ ap (λ list. differences same old new (filter stays (take place xs) ++ list)) (sym last) ∙ ap (differences same old new) (sym split)
      | inr (gone, kept) ↦
          let last : filter stays (x ∷ []) ≡ [] = rw (gone) refl in
          kept ∙ so_far ∙ ap (differences same old new) (sym (append-nil (filter stays (take place xs))))
          ∙ ap (λ list. differences same old new (filter stays (take place xs) ++ list)) (sym last) ∙ ap (differences same old new) (sym split)
    ]
