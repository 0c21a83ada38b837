-- Names that are not there, and names that are.
use Rattle.std.proofs.Common.{◌+◌, option_map, ◌≡◌, ◌∙◌, ◌<◌, ◌≤◌, ℕ, Bool, true, false, Option, Some, None, Result, Ok, Err, List, [], ◌∷◌, length, map, get_or, position, slice_get, refl, sym, ap, subst, arith}
use Rattle.std.specs.List.{position_or_len}
use Rattle.std.specs.Str.{bytes_eq}
use Rattle.std.proofs.lemmas.Grind.{common_steps}
use Rattle.std.proofs.lemmas.List.{map-id}
use Rattle.std.proofs.lemmas.List.Quantifiers.{position-Some}
use Rattle.std.proofs.lemmas.List.Sums.{fails_before_first}
use Rattle.std.proofs.lemmas.Option.{slice_get_within, slice_get-get_or, get_or_from_slice_get, slice_get-map, same_Some}
use Rattle.std.proofs.lemmas.Slice.Eq.{bytes_eq-Decides}
use Rattle.rw_schema.specs.declared.ids.ArrowId.{ArrowId}
use Rattle.rw_schema.specs.declared.ids.ObjectId.{ObjectId}
use Rattle.rw_schema.specs.declared.parts.ArrowDef.{ArrowDef}
use Rattle.rw_schema.specs.SchemaFaults.{object_name, arrow_name}
use Rattle.rw_schema.proofs.Lists.{slice_get_mapped}
use Rattle.rw_doc.specs.declared.fault.DocFault.{DocFault}
use Rattle.rw_doc.specs.Chain.{and_then, each_in, some_or}
use Rattle.rw_doc.specs.Entries.{IsNoneOf, Tells}
use Rattle.rw_doc.specs.SchemaEntries.{HasNoneOf, IsPathOf}
use Rattle.rw_doc.specs.Schemas.{object_named, arrow_named, path_named}
use Rattle.rw_doc.proofs.Chains.{chain, there}
use Rattle.rw_doc.proofs.FirstEntries.{AtFirst, each_tells}

-- where no place is found, each item fails the test
unfound : {A : Type 0} (test : A → Bool) (xs : List A) (place : ℕ) (x : A) → position test xs ≡ None → slice_get xs place ≡ Some x → test x ≡ false
unfound test xs place x none found =
    let past : length xs ≤ position_or_len test xs = grind (arith, common_steps) in
    let within : place < length xs = slice_get_within xs place x found in
    subst (λ y. test y ≡ false) (get_or_from_slice_get xs place x x found) (fails_before_first test xs place x (omega arith))

-- the item at the place that is found passes it
found_at : {A : Type 0} (test : A → Bool) (xs : List A) (place : ℕ) → position test xs ≡ Some place → (x : A) × (slice_get xs place ≡ Some x) × (test x ≡ true)
found_at test [] place is = absurd (let never : ⊥ = cc in never)
found_at test (y ∷ xs) place is =
    let found = position-Some test (y ∷ xs) place y is in
    (get_or (y ∷ xs) place y, slice_get-get_or (y ∷ xs) place y found.0, found.1)

-- where no place of the name is found, no item has it
no_place : {A : Type 0} (h : A → List ℕ) (name : List ℕ) (xs : List A) → position (λ x. bytes_eq name (h x)) xs ≡ None → IsNoneOf (map h xs) name
no_place h name xs none place found =
    let item = slice_get_mapped h xs place name found in
    let fails = unfound (λ x. bytes_eq name (h x)) xs place item.0 none item.1 in
    let passes : bytes_eq name (h item.0) ≡ true = (bytes_eq-Decides name (h item.0)).1 (sym item.2) in
    cc

-- where a place is found, an item has it
a_place : {A : Type 0} (h : A → List ℕ) (name : List ℕ) (xs : List A) (place : ℕ) → position (λ x. bytes_eq name (h x)) xs ≡ Some place → IsNoneOf (map h xs) name → ⊥
a_place h name xs place is none =
    let item = found_at (λ x. bytes_eq name (h x)) xs place is in
    let same : name ≡ h item.0 = (bytes_eq-Decides name (h item.0)).0 item.2 in
    none place (slice_get-map h xs place ∙ ap (option_map h) item.1 ∙ ap (λ n. Some n) (sym same))

-- what a reading tells of its fault
pub told : {A : Type 0} (Clear : Type 0) (IsFirst : DocFault → Type 0) (reading : Result A DocFault) (fault : DocFault) → Tells Clear IsFirst reading → reading ≡ Err fault → IsFirst fault
told Clear IsFirst reading fault tells is = rw is at tells

-- what it tells where it has none
pub told_clear : {A : Type 0} (Clear : Type 0) (IsFirst : DocFault → Type 0) (reading : Result A DocFault) (x : A) → Tells Clear IsFirst reading → reading ≡ Ok x → Clear
told_clear Clear IsFirst reading x tells is = rw is at tells

-- what has to be there is told by its absence
some_tells : {A B : Type 0} (fault : DocFault) (IsNone : Type 0) (value : Option A) (h : A → B) → (value ≡ None → IsNone) → ((x : A) → value ≡ Some x → IsNone → ⊥)
    → Tells (IsNone → ⊥) (λ given. (given ≡ fault) × IsNone) (and_then (some_or fault value) (λ x. Ok (h x)))
some_tells fault IsNone (Some x) h none some = some x refl
some_tells fault IsNone None h none some = (refl, none refl)

-- the object of a name
object_named_tells : (fault : DocFault) (objects : List (List ℕ)) (name : List ℕ)
    → Tells (IsNoneOf objects name → ⊥) (λ given. (given ≡ fault) × IsNoneOf objects name) (object_named fault objects name)
object_named_tells fault objects name =
    some_tells fault (IsNoneOf objects name) (position (bytes_eq name) objects) (λ number. record { 0 = number })
    (λ none. subst (λ names. IsNoneOf names name) (map-id objects) (no_place object_name name objects none))
    (λ place is none. a_place object_name name objects place is (subst (λ names. IsNoneOf names name) (sym (map-id objects)) none))

-- an object that is not found
pub object_unknown : (fault : DocFault) (objects : List (List ℕ)) (name : List ℕ) (given : DocFault) → object_named fault objects name ≡ Err given → (given ≡ fault) × IsNoneOf objects name
object_unknown fault objects name given =
    told (IsNoneOf objects name → ⊥) (λ given. (given ≡ fault) × IsNoneOf objects name) (object_named fault objects name) given (object_named_tells fault objects name)

-- an object that is found
pub object_there : (fault : DocFault) (objects : List (List ℕ)) (name : List ℕ) (object : ObjectId) → object_named fault objects name ≡ Ok object → IsNoneOf objects name → ⊥
object_there fault objects name object =
    told_clear (IsNoneOf objects name → ⊥) (λ given. (given ≡ fault) × IsNoneOf objects name) (object_named fault objects name) object (object_named_tells fault objects name)

-- the arrow of a name
arrow_named_tells : (fault : DocFault) (arrows : List ArrowDef) (name : List ℕ)
    → Tells (IsNoneOf (map arrow_name arrows) name → ⊥) (λ given. (given ≡ fault) × IsNoneOf (map arrow_name arrows) name) (arrow_named fault arrows name)
arrow_named_tells fault arrows name =
    some_tells fault (IsNoneOf (map arrow_name arrows) name) (position (λ (arrow : ArrowDef). bytes_eq name arrow.name) arrows) (λ number. record { 0 = number })
    (no_place arrow_name name arrows) (a_place arrow_name name arrows)

-- the name at a place of the path is none of the arrows'
abbrev IsUnknownAt : List ArrowDef → List (List ℕ) → ℕ → Type 0
IsUnknownAt arrows names place = (name : List ℕ) × (slice_get names place ≡ Some name) × IsNoneOf (map arrow_name arrows) name

-- the arrows of a path
path_named_tells : (fault : DocFault) (arrows : List ArrowDef) (names : List (List ℕ))
    → Tells ((place : ℕ) → IsUnknownAt arrows names place → ⊥) (AtFirst (λ place. IsUnknownAt arrows names place → ⊥) (λ place given. (given ≡ fault) × IsUnknownAt arrows names place))
    (path_named fault arrows names)
path_named_tells fault arrows names =
    each_tells (λ place name. arrow_named fault arrows name) (λ place. IsUnknownAt arrows names place → ⊥) (λ place given. (given ≡ fault) × IsUnknownAt arrows names place) 0 names
    (λ place name found. name_tells place name found (arrow_named fault arrows name) (arrow_named_tells fault arrows name))
    (λ place none unknown. let never : ⊥ = absent (slice_get names place) unknown.0 none unknown.1 in never)
  where
    absent : (value : Option (List ℕ)) (name : List ℕ) → value ≡ None → value ≡ Some name → ⊥
    absent value name none is = cc

    name_tells : (place : ℕ) (name : List ℕ) → slice_get names place ≡ Some name → (reading : Result ArrowId DocFault)
        → Tells (IsNoneOf (map arrow_name arrows) name → ⊥) (λ given. (given ≡ fault) × IsNoneOf (map arrow_name arrows) name) reading
        → Tells (IsUnknownAt arrows names place → ⊥) (λ given. (given ≡ fault) × IsUnknownAt arrows names place) reading
    name_tells place name found (Ok arrow) known = λ unknown.
        known (subst (λ other. IsNoneOf (map arrow_name arrows) other) (same_Some unknown.0 name (sym unknown.1 ∙ found)) unknown.2)
    name_tells place name found (Err given) known = (known.0, (name, found, known.1))

-- a path with an arrow that is not found
pub path_unknown : (fault : DocFault) (arrows : List ArrowDef) (names : List (List ℕ)) (given : DocFault) → path_named fault arrows names ≡ Err given
    → (given ≡ fault) × HasNoneOf (map arrow_name arrows) names
path_unknown fault arrows names given is =
    let first = told ((place : ℕ) → IsUnknownAt arrows names place → ⊥) (AtFirst (λ place. IsUnknownAt arrows names place → ⊥) (λ place given. (given ≡ fault) × IsUnknownAt arrows names place))
    (path_named fault arrows names) given (path_named_tells fault arrows names) is in
    (first.1.0, (first.0, first.1.1.0, first.1.1.1, first.1.1.2))

-- a path whose arrows are found
pub path_there : (fault : DocFault) (arrows : List ArrowDef) (names : List (List ℕ)) (path : List ArrowId) → path_named fault arrows names ≡ Ok path
    → HasNoneOf (map arrow_name arrows) names → ⊥
path_there fault arrows names path is unknown =
    told_clear ((place : ℕ) → IsUnknownAt arrows names place → ⊥) (AtFirst (λ place. IsUnknownAt arrows names place → ⊥) (λ place given. (given ≡ fault) × IsUnknownAt arrows names place))
    (path_named fault arrows names) path (path_named_tells fault arrows names) is unknown.0 (unknown.1, unknown.2, unknown.3)

-- ---- numbers

-- the number of an object is the place of its name
pub object_number : (fault : DocFault) (objects : List (List ℕ)) (name : List ℕ) (object : ObjectId) → object_named fault objects name ≡ Ok object
    → position (bytes_eq name) objects ≡ Some object.0
object_number fault objects name =
    let found = position (bytes_eq name) objects in
    chain (λ (object : ObjectId). found ≡ Some object.0) (some_or fault found) (λ number. Ok (record { 0 = number }))
    (λ number is object whole. let same : record { 0 = number } ≡ object = cc in
    subst (λ (object : ObjectId). found ≡ Some object.0) same (there fault found number is))

-- the number of an arrow is the place of its name
arrow_number : (fault : DocFault) (arrows : List ArrowDef) (name : List ℕ) (arrow : ArrowId) → arrow_named fault arrows name ≡ Ok arrow
    → position (λ (arrow : ArrowDef). bytes_eq name arrow.name) arrows ≡ Some arrow.0
arrow_number fault arrows name =
    let found = position (λ (arrow : ArrowDef). bytes_eq name arrow.name) arrows in
    chain (λ (arrow : ArrowId). found ≡ Some arrow.0) (some_or fault found) (λ number. Ok (record { 0 = number }))
    (λ number is arrow whole. let same : record { 0 = number } ≡ arrow = cc in
    subst (λ (arrow : ArrowId). found ≡ Some arrow.0) same (there fault found number is))

-- what is read of each item, told by numbers
each_mapped_to : {X A B E : Type 0} (f : X → Result A E) (g : X → B) (h : A → B) → ((x : X) (y : A) → f x ≡ Ok y → g x ≡ h y)
    → (i : ℕ) (xs : List X) (ys : List A) → each_in (λ place. f) i xs ≡ Ok ys → map g xs ≡ map h ys
each_mapped_to f g h same i [] ys is = let none : [] ≡ ys = cc in subst (λ list. [] ≡ map h list) none refl
each_mapped_to f g h same i (x ∷ xs) ys is =
    chain (λ list. map g (x ∷ xs) ≡ map h list) (f x) (λ y. and_then (each_in (λ place. f) (i + 1) xs) (λ rest. Ok (y ∷ rest)))
    (λ y here. chain (λ list. map g (x ∷ xs) ≡ map h list) (each_in (λ place. f) (i + 1) xs) (λ rest. Ok (y ∷ rest))
    (λ rest later list whole. let one : y ∷ rest ≡ list = cc in
    subst (λ list. map g (x ∷ xs) ≡ map h list) one (rw (same x y here, each_mapped_to f g h same (i + 1) xs rest later) refl))) ys is

-- the numbers of a path are the places of its names
pub path_numbers : (fault : DocFault) (arrows : List ArrowDef) (names : List (List ℕ)) (path : List ArrowId) → path_named fault arrows names ≡ Ok path → IsPathOf arrows names path
path_numbers fault arrows names path =
    each_mapped_to (arrow_named fault arrows) (λ name. position (λ (arrow : ArrowDef). bytes_eq name arrow.name) arrows) (λ (arrow : ArrowId). Some arrow.0)
    (arrow_number fault arrows) 0 names path

-- numbers tell a path
pub same_path : (path other : List ArrowId) → map (λ (arrow : ArrowId). Some arrow.0) path ≡ map (λ (arrow : ArrowId). Some arrow.0) other → path ≡ other
same_path [] [] same = refl
same_path [] (next ∷ other) same = let never : ⊥ = cc in absurd never
same_path (arrow ∷ path) [] same = let never : ⊥ = cc in absurd never
same_path (arrow ∷ path) (next ∷ other) same =
    let number : arrow.0 ≡ next.0 = cc in
    let rest : map (λ (arrow : ArrowId). Some arrow.0) path ≡ map (λ (arrow : ArrowId). Some arrow.0) other = cc in
    let first : arrow ≡ next = ap (λ n. record { 0 = n }) number in
    rw (first, same_path path other rest) refl
