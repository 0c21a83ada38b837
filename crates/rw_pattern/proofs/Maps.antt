-- What holds of images that are a map of patterns.
use Rattle.std.proofs.Common.{◌≡◌, ℕ, ◌+◌, ◌<◌, ◌≤◌, true, nat_le, nat_lt, Option, Some, None, List, sum, length, slice_get, slice_index, refl, sym, ap, ◌∙◌, subst, zero-add, arith, eqb-true, ltb-true}
use Rattle.std.proofs.lemmas.Bool.{and_parts, and_from, leb-true, le-leb, lt-ltb, eq-eqb}
use Rattle.std.proofs.lemmas.Option.{slice_get-get_or, slice_get_within, get_or_from_slice_get}
use Rattle.rw_schema.specs.declared.signature.ArrowEnds.{ArrowEnds}
use Rattle.rw_schema.specs.First.{or_else, first_in, fault_unless, all_in}
use Rattle.rw_schema.specs.RowLists.{list_at}
use Rattle.rw_schema.specs.Signature.{Signature, IsCategory}
use Rattle.rw_schema.proofs.Firsts.{or_else_none, passed_unless, first_none, none_from_each, unless_true}
use Rattle.rw_spec.specs.Instance.{Has}
use Rattle.rw_spec.specs.Natural.{IsNatural}
use Rattle.rw_pattern.specs.declared.map_fault.MapFault.{MapFault}
use Rattle.rw_pattern.specs.declared.map_fault.MapFault.TheVariants.{Shape, Range, NotNatural}
use Rattle.rw_pattern.specs.MapFaults.{IsMapOf, image_of, has_images, has_map_shape, image_fault, commutes_at, square_fault, map_fault}
use Rattle.rw_pattern.specs.PatternLists.{PatternLists, size_of, instance_of_pattern}
use Rattle.rw_pattern.proofs.PartNames.{part_below, has_part}
use Rattle.rw_pattern.proofs.Places.{parts_within}
use Rattle.rw_spec.proofs.Sequences.{all_in_at, all_in_from_each}
use Rattle.rw_pattern.proofs.Shapes.{IsPattern, row_long}

-- there are at least as many lists as objects
pub lists_long : (from : PatternLists) (images : List (List ℕ)) → has_map_shape from images ≡ true → length from.sizes ≤ length images
lists_long from images shaped =
    leb-true (length from.sizes) (length images) (and_parts (nat_le (length from.sizes) (length images)) (all_in (has_images images) 0 from.sizes) shaped).0

-- an object has one image for each part
pub images_long : (from : PatternLists) (images : List (List ℕ)) (object : ℕ) → has_map_shape from images ≡ true → object < length from.sizes
    → length (list_at images object) ≡ size_of from object
images_long from images object shaped within =
    let all : all_in (has_images images) 0 from.sizes ≡ true = (and_parts (nat_le (length from.sizes) (length images)) (all_in (has_images images) 0 from.sizes) shaped).1 in
    let here : has_images images (0 + object) (size_of from object) ≡ true =
    all_in_at (has_images images) 0 from.sizes object (size_of from object) all (slice_get-get_or from.sizes object 0 within) in
    eqb-true (length (list_at images object)) (size_of from object) (rw zero-add at here)

-- an object has no more images than there are parts
pub images_few : (from : PatternLists) (images : List (List ℕ)) (object : ℕ) → has_map_shape from images ≡ true → object < length from.sizes
    → length (list_at images object) ≤ sum from.sizes
images_few from images object shaped within = omega (arith, images_long from images object shaped within, parts_within from.sizes object within)

-- a row is no longer than there are parts
pub row_few : (C : Signature) (from : PatternLists) (arrow : ℕ) (ends : ArrowEnds) → IsCategory C → IsPattern C from → slice_get C.arrows arrow ≡ Some ends
    → length (list_at from.rows arrow) ≤ 64
row_few C from arrow ends category is there =
    let known : ends.source.0 < length from.sizes = rw is.sizes_long (category.sources arrow ends there) in
    omega (arith, row_long C from arrow ends is there, parts_within from.sizes ends.source.0 known, is.few)

-- what the absence of a fault says of the images
pub record IsMap (C : Signature) (from to : PatternLists) (images : List (List ℕ)) : Type 0 where
  pub shape : has_map_shape from images ≡ true
  pub range : (object part image : ℕ) → object < length from.sizes → slice_get (list_at images object) part ≡ Some image → image < size_of to object
  pub squares : (arrow : ℕ) (ends : ArrowEnds) (part value : ℕ) → slice_get C.arrows arrow ≡ Some ends → slice_get (list_at from.rows arrow) part ≡ Some value
      → commutes_at to images arrow ends part value ≡ true

-- an image in a list without a fault is a part of the other pattern
image_there : (to : PatternLists) (images : List (List ℕ)) (object size part image : ℕ) → image_fault to images object size ≡ None
    → slice_get (list_at images object) part ≡ Some image → image < size_of to object
image_there to images object size part image none there =
    let fault : ℕ → ℕ → Option MapFault = λ part image. fault_unless (nat_lt image (size_of to object)) (Range (record { 0 = object }) part) in
    let here : fault (0 + part) image ≡ None = first_none fault 0 (list_at images object) none part image there in
    ltb-true image (size_of to object) (passed_unless (nat_lt image (size_of to object)) (Range (record { 0 = object }) (0 + part)) here)

-- an arrow without a fault commutes at each part
square_closed : (from to : PatternLists) (images : List (List ℕ)) (arrow : ℕ) (ends : ArrowEnds) (part value : ℕ) → square_fault from to images arrow ends ≡ None
    → slice_get (list_at from.rows arrow) part ≡ Some value → commutes_at to images arrow ends part value ≡ true
square_closed from to images arrow ends part value none there =
    let fault : ℕ → ℕ → Option MapFault = λ part value. fault_unless (commutes_at to images arrow ends part value) (NotNatural (record { 0 = arrow }) part) in
    let here : fault (0 + part) value ≡ None = first_none fault 0 (list_at from.rows arrow) none part value there in
    rw zero-add at (passed_unless (commutes_at to images arrow ends (0 + part) value) (NotNatural (record { 0 = arrow }) (0 + part)) here)

-- the fault of a list of images, by the list and the size in memory
pub image_fault_is : (to : PatternLists) (images : List (List ℕ)) (object size : ℕ) (listed : List ℕ) (bound : ℕ) (answer : Option MapFault)
    → listed ≡ list_at images object → bound ≡ size_of to object
    → answer ≡ first_in (λ part image. fault_unless (nat_lt image bound) (Range (record { 0 = object }) part)) 0 listed → image_fault to images object size ≡ answer
image_fault_is to images object size listed bound answer list_is bound_is is = rw (← list_is, ← bound_is) (sym is)

-- images without a fault are a map
pub is_map : (C : Signature) (from to : PatternLists) (images : List (List ℕ)) → map_fault C from to images ≡ None → IsMap C from to images
is_map C from to images none =
    let shapes : Option MapFault = fault_unless (has_map_shape from images) Shape in
    let ranges : Option MapFault = first_in (image_fault to images) 0 from.sizes in
    let opens : Option MapFault = first_in (square_fault from to images) 0 C.arrows in
    let first = or_else_none shapes (or_else ranges opens) none in
    let second = or_else_none ranges opens first.1 in
    record {
      shape = passed_unless (has_map_shape from images) Shape first.0;
      range = λ object part image within there.
          let size = size_of from object in
          let here : image_fault to images (0 + object) size ≡ None =
          first_none (image_fault to images) 0 from.sizes second.0 object size (slice_get-get_or from.sizes object 0 within) in
          image_there to images object size part image (rw zero-add at here) there;
      squares = λ arrow ends part value arrow_is there.
          let here : square_fault from to images (0 + arrow) ends ≡ None = first_none (square_fault from to images) 0 C.arrows second.1 arrow ends arrow_is in
          square_closed from to images arrow ends part value (rw zero-add at here) there;
    }

-- no condition fails, and there is no fault
pub no_map_fault : (C : Signature) (from to : PatternLists) (images : List (List ℕ)) → has_map_shape from images ≡ true
    → first_in (image_fault to images) 0 from.sizes ≡ None → first_in (square_fault from to images) 0 C.arrows ≡ None → map_fault C from to images ≡ None
no_map_fault C from to images shaped ranged closed = rw (shaped, ranged, closed) refl

-- a map of patterns is a natural map between the instances that they are
pub natural_from_map : (C : Signature) (from to : PatternLists) (images : List (List ℕ)) → IsPattern C from → map_fault C from to images ≡ None
    → IsNatural C (instance_of_pattern from) (instance_of_pattern to) (image_of images)
natural_from_map C from to images is none =
    let map_is : IsMap C from to images = is_map C from to images none in
    record {
      parts = λ object part below has.
          let known : object < length from.sizes = rw is.sizes_long below in
          let short : part < length (list_at images object) = rw (images_long from images object map_is.shape known) (part_below from object part has) in
          let image : ℕ = image_of images object part in
          has_part to object image (map_is.range object part image known (slice_get-get_or (list_at images object) part 0 short));
      commutes = λ arrow ends part arrow_is has.
          let row = list_at from.rows arrow in
          let short : part < length row = rw (row_long C from arrow ends is arrow_is) (part_below from ends.source.0 part has) in
          let value : ℕ = slice_index row part in
          eqb-true (image_of images ends.target.0 value) (slice_index (list_at to.rows arrow) (image_of images ends.source.0 part))
          (map_is.squares arrow ends part value arrow_is (slice_get-get_or row part 0 short));
    }

-- images without a fault are a map of patterns
pub map_from_none : (C : Signature) (from to : PatternLists) (images : List (List ℕ)) → IsPattern C from → map_fault C from to images ≡ None → IsMapOf C from to images
map_from_none C from to images is none =
    let map_is : IsMap C from to images = is_map C from to images none in
    record {
      lists = lists_long from images map_is.shape;
      each = λ object within. images_long from images object map_is.shape within;
      natural = natural_from_map C from to images is none;
    }

-- the images of a map of patterns have the right shape
pub shape_of_map : (C : Signature) (from to : PatternLists) (images : List (List ℕ)) → IsMapOf C from to images → has_map_shape from images ≡ true
shape_of_map C from to images is =
    and_from (nat_le (length from.sizes) (length images)) (all_in (has_images images) 0 from.sizes) (le-leb (length from.sizes) (length images) is.lists)
    (all_in_from_each (has_images images) 0 from.sizes (λ object size there.
    let within : object < length from.sizes = slice_get_within from.sizes object size there in
    let size_is : size_of from object ≡ size = get_or_from_slice_get from.sizes object size 0 there in
    rw (zero-add object) (eq-eqb (length (list_at images object)) size (is.each object within ∙ size_is))))

-- no image of a map of patterns is out of range
pub range_of_map : (C : Signature) (from to : PatternLists) (images : List (List ℕ)) → IsPattern C from → IsMapOf C from to images
    → first_in (image_fault to images) 0 from.sizes ≡ None
range_of_map C from to images pattern is =
    none_from_each (image_fault to images) from.sizes (λ object size there.
    let within : object < length from.sizes = slice_get_within from.sizes object size there in
    let fault : ℕ → ℕ → Option MapFault = λ part image. fault_unless (nat_lt image (size_of to object)) (Range (record { 0 = object }) part) in
    none_from_each fault (list_at images object) (λ part image listed.
    let short : part < length (list_at images object) = slice_get_within (list_at images object) part image listed in
    let has : Has (instance_of_pattern from) object part = has_part from object part (rw (← is.each object within) short) in
    let image_is : image_of images object part ≡ image = get_or_from_slice_get (list_at images object) part image 0 listed in
    let below : image < size_of to object =
    subst (λ (n : ℕ). n < size_of to object) image_is (part_below to object (image_of images object part) (is.natural.parts object part (rw (← pattern.sizes_long) within) has)) in
    unless_true (nat_lt image (size_of to object)) (Range (record { 0 = object }) part) (lt-ltb image (size_of to object) below)))

-- a map of patterns commutes with each arrow
pub squares_of_map : (C : Signature) (from to : PatternLists) (images : List (List ℕ)) → IsPattern C from → IsMapOf C from to images
    → first_in (square_fault from to images) 0 C.arrows ≡ None
squares_of_map C from to images pattern is =
    none_from_each (square_fault from to images) C.arrows (λ arrow ends there.
    let row : List ℕ = list_at from.rows arrow in
    let fault : ℕ → ℕ → Option MapFault = λ part value. fault_unless (commutes_at to images arrow ends part value) (NotNatural (record { 0 = arrow }) part) in
    none_from_each fault row (λ part value listed.
    let short : part < length row = slice_get_within row part value listed in
    let has : Has (instance_of_pattern from) ends.source.0 part = has_part from ends.source.0 part (rw (← row_long C from arrow ends pattern there) short) in
    let value_is : slice_index row part ≡ value = get_or_from_slice_get row part value 0 listed in
    let image : ℕ = slice_index (list_at to.rows arrow) (image_of images ends.source.0 part) in
    let same : image_of images ends.target.0 value ≡ image = ap (image_of images ends.target.0) (sym value_is) ∙ is.natural.commutes arrow ends part there has in
    unless_true (commutes_at to images arrow ends part value) (NotNatural (record { 0 = arrow }) part) (eq-eqb (image_of images ends.target.0 value) image same)))

-- a map of patterns has no fault
pub none_from_map : (C : Signature) (from to : PatternLists) (images : List (List ℕ)) → IsPattern C from → IsMapOf C from to images → map_fault C from to images ≡ None
none_from_map C from to images pattern is =
    no_map_fault C from to images (shape_of_map C from to images is) (range_of_map C from to images pattern is) (squares_of_map C from to images pattern is)
