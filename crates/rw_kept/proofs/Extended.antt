-- An extension by carried entries is one in direct words.
use Rattle.std.proofs.Common.{◌≡◌, ℕ, zero, suc, ◌+◌, ◌<◌, Some, List, [], ◌∷◌, ◌++◌, Contains, sum, map, length, length-append, get_or, take, slice_get, slice_index, refl, sym, ap, ◌∙◌, subst, inl, inr, add-zero, zero-add, add_assoc, arith}
use Rattle.std.specs.Prelude.{◌↔◌}
use Rattle.std.proofs.lemmas.List.{length-map, get_or-map, ext_get_or, get_or_append_left, get_or-append-add}
use Rattle.std.proofs.lemmas.List.Elements.{Contains-append_left, Contains-append_right, Contains-append_cases}
use Rattle.std.proofs.lemmas.Option.{slice_get-get_or}
use Rattle.std.proofs.lemmas.Slice.Eq.{bytes_eq-Decides}
use Rattle.rw_schema.specs.declared.atom.Atom.{Atom}
use Rattle.rw_schema.specs.declared.atom.Kind as kinds
use Rattle.rw_schema.specs.declared.ids.ObjectId.{ObjectId}
use Rattle.rw_schema.specs.First.{flat_map_in}
use Rattle.rw_schema.specs.RowLists.{list_at}
use Rattle.rw_schema.specs.Signature.{Signature}
use Rattle.rw_spec.specs.Instance.{Instance}
use Rattle.rw_spec.specs.Natural.{Map}
use Rattle.rw_spec.proofs.Sequences.{contains_at, contains_filter, contained_in_filter, contains_map, contained_in_map}
use Rattle.rw_pattern.specs.declared.cell.PatternCell.{PatternCell}
use Rattle.rw_pattern.specs.Entries.{carried}
use Rattle.rw_pattern.specs.MapFaults.{image_of}
use Rattle.rw_pattern.specs.Matches.{atom_wanted, MeetsCells, IsMatch}
use Rattle.rw_pattern.specs.PatternFaults.{IsPatternOver}
use Rattle.rw_pattern.specs.PatternLists.{PatternLists, size_of, place_of, holder, map_of_tuple}
use Rattle.rw_pattern.proofs.Maps.{IsMap, is_map, images_long}
use Rattle.rw_pattern.proofs.Naturality.{matches_natural}
use Rattle.rw_pattern.proofs.Over.{object_within, cell_part, size_count}
use Rattle.rw_pattern.proofs.Places.{PartAt, part_at_place, place_within, sum_first}
use Rattle.rw_pattern.proofs.WithEntries.{with_entries_over}
use Rattle.rw_rule.specs.RuleLists.{ConditionLists}
use Rattle.rw_kept.specs.Conditions.{IsExtension, joined, image_places, restricted, extends_tuple, all_extensions, extensions, places_of, IsConditionOf}

-- ---- lists joined by place, one list of the right length for each size

module _ {A : Type 0} (f : ℕ → ℕ → List A) where
  -- the lists have these lengths
  record AreSized (first : ℕ) (sizes : List ℕ) : Type 0 where
    each : (object : ℕ) → object < length sizes → length (f (first + object) (get_or sizes object 0)) ≡ get_or sizes object 0

  first_sized : (first size : ℕ) (sizes : List ℕ) → AreSized first (size ∷ sizes) → length (f first size) ≡ size
  first_sized first size sizes sized = rw add-zero at (sized.each zero (omega arith))

  rest_sized : (first size : ℕ) (sizes : List ℕ) → AreSized first (size ∷ sizes) → AreSized (first + 1) sizes
  rest_sized first size sizes sized = record {
    each = λ object within.
        let same : (first + 1) + object ≡ first + suc object = omega arith in
        rw same (sized.each (suc object) (omega arith));
  }

  joined_long : (first : ℕ) (sizes : List ℕ) → AreSized first sizes → length (flat_map_in f first sizes) ≡ sum sizes
  joined_long first [] sized = refl
  joined_long first (size ∷ sizes) sized =
      length-append (f first size) (flat_map_in f (first + 1) sizes)
      ∙ rw (first_sized first size sizes sized, joined_long (first + 1) sizes (rest_sized first size sizes sized), sum_first size sizes) refl

  joined_at : (first : ℕ) (sizes : List ℕ) (object part : ℕ) (d : A) → AreSized first sizes → object < length sizes → part < get_or sizes object 0
      → get_or (flat_map_in f first sizes) (sum (take object sizes) + part) d ≡ get_or (f (first + object) (get_or sizes object 0)) part d
  joined_at first [] object part d sized within there = let no : ⊥ = omega arith in absurd no
  joined_at first (size ∷ sizes) zero part d sized within there =
      let short : part < length (f first size) = rw (first_sized first size sizes sized) there in
      rw (zero-add part, add-zero) (get_or_append_left (f first size) (flat_map_in f (first + 1) sizes) d part short)
  joined_at first (size ∷ sizes) (suc object) part d sized within there =
      let place : ℕ = sum (take object sizes) + part in
      let later : sum (size ∷ take object sizes) + part ≡ length (f first size) + place =
      rw (sum_first size (take object sizes), first_sized first size sizes sized) (add_assoc size (sum (take object sizes)) part) in
      let same : (first + 1) + object ≡ first + suc object = omega arith in
      rw (later, ← same)
      (get_or-append-add (f first size) (flat_map_in f (first + 1) sizes) place d
      ∙ joined_at (first + 1) sizes object part d (rest_sized first size sizes sized) (omega arith) there)

-- ---- what a tuple gives to the parts of the left side

sized : (C : Signature) (left : PatternLists) (condition : ConditionLists) → IsMap C left condition.pattern condition.images → AreSized (places_of condition) 0 left.sizes
sized C left condition is = record {
  each = λ object within.
      rw (zero-add object)
      (length-map (list_at condition.images object) (place_of condition.pattern object) ∙ images_long left condition.images object is.shape within);
}

-- the place of the image of a part
image_place : (C : Signature) (left : PatternLists) (condition : ConditionLists) (object part : ℕ) → IsMap C left condition.pattern condition.images
    → object < length left.sizes → part < size_of left object
    → get_or (image_places left condition) (place_of left object part) 0 ≡ place_of condition.pattern object (image_of condition.images object part)
image_place C left condition object part is known there =
    let images : List ℕ = list_at condition.images object in
    let short : part < length images = rw (images_long left condition.images object is.shape known) there in
    joined_at (places_of condition) 0 left.sizes object part 0 (sized C left condition is) known there
    ∙ rw (zero-add object) (get_or-map (place_of condition.pattern object) images part 0 0 short)

-- what a tuple gives to a part of the left side is what it gives to the image
pub restricted_at : (C : Signature) (left : PatternLists) (condition : ConditionLists) (q : List ℕ) (object part : ℕ) → IsMap C left condition.pattern condition.images
    → object < length left.sizes → part < size_of left object
    → map_of_tuple left (restricted left condition q) object part ≡ map_of_tuple condition.pattern q object (image_of condition.images object part)
restricted_at C left condition q object part is known there =
    let places : List ℕ = image_places left condition in
    let within : place_of left object part < length places = rw (joined_long (places_of condition) 0 left.sizes (sized C left condition is)) (place_within left object part known there) in
    get_or-map (slice_index q) places (place_of left object part) 0 0 within
    ∙ ap (slice_index q) (image_place C left condition object part is known there)

-- as many names as parts of the left side
pub restricted_long : (C : Signature) (left : PatternLists) (condition : ConditionLists) (q : List ℕ) → IsMap C left condition.pattern condition.images
    → length (restricted left condition q) ≡ sum left.sizes
restricted_long C left condition q is =
    length-map (image_places left condition) (slice_index q) ∙ joined_long (places_of condition) 0 left.sizes (sized C left condition is)

-- the tuple extends the match exactly where it gives to each image what the match gives to the part
pub extends_each : (C : Signature) (left : PatternLists) (condition : ConditionLists) (m q : List ℕ) → IsMap C left condition.pattern condition.images → length m ≡ sum left.sizes
    → (restricted left condition q ≡ m)
    ↔ ((object part : ℕ) → object < length left.sizes → part < size_of left object
    → map_of_tuple condition.pattern q object (image_of condition.images object part) ≡ map_of_tuple left m object part)
extends_each C left condition m q is long = (
  λ same object part known there.
      sym (restricted_at C left condition q object part is known there) ∙ ap (λ (t : List ℕ). map_of_tuple left t object part) same,
  λ each.
      ext_get_or 0 (restricted left condition q) m (restricted_long C left condition q is ∙ sym long) (λ place within.
      let below : place < sum left.sizes = rw (restricted_long C left condition q is) at within in
      let at : PartAt left place = part_at_place left place below in
      subst (λ (place : ℕ). get_or (restricted left condition q) place 0 ≡ get_or m place 0) at.is
      (restricted_at C left condition q at.object at.part is at.known at.there ∙ each at.object at.part at.known at.there)),
)

-- ---- cells

-- the entries, said of members
pub record MeetsEach (pattern : PatternLists) (cells : List PatternCell) (X : Instance) (f : Map) (values : ℕ → Atom) : Type 0 where
  pub each : (entry : PatternCell) → Contains cells entry → X.cell entry.attr.0 (f (holder pattern entry.attr.0) entry.part) ≡ Some (atom_wanted values entry.want)

each_from_cells : (pattern : PatternLists) (X : Instance) (f : Map) (values : ℕ → Atom) → MeetsCells pattern X f values → MeetsEach pattern pattern.cells X f values
each_from_cells pattern X f values meets = record {
  each = λ entry among.
      meets among.0 entry (slice_get-get_or pattern.cells among.0 entry among.1 ∙ ap (λ (entry : PatternCell). Some entry) among.2);
}

cells_from_each : (pattern : PatternLists) (X : Instance) (f : Map) (values : ℕ → Atom) → MeetsEach pattern pattern.cells X f values → MeetsCells pattern X f values
cells_from_each pattern X f values meets k entry there = meets.each entry (contains_at pattern.cells k entry there)

-- an entry of the left side and the carried one fall on one cell
carried_same : (left : PatternLists) (condition : ConditionLists) (X : Instance) (m q : Map) (values : ℕ → Atom) (entry : PatternCell) → condition.pattern.holders ≡ left.holders
    → q (holder left entry.attr.0) (image_of condition.images (holder left entry.attr.0) entry.part) ≡ m (holder left entry.attr.0) entry.part
    → X.cell entry.attr.0 (q (holder condition.pattern entry.attr.0) (image_of condition.images (holder left entry.attr.0) entry.part))
    ≡ X.cell entry.attr.0 (m (holder left entry.attr.0) entry.part)
carried_same left condition X m q values entry holders after =
    let same : holder condition.pattern entry.attr.0 ≡ holder left entry.attr.0 =
    ap (λ (holders : List ObjectId). slice_index (map (λ (object : ObjectId). object.0) holders) entry.attr.0) holders in
    ap (λ object. X.cell entry.attr.0 (q object (image_of condition.images (holder left entry.attr.0) entry.part))) same
    ∙ ap (X.cell entry.attr.0) after

-- ---- both are one

-- the part of an entry of the left side, and its object
entry_known : (C : Signature) (kinds : List kinds.Kind) (left : PatternLists) (condition : ConditionLists) (entry : PatternCell) → IsConditionOf C kinds left condition → Contains left.cells entry
    → (holder left entry.attr.0 < length left.sizes) × (entry.part < size_of left (holder left entry.attr.0))
entry_known C kinds left condition entry is among =
    let at_place : slice_get left.cells among.0 ≡ Some entry = slice_get-get_or left.cells among.0 entry among.1 ∙ ap (λ (entry : PatternCell). Some entry) among.2 in
    let there : entry.part < size_of left (holder left entry.attr.0) = cell_part C kinds left among.0 entry is.left_over at_place in
    (object_within left (holder left entry.attr.0) entry.part there, there)

-- the extensions by carried entries are exactly those in direct words
pub extension_is : (C : Signature) (kinds : List kinds.Kind) (left : PatternLists) (condition : ConditionLists) (X : Instance) (m q : List ℕ) → IsConditionOf C kinds left condition
    → length m ≡ sum left.sizes → length q ≡ sum condition.pattern.sizes
    → Contains (extensions C left condition X m) q ↔ IsExtension C left condition X (map_of_tuple left m) (map_of_tuple condition.pattern q)
extension_is C kinds left condition X m q is m_long q_long =
    let pattern : PatternLists = condition.pattern in
    let f : Map = map_of_tuple pattern q in
    let g : Map = map_of_tuple left m in
    let map_is : IsMap C left pattern condition.images = is_map C left pattern condition.images is.map_is in
    let count : length left.sizes ≡ C.objects = size_count C kinds left is.left_over in
    let over : IsPatternOver C kinds (joined left condition) = with_entries_over C kinds pattern left condition.images is.over.pattern is.left_over is.map_is in
    let holders : pattern.holders ≡ left.holders = is.over.pattern.holders ∙ sym is.left_over.holders in
    let maps = matches_natural C (joined left condition) condition.monic (kinds, over) X q q_long in
    let carry : PatternCell → PatternCell = carried left condition.images in (
      λ there.
          let kept = contained_in_filter (extends_tuple left condition m) (all_extensions C left condition X) q there in
          let match : IsMatch C (joined left condition) condition.monic X f = maps.0 kept.0 in
          let after = (extends_each C left condition m q map_is m_long).0 ((bytes_eq-Decides (restricted left condition q) m).0 kept.1) in
          let each : MeetsEach (joined left condition) (pattern.cells ++ map carry left.cells) X f match.values = each_from_cells (joined left condition) X f match.values match.cells in
          let own : MeetsEach pattern pattern.cells X f match.values =
          record { each = λ entry among. each.each entry (Contains-append_left pattern.cells (map carry left.cells) entry among) } in
          let others : MeetsEach left left.cells X g match.values = record {
            each = λ entry among.
                let known = entry_known C kinds left condition entry is among in
                sym (carried_same left condition X g f match.values entry holders (after (holder left entry.attr.0) entry.part known.0 known.1))
                ∙ each.each (carry entry) (Contains-append_right pattern.cells (map carry left.cells) (carry entry) (contains_map carry left.cells entry among));
          } in
          record {
            matched = record { natural = match.natural; values = match.values; cells = cells_from_each pattern X f match.values own; injective = match.injective };
            same_values = cells_from_each left X g match.values others;
            after = λ object part known there. after object part (rw count known) there;
          },
      λ extension.
          let values : ℕ → Atom = extension.matched.values in
          let after : (object part : ℕ) → object < length left.sizes → part < size_of left object → f object (image_of condition.images object part) ≡ g object part =
          λ object part known there. extension.after object part (rw (← count) known) there in
          let own : MeetsEach pattern pattern.cells X f values = each_from_cells pattern X f values extension.matched.cells in
          let others : MeetsEach left left.cells X g values = each_from_cells left X g values extension.same_values in
          let each : MeetsEach (joined left condition) (pattern.cells ++ map carry left.cells) X f values = record {
            each = λ entry among.
                elim (Contains-append_cases pattern.cells (map carry left.cells) entry among) [
                  | inl here ↦ own.each entry here
                  | inr there ↦
                      let from = contained_in_map carry left.cells entry there in
                      let known = entry_known C kinds left condition from.0 is from.1 in
                      subst (λ (entry : PatternCell). X.cell entry.attr.0 (f (holder pattern entry.attr.0) entry.part) ≡ Some (atom_wanted values entry.want)) from.2
                      (carried_same left condition X g f values from.0 holders (after (holder left from.0.attr.0) from.0.part known.0 known.1) ∙ others.each from.0 from.1)
                ];
          } in
          let match : IsMatch C (joined left condition) condition.monic X f =
          record { natural = extension.matched.natural; values = values; cells = cells_from_each (joined left condition) X f values each; injective = extension.matched.injective } in
          contains_filter (extends_tuple left condition m) (all_extensions C left condition X) q (maps.1 match)
          ((bytes_eq-Decides (restricted left condition q) m).1 ((extends_each C left condition m q map_is m_long).1 after)),
    )
