-- A match depends on the rows and cells at its names alone.
use Rattle.std.proofs.Common.{◌≡◌, ◌==◌, ℕ, ◌<◌, Bool, false, ◌&&◌, Some, List, Contains, sum, length, get_or, slice_get, slice_index, option_map, refl, sym, ap, ◌∙◌, subst}
use Rattle.std.proofs.lemmas.Bool.{both_ways, false_from_ne_true}
use Rattle.std.proofs.lemmas.Option.{slice_get_within, slice_get-get_or, slice_get-map}
use Rattle.rw_schema.specs.declared.atom.Kind.TheVariants as kinds
use Rattle.rw_schema.specs.declared.ids.ObjectId.{ObjectId}
use Rattle.rw_schema.specs.declared.signature.AttrEnds.{AttrEnds}
use Rattle.rw_schema.specs.RowLists.{list_at}
use Rattle.rw_schema.specs.Signature.{Signature}
use Rattle.rw_schema.proofs.Paths.{number_at}
use Rattle.rw_spec.specs.Instance.{Instance, Has}
use Rattle.rw_spec.proofs.Sequences.{contains_filter, contained_in_filter}
use Rattle.rw_pattern.specs.declared.cell.PatternCell.{PatternCell}
use Rattle.rw_pattern.specs.declared.cell.Want.{Want}
use Rattle.rw_pattern.specs.declared.cell.Want.TheVariants.{Const, Var}
use Rattle.rw_pattern.specs.declared.entry.RowEntry.{RowEntry}
use Rattle.rw_pattern.specs.Matches.{candidates, commutes, is_natural, cell_met, wants, wanted, is_met, meets_cells, is_monic, is_match, matches}
use Rattle.rw_pattern.specs.PatternFaults.{IsPatternOf}
use Rattle.rw_pattern.specs.PatternLists.{PatternLists, size_of, place_of, holder, holders_in, objects_of, entries_of, map_of_tuple}
use Rattle.rw_spec.specs.Tuples.{tuples}
use Rattle.rw_pattern.proofs.Entries.{IsEntry, is_entry}
use Rattle.rw_pattern.proofs.Naturality.{candidates_at, length_candidates}
use Rattle.rw_pattern.proofs.Over.{object_within, cell_attribute, cell_part}
use Rattle.rw_pattern.proofs.Places.{PartAt, part_at_place, place_within, object_at_place, length_objects_of}
use Rattle.rw_pattern.proofs.Shapes.{IsPattern, is_pattern, row_long}
use Rattle.rw_spec.proofs.Tuples.{IsTuple, is_tuple, contains_tuple}
use Rattle.rw_kept.specs.Changed.{AgreeAt, Survives, goes_through}
use Rattle.rw_kept.proofs.Sought.{find_same, list_all_same, name_found, found_name}

-- both instances agree at each name of the tuple
pub record AgreeOn (C : Signature) (pattern : PatternLists) (X Y : Instance) (tuple : List ℕ) : Type 0 where
  pub at : (object part : ℕ) → object < length pattern.sizes → part < size_of pattern object → AgreeAt C X Y object (map_of_tuple pattern tuple object part)

-- an arrow leads alike from a name of the tuple
commutes_same : (C : Signature) (pattern : PatternLists) (X Y : Instance) (tuple : List ℕ) → IsPattern C pattern → AgreeOn C pattern X Y tuple
    → (entry : RowEntry) → IsEntry C pattern entry → commutes X tuple entry ≡ commutes Y tuple entry
commutes_same C pattern X Y tuple is agree entry found =
    let object : ℕ = found.ends.source.0 in
    let there : found.part < size_of pattern object =
    rw (← row_long C pattern found.arrow found.ends is found.arrow_is)
    (slice_get_within (list_at pattern.rows found.arrow) found.part found.image found.image_is) in
    let known : object < length pattern.sizes = object_within pattern object found.part there in
    let same : X.value found.arrow (slice_index tuple (place_of pattern object found.part)) ≡ Y.value found.arrow (slice_index tuple (place_of pattern object found.part)) =
    (agree.at object found.part known there).values found.arrow found.ends found.arrow_is refl in
    subst (λ (entry : RowEntry). commutes X tuple entry ≡ commutes Y tuple entry) found.is
    (ap (λ n. n == slice_index tuple (place_of pattern found.ends.target.0 found.image)) same)

-- the object of an attribute
holder_same : (C : Signature) (pattern : PatternLists) (attribute : ℕ) (ends : AttrEnds) → pattern.holders ≡ holders_in C
    → slice_get C.attributes attribute ≡ Some ends → holder pattern attribute ≡ ends.object.0
holder_same C pattern attribute ends holders there =
    let object : slice_get (holders_in C) attribute ≡ Some ends.object =
    slice_get-map (λ (ends : AttrEnds). ends.object) C.attributes attribute ∙ ap (option_map (λ (ends : AttrEnds). ends.object)) there in
    number_at (λ (object : ObjectId). object.0) pattern.holders attribute ends.object (rw holders object)

-- an entry falls on the same cell
cell_same : (C : Signature) (pattern : PatternLists) (X Y : Instance) (tuple : List ℕ) → IsPatternOf C pattern → AgreeOn C pattern X Y tuple
    → (entry : PatternCell) → Contains pattern.cells entry → cell_met pattern X tuple entry ≡ cell_met pattern Y tuple entry
cell_same C pattern X Y tuple is agree entry among =
    let at_place : slice_get pattern.cells among.0 ≡ Some entry = slice_get-get_or pattern.cells among.0 entry among.1 ∙ ap (λ (entry : PatternCell). Some entry) among.2 in
    let attribute : ℕ = entry.attr.0 in
    let any : AttrEnds = record { object = record { 0 = 0 }; kind = kinds.Int } in
    let ends : AttrEnds = get_or C.attributes attribute any in
    let ends_is : slice_get C.attributes attribute ≡ Some ends = slice_get-get_or C.attributes attribute any (cell_attribute C is.0 pattern among.0 entry is.1 at_place) in
    let there : entry.part < size_of pattern (holder pattern attribute) = cell_part C is.0 pattern among.0 entry is.1 at_place in
    let known : holder pattern attribute < length pattern.sizes = object_within pattern (holder pattern attribute) entry.part there in
    (agree.at (holder pattern attribute) entry.part known there).cells attribute ends ends_is (sym (holder_same C pattern attribute ends is.1.holders ends_is))

-- the same is wanted
wanted_same : (C : Signature) (pattern : PatternLists) (X Y : Instance) (tuple : List ℕ) → IsPatternOf C pattern → AgreeOn C pattern X Y tuple
    → (want : Want) → wanted pattern X tuple want ≡ wanted pattern Y tuple want
wanted_same C pattern X Y tuple is agree (Const atom) = refl
wanted_same C pattern X Y tuple is agree (Var variable) =
    find_same (cell_met pattern X tuple) (cell_met pattern Y tuple) (λ (entry : PatternCell). wants variable entry.want) pattern.cells
    (cell_same C pattern X Y tuple is agree)

-- a match depends on the rows and cells at its names alone
pub match_local : (C : Signature) (pattern : PatternLists) (monic : List Bool) (X Y : Instance) (tuple : List ℕ) → IsPatternOf C pattern → AgreeOn C pattern X Y tuple
    → is_match C pattern monic X tuple ≡ is_match C pattern monic Y tuple
match_local C pattern monic X Y tuple is agree =
    let natural : is_natural C pattern X tuple ≡ is_natural C pattern Y tuple =
    list_all_same (commutes X tuple) (commutes Y tuple) (entries_of C pattern)
    (λ entry there. commutes_same C pattern X Y tuple (is_pattern C pattern is) agree entry (is_entry C pattern entry there)) in
    let cells : meets_cells pattern X tuple ≡ meets_cells pattern Y tuple =
    list_all_same (is_met pattern X tuple) (is_met pattern Y tuple) pattern.cells
    (λ entry there. met entry (cell_same C pattern X Y tuple is agree entry there) (wanted_same C pattern X Y tuple is agree entry.want)) in
    ap (λ b. b && meets_cells pattern X tuple && is_monic pattern monic tuple) natural
    ∙ ap (λ b. is_natural C pattern Y tuple && b && is_monic pattern monic tuple) cells
  where
    met : (entry : PatternCell) → cell_met pattern X tuple entry ≡ cell_met pattern Y tuple entry → wanted pattern X tuple entry.want ≡ wanted pattern Y tuple entry.want
        → is_met pattern X tuple entry ≡ is_met pattern Y tuple entry
    met entry cell want = cc

-- a tuple of names has a name of its object for each part
pub has_of_tuple : (pattern : PatternLists) (X : Instance) (tuple : List ℕ) → IsTuple (candidates pattern X) tuple
    → (object part : ℕ) → object < length pattern.sizes → part < size_of pattern object → Has X object (map_of_tuple pattern tuple object part)
has_of_tuple pattern X tuple items object part known there =
    let within : place_of pattern object part < length (candidates pattern X) = rw (length_candidates pattern X) (place_within pattern object part known there) in
    rw (← candidates_at pattern X object part known there) (items.items (place_of pattern object part) within)

-- names of their objects are a tuple of names
pub tuple_of_has : (pattern : PatternLists) (X : Instance) (tuple : List ℕ) → length tuple ≡ sum pattern.sizes
    → ((object part : ℕ) → object < length pattern.sizes → part < size_of pattern object → Has X object (map_of_tuple pattern tuple object part))
    → IsTuple (candidates pattern X) tuple
tuple_of_has pattern X tuple long has = record {
  long = long ∙ sym (length_candidates pattern X);
  items = λ place within.
      let found : PartAt pattern place = part_at_place pattern place (rw (← length_candidates pattern X) within) in
      let here : Contains (X.names found.object) (slice_index tuple (place_of pattern found.object found.part)) = has found.object found.part found.known found.there in
      let among : Contains (list_at (candidates pattern X) (place_of pattern found.object found.part)) (slice_index tuple (place_of pattern found.object found.part)) =
      rw (candidates_at pattern X found.object found.part found.known found.there) here in
      subst (λ (place : ℕ). Contains (list_at (candidates pattern X) place) (slice_index tuple place)) found.is among;
}

-- a name of a tuple without a changed name is not changed
not_changed : (pattern : PatternLists) (changed : ℕ → List ℕ) (tuple : List ℕ) → length tuple ≡ sum pattern.sizes → goes_through changed pattern tuple ≡ false
    → (object part : ℕ) → object < length pattern.sizes → part < size_of pattern object → Contains (changed object) (map_of_tuple pattern tuple object part) → ⊥
not_changed pattern changed tuple long apart object part known there among =
    let any : ObjectId = record { 0 = 0 } in
    let place : ℕ = place_of pattern object part in
    let within : place < length (objects_of pattern) = rw (length_objects_of pattern) (place_within pattern object part known there) in
    let object_is : get_or (objects_of pattern) place any ≡ record { 0 = object } = object_at_place pattern object part any known there in
    let found : Contains (changed (get_or (objects_of pattern) place any).0) (get_or tuple place 0) =
    subst (λ (o : ObjectId). Contains (changed o.0) (get_or tuple place 0)) (sym object_is) among in
    both_ways (goes_through changed pattern tuple) apart (name_found changed (objects_of pattern) tuple place any (long ∙ sym (length_objects_of pattern)) within found)

-- a tuple has no changed name where none of its names is changed
none_changed : (pattern : PatternLists) (changed : ℕ → List ℕ) (tuple : List ℕ)
    → ((object part : ℕ) → object < length pattern.sizes → part < size_of pattern object → Contains (changed object) (map_of_tuple pattern tuple object part) → ⊥)
    → goes_through changed pattern tuple ≡ false
none_changed pattern changed tuple none =
    false_from_ne_true (goes_through changed pattern tuple) (λ through.
    let any : ObjectId = record { 0 = 0 } in
    let found = found_name changed (objects_of pattern) tuple any through in
    let below : found.0 < sum pattern.sizes = rw (← length_objects_of pattern) found.1 in
    let at : PartAt pattern found.0 = part_at_place pattern found.0 below in
    let object_is : get_or (objects_of pattern) found.0 any ≡ record { 0 = at.object } =
    ap (λ place. get_or (objects_of pattern) place any) (sym at.is) ∙ object_at_place pattern at.object at.part any at.known at.there in
    let among : Contains (changed at.object) (get_or tuple found.0 0) =
    subst (λ (o : ObjectId). Contains (changed o.0) (get_or tuple found.0 0)) object_is found.3 in
    none at.object at.part at.known at.there
    (subst (λ (place : ℕ). Contains (changed at.object) (slice_index tuple place)) (sym at.is) among))

-- a match without a name that goes is a match afterwards, without a name that comes
pub match_survives : (C : Signature) (pattern : PatternLists) (monic : List Bool) (X Y : Instance) (out into : ℕ → List ℕ) (tuple : List ℕ) → IsPatternOf C pattern
    → Survives C X Y out into → Contains (matches C pattern monic X) tuple → goes_through out pattern tuple ≡ false
    → Contains (matches C pattern monic Y) tuple × (goes_through into pattern tuple ≡ false)
match_survives C pattern monic X Y out into tuple is survives matched apart =
    let shape : IsPattern C pattern = is_pattern C pattern is in
    let kept = contained_in_filter (is_match C pattern monic X) (tuples (candidates pattern X)) tuple matched in
    let items : IsTuple (candidates pattern X) tuple = is_tuple (candidates pattern X) tuple kept.0 in
    let long : length tuple ≡ sum pattern.sizes = items.long ∙ length_candidates pattern X in
    let each : (object part : ℕ) → object < length pattern.sizes → part < size_of pattern object
    → Has Y object (map_of_tuple pattern tuple object part) × AgreeAt C X Y object (map_of_tuple pattern tuple object part) × (Contains (into object) (map_of_tuple pattern tuple object part) → ⊥) =
    λ object part known there. survives.each object (map_of_tuple pattern tuple object part) (rw (← shape.sizes_long) known)
    (has_of_tuple pattern X tuple items object part known there) (not_changed pattern out tuple long apart object part known there) in
    let agree : AgreeOn C pattern X Y tuple = record { at = λ object part known there. (each object part known there).1 } in
    let after : IsTuple (candidates pattern Y) tuple = tuple_of_has pattern Y tuple long (λ object part known there. (each object part known there).0) in (
      contains_filter (is_match C pattern monic Y) (tuples (candidates pattern Y)) tuple (contains_tuple (candidates pattern Y) tuple after)
          (sym (match_local C pattern monic X Y tuple is agree) ∙ kept.1),
      none_changed pattern into tuple (λ object part known there. (each object part known there).2),
    )
