-- The lists of classes stand for an instance that is glued of both sides.
use Rattle.std.proofs.Common.{◌≡◌, ◌∙◌, ℕ, ◌+◌, ◌-◌, ◌<◌, List, [], length, take, drop, get_or, map, Some, None, slice_get, ap, sym, subst, inl, inr, zero-add, arith}
use Rattle.std.specs.List.{Contains, range_with_len}
use Rattle.std.proofs.lemmas.Bool.{cases_lt}
use Rattle.std.proofs.lemmas.List.{get_or-map, get_or-take, get_or-drop}
use Rattle.std.proofs.lemmas.List.Elements.{Contains-get_or}
use Rattle.std.proofs.lemmas.List.FromFn.{length-range_with_len, get_or-range_with_len}
use Rattle.rw_schema.specs.declared.atom.Atom.{Atom}
use Rattle.rw_schema.specs.declared.signature.ArrowEnds.{ArrowEnds}
use Rattle.rw_schema.specs.declared.signature.AttrEnds.{AttrEnds}
use Rattle.rw_schema.specs.First.{map_in}
use Rattle.rw_schema.specs.RowLists.{RowLists, list_at}
use Rattle.rw_schema.specs.Signature.{Signature}
use Rattle.rw_schema.proofs.Lists.{list_at_map, get_or_map_in}
use Rattle.rw_spec.specs.Distinct.{AreDistinct}
use Rattle.rw_spec.specs.Homomorphism.{map_of}
use Rattle.rw_spec.specs.Instance.{instance_of, look}
use Rattle.rw_spec.proofs.Look.{look_at}
use Rattle.rw_spec.proofs.Ranges.{range_distinct}
use Rattle.rw_spec.proofs.Signatures.{source_is, holder_is}
use Rattle.rw_table.proofs.Checked.{checked_known, names_apart, row_whole, images_named}
use Rattle.rw_classes.specs.Glued.{AreGlued}
use Rattle.rw_classes.specs.FirstClash.{AreClassesOf}
use Rattle.rw_classes.specs.Places.{spot, either, count_at, cell_of}
use Rattle.rw_limits.specs.inner.Spans.{span_frame, IsSpan, value_place, class_row_at, left_classes, right_classes, AreClassLists}
use Rattle.rw_classes.proofs.Sides.{spot_within, spot_here, either_left, either_right, either_spot_left, either_spot_right}
use Rattle.rw_limits.proofs.Spans.{entry_of_map_in}

-- what is beside a name that is there stands at its place
look_spot : {A : Type 0} (none : A) (names : List ℕ) (entries : List A) (x : ℕ) → AreDistinct names → Contains names x
    → look none names entries x ≡ get_or entries (spot names x) none
look_spot none names entries x distinct has =
    ap (look none names entries) (sym (spot_here names x has)) ∙ look_at none names entries (spot names x) distinct (spot_within names x has)

-- a span, the classes of what it joins, and the lists that are made of them
module _ (C : Signature) (apex left right : RowLists) (f g : List (List ℕ)) (span : IsSpan C apex left right f g)
    (numbers firsts : List (List ℕ)) (numbers_long : length numbers ≡ C.objects) (firsts_long : length firsts ≡ C.objects)
    (classes : AreClassesOf C (span_frame C apex left right f g) numbers firsts)
    (rows : RowLists) (lists : AreClassLists C (span_frame C apex left right f g) left right numbers firsts rows)
  where
    -- the names of the classes are their numbers
    names_are : (object : ℕ) → object < C.objects → list_at rows.names object ≡ range_with_len 0 (length (list_at firsts object))
    names_are object known =
        ap (λ all. list_at all object) lists.names ∙ list_at_map (λ each. range_with_len 0 (length each)) firsts object [] (omega arith)

    -- a class is its name
    name_is : (object w : ℕ) → object < C.objects → w < length (list_at firsts object) → get_or (list_at rows.names object) w 0 ≡ w
    name_is object w known within =
        ap (λ names. get_or names w 0) (names_are object known) ∙ get_or-range_with_len 0 (length (list_at firsts object)) w 0 within ∙ zero-add w

    -- each name is there once
    apart : (object : ℕ) → object < C.objects → AreDistinct (list_at rows.names object)
    apart object known = subst (λ names. AreDistinct names) (sym (names_are object known)) (range_distinct (length (list_at firsts object)))

    -- the place of a left part is one of both sides
    left_place : (object x : ℕ) → Contains (list_at left.names object) x → spot (list_at left.names object) x < count_at (span_frame C apex left right f g) object
    left_place object x has =
        let within = spot_within (list_at left.names object) x has in
        omega arith

    -- the place of a right part is one of both sides
    right_place : (object y : ℕ) → Contains (list_at right.names object) y
        → length (list_at left.names object) + spot (list_at right.names object) y < count_at (span_frame C apex left right f g) object
    right_place object y has =
        let within = spot_within (list_at right.names object) y has in
        omega arith

    -- the image of a left part is its class
    left_class : (object x : ℕ) → object < C.objects → Contains (list_at left.names object) x
        → map_of (instance_of C left) (left_classes left numbers) object x ≡ get_or (list_at numbers object) (spot (list_at left.names object) x) 0
    left_class object x known has =
        let names : List ℕ = list_at left.names object in
        let leg_is : list_at (left_classes left numbers) object ≡ take (length names) (list_at numbers object) =
        entry_of_map_in (λ object each. take (length (list_at left.names object)) each) numbers object [] [] (omega arith) in
        ap (λ leg. look 0 names leg x) leg_is
        ∙ look_spot 0 names (take (length names) (list_at numbers object)) x (names_apart C left object span.left_sound) has
        ∙ get_or-take (length names) (list_at numbers object) (spot names x) 0 (spot_within names x has)

    -- the image of a right part is its class
    right_class : (object y : ℕ) → object < C.objects → Contains (list_at right.names object) y
        → map_of (instance_of C right) (right_classes left numbers) object y
        ≡ get_or (list_at numbers object) (length (list_at left.names object) + spot (list_at right.names object) y) 0
    right_class object y known has =
        let names : List ℕ = list_at right.names object in
        let count : ℕ = length (list_at left.names object) in
        let leg_is : list_at (right_classes left numbers) object ≡ drop count (list_at numbers object) =
        entry_of_map_in (λ object each. drop (length (list_at left.names object)) each) numbers object [] [] (omega arith) in
        ap (λ leg. look 0 names leg y) leg_is
        ∙ look_spot 0 names (drop count (list_at numbers object)) y (names_apart C right object span.right_sound) has
        ∙ get_or-drop count (list_at numbers object) (spot names y) 0

    -- the class of a place is a class
    class_within : (object e : ℕ) → object < C.objects → e < count_at (span_frame C apex left right f g) object
        → get_or (list_at numbers object) e 0 < length (list_at firsts object)
    class_within object e known below = (classes object known).numbered.within e below

    -- where an arrow leads from the first part of a class, both sides' maps lead to the class of the value
    class_of_value : (a : ℕ) (ends : ArrowEnds) (e : ℕ) → slice_get C.arrows a ≡ Some ends → e < count_at (span_frame C apex left right f g) ends.source.0
        → get_or (list_at numbers ends.target.0)
        (value_place (list_at left.arrows a) (list_at right.arrows a) (list_at left.names ends.target.0) (list_at right.names ends.target.0) e) 0
        ≡ either (list_at left.names ends.source.0) (list_at right.names ends.source.0)
        (λ x. map_of (instance_of C left) (left_classes left numbers) ends.target.0 ((instance_of C left).value a x))
        (λ y. map_of (instance_of C right) (right_classes left numbers) ends.target.0 ((instance_of C right).value a y)) e
    class_of_value a ends e there below =
        let source : ℕ = ends.source.0 in
        let target : ℕ = ends.target.0 in
        let target_known : target < C.objects = span.category.targets a ends there in
        let left_checked = checked_known C left span.left_sound in
        let right_checked = checked_known C right span.right_sound in
        let left_row : List ℕ = list_at left.arrows a in
        let right_row : List ℕ = list_at right.arrows a in
        let left_long : length left_row ≡ length (list_at left.names source) = row_whole C left a ends left_checked.shape there in
        let right_long : length right_row ≡ length (list_at right.names source) = row_whole C right a ends right_checked.shape there in
        let class : ℕ → ℕ = λ k. get_or (list_at numbers target) k 0 in
        let in_left : ℕ → ℕ = spot (list_at left.names target) in
        let in_right : ℕ → ℕ = λ y. length (list_at left.names target) + spot (list_at right.names target) y in
        let d : ℕ → ℕ = λ x. map_of (instance_of C left) (left_classes left numbers) target ((instance_of C left).value a x) in
        let s : ℕ → ℕ = λ y. map_of (instance_of C right) (right_classes left numbers) target ((instance_of C right).value a y) in
        elim (cases_lt e (length left_row)) [
          | inl here ↦
              let x : ℕ = get_or (list_at left.names source) e 0 in
              let value : (instance_of C left).value a x ≡ get_or left_row e 0 =
              ap (λ object. look 0 (list_at left.names object) left_row x) (source_is C a ends there)
              ∙ look_at 0 (list_at left.names source) left_row e (names_apart C left source span.left_sound) (omega arith) in
              let has : Contains (list_at left.names target) (get_or left_row e 0) =
              images_named C left a ends (get_or left_row e 0) left_checked.range there (Contains-get_or left_row e 0 here) in
              ap class (either_left left_row right_row in_left in_right e here)
              ∙ sym (left_class target (get_or left_row e 0) target_known has)
              ∙ ap (map_of (instance_of C left) (left_classes left numbers) target) (sym value)
              ∙ sym (either_left (list_at left.names source) (list_at right.names source) d s e (omega arith))
          | inr past ↦
              let k : ℕ = e - length left_row in
              let same : e - length (list_at left.names source) ≡ k = omega arith in
              let y : ℕ = get_or (list_at right.names source) k 0 in
              let value : (instance_of C right).value a y ≡ get_or right_row k 0 =
              ap (λ object. look 0 (list_at right.names object) right_row y) (source_is C a ends there)
              ∙ look_at 0 (list_at right.names source) right_row k (names_apart C right source span.right_sound) (omega arith) in
              let has : Contains (list_at right.names target) (get_or right_row k 0) =
              images_named C right a ends (get_or right_row k 0) right_checked.range there (Contains-get_or right_row k 0 (omega arith)) in
              ap class (either_right left_row right_row in_left in_right e past)
              ∙ sym (right_class target (get_or right_row k 0) target_known has)
              ∙ ap (map_of (instance_of C right) (right_classes left numbers) target) (sym value)
              ∙ ap (λ i. s (get_or (list_at right.names source) i 0)) (sym same)
              ∙ sym (either_right (list_at left.names source) (list_at right.names source) d s e (omega arith))
        ]

    -- the value of an arrow at a class
    value_is : (a : ℕ) (ends : ArrowEnds) (w : ℕ) → slice_get C.arrows a ≡ Some ends → w < length (list_at firsts ends.source.0)
        → (instance_of C rows).value a (get_or (list_at rows.names ends.source.0) w 0)
        ≡ get_or (list_at numbers ends.target.0)
        (value_place (list_at left.arrows a) (list_at right.arrows a) (list_at left.names ends.target.0) (list_at right.names ends.target.0)
        (get_or (list_at firsts ends.source.0) w 0)) 0
    value_is a ends w there within =
        let source : ℕ = ends.source.0 in
        let known : source < C.objects = span.category.sources a ends there in
        let names : List ℕ = list_at rows.names source in
        let row : List ℕ = list_at rows.arrows a in
        let class_at : ℕ → ℕ = λ e.
        get_or (list_at numbers ends.target.0) (value_place (list_at left.arrows a) (list_at right.arrows a) (list_at left.names ends.target.0) (list_at right.names ends.target.0) e) 0 in
        let long : length names ≡ length (list_at firsts source) = ap length (names_are source known) ∙ length-range_with_len 0 (length (list_at firsts source)) in
        let row_is : row ≡ map class_at (list_at firsts source) =
        ap (λ all. list_at all a) lists.arrows ∙ row_at a ends there in
        ap (λ object. look 0 (list_at rows.names object) row (get_or names w 0)) (source_is C a ends there)
        ∙ look_at 0 names row w (apart source known) (omega arith)
        ∙ ap (λ entries. get_or entries w 0) row_is
        ∙ get_or-map class_at (list_at firsts source) w 0 0 within
      where
        row_at : (a : ℕ) (ends : ArrowEnds) → slice_get C.arrows a ≡ Some ends
            → list_at (map_in (class_row_at left right numbers firsts) 0 C.arrows) a ≡ class_row_at left right numbers firsts a ends
        row_at a ends there = get_or_map_in (class_row_at left right numbers firsts) 0 C.arrows a ends [] there ∙ ap (λ i. class_row_at left right numbers firsts i ends) (zero-add a)

    -- the cell of a class
    cell_is : (c : ℕ) (ends : AttrEnds) (w : ℕ) → slice_get C.attributes c ≡ Some ends → w < length (list_at firsts ends.object.0)
        → (instance_of C rows).cell c (get_or (list_at rows.names ends.object.0) w 0) ≡ get_or (list_at rows.cells c) w None
    cell_is c ends w there within =
        let object : ℕ = ends.object.0 in
        let known : object < C.objects = span.category.holders c ends there in
        let names : List ℕ = list_at rows.names object in
        let long : length names ≡ length (list_at firsts object) = ap length (names_are object known) ∙ length-range_with_len 0 (length (list_at firsts object)) in
        ap (λ object. look None (list_at rows.names object) (list_at rows.cells c) (get_or names w 0)) (holder_is C c ends there)
        ∙ look_at None names (list_at rows.cells c) w (apart object known) (omega arith)

    -- an atom of a place is at its class
    cell_kept : (c : ℕ) (ends : AttrEnds) (e w : ℕ) (atom : Atom) → slice_get C.attributes c ≡ Some ends
        → e < count_at (span_frame C apex left right f g) ends.object.0 → w ≡ get_or (list_at numbers ends.object.0) e 0
        → cell_of (span_frame C apex left right f g) ends.object.0 c e ≡ Some atom → (instance_of C rows).cell c w ≡ Some atom
    cell_kept c ends e w atom there below class_is is =
        let object : ℕ = ends.object.0 in
        let known : object < C.objects = span.category.holders c ends there in
        let class : ℕ = get_or (list_at numbers object) e 0 in
        let within : class < length (list_at firsts object) = class_within object e known below in
        ap ((instance_of C rows).cell c) (class_is ∙ sym (name_is object class known within))
        ∙ cell_is c ends class there within
        ∙ (lists.cells c ends there).kept e atom below is

    -- the instance is glued of both sides
    pub glued_lists : AreGlued C (span_frame C apex left right f g) (instance_of C rows)
        (map_of (instance_of C left) (left_classes left numbers)) (map_of (instance_of C right) (right_classes left numbers))
        (list_at numbers) (list_at firsts)
    glued_lists = record {
      classes = classes;
      each = λ object known. ap length (names_are object known) ∙ length-range_with_len 0 (length (list_at firsts object));
      apart = apart;
      left = λ object x known has.
          left_class object x known has
          ∙ sym (name_is object (get_or (list_at numbers object) (spot (list_at left.names object) x) 0) known (class_within object (spot (list_at left.names object) x) known (left_place object x has)));
      right = λ object y known has.
          let place : ℕ = length (list_at left.names object) + spot (list_at right.names object) y in
          right_class object y known has
          ∙ sym (name_is object (get_or (list_at numbers object) place 0) known (class_within object place known (right_place object y has)));
      values = λ a ends w there within.
          value_is a ends w there within
          ∙ class_of_value a ends (get_or (list_at firsts ends.source.0) w 0) there ((classes ends.source.0 (span.category.sources a ends there)).numbered.below w within);
      left_cells = λ c ends x atom there has is.
          let object : ℕ = ends.object.0 in
          let known : object < C.objects = span.category.holders c ends there in
          cell_kept c ends (spot (list_at left.names object) x) (map_of (instance_of C left) (left_classes left numbers) object x) atom there (left_place object x has) (left_class object x known has)
          (either_spot_left (list_at left.names object) (list_at right.names object) ((instance_of C left).cell c) ((instance_of C right).cell c) x has ∙ is);
      right_cells = λ c ends y atom there has is.
          let object : ℕ = ends.object.0 in
          let known : object < C.objects = span.category.holders c ends there in
          cell_kept c ends (length (list_at left.names object) + spot (list_at right.names object) y) (map_of (instance_of C right) (right_classes left numbers) object y) atom there
          (right_place object y has) (right_class object y known has)
          (either_spot_right (list_at left.names object) (list_at right.names object) ((instance_of C left).cell c) ((instance_of C right).cell c) y has ∙ is);
      cells = λ c ends w atom there within is.
          (lists.cells c ends there).from w atom within (sym (cell_is c ends w there within) ∙ is);
    }
