-- What the lists of a span say of its frame.
use Rattle.std.proofs.Common.{◌≡◌, ◌∙◌, ℕ, ◌+◌, ◌-◌, ◌<◌, ◌^◌, List, length, get_or, map, Some, None, slice_get, refl, ap, sym, subst, inl, inr, zero-add, arith}
use Rattle.std.specs.List.{Contains, All}
use Rattle.std.proofs.lemmas.Bool.{cases_lt}
use Rattle.std.proofs.lemmas.List.{same_lists, length-map, get_or-map}
use Rattle.std.proofs.lemmas.List.Elements.{All-map, All-weaker, All-contains_itself, All-from_get_or, Contains-get_or}
use Rattle.std.proofs.lemmas.Option.{slice_get-get_or, slice_get_within}
use Rattle.rw_schema.specs.declared.signature.ArrowEnds.{ArrowEnds}
use Rattle.rw_schema.specs.First.{map_in}
use Rattle.rw_schema.specs.RowLists.{RowLists, list_at}
use Rattle.rw_schema.specs.Signature.{Signature, IsCategory}
use Rattle.rw_schema.proofs.Lists.{length_map_in, get_or_map_in}
use Rattle.rw_spec.specs.Cocone.{Frame}
use Rattle.rw_spec.specs.Distinct.{AreDistinct}
use Rattle.rw_spec.specs.Homomorphism.{map_of}
use Rattle.rw_spec.specs.Instance.{instance_of}
use Rattle.rw_spec.proofs.Look.{look_at}
use Rattle.rw_spec.specs.Tabled.{Tabled, instance_of_table}
use Rattle.rw_table.specs.TableFaults.{table_fault}
use Rattle.rw_table.proofs.Checked.{checked_known, shape_known, names_ascend, names_apart, row_whole, images_named}
use Rattle.rw_map.specs.Homs.{IsHom}
use Rattle.rw_classes.specs.Classes.{AreClasses}
use Rattle.rw_limits.specs.Pushouts.{frame_of}
use Rattle.rw_classes.specs.FirstClash.{AreClassesOf}
use Rattle.rw_classes.specs.Places.{spot, count_at, joined_at}
use Rattle.rw_limits.specs.inner.Spans.{span_frame, IsSpan, value_place, HasClassValues}
use Rattle.rw_classes.specs.ClassLists.{joined_by, part_count, AreJoinable, AreClassesBy}
use Rattle.rw_classes.proofs.Sides.{spot_within, either_left, either_right}

-- what a map with places gives at a place
pub entry_of_map_in : {X A : Type 0} (h : ℕ → X → A) (xs : List X) (k : ℕ) (d : X) (e : A) → k < length xs → get_or (map_in h 0 xs) k e ≡ h k (get_or xs k d)
entry_of_map_in h xs k d e within =
    get_or_map_in h 0 xs k (get_or xs k d) e (slice_get-get_or xs k d within) ∙ ap (λ i. h i (get_or xs k d)) (zero-add k)

-- homomorphisms of tables out of one apex are a span
pub span_of_tables : (C : Signature) (apex left right : Tabled) (f g : List (List ℕ)) → apex.signature ≡ C → left.signature ≡ C → right.signature ≡ C
    → IsCategory apex.signature → table_fault apex.signature apex.rows ≡ None → table_fault left.signature left.rows ≡ None → table_fault right.signature right.rows ≡ None
    → IsHom C (instance_of_table apex) (instance_of_table left) f → IsHom C (instance_of_table apex) (instance_of_table right) g
    → ((object : ℕ) → object < C.objects → count_at (frame_of apex left right f g) object < 2 ^ 32)
    → IsSpan C apex.rows left.rows right.rows f g
span_of_tables C apex left right f g apex_over left_over right_over category apex_sound left_sound right_sound to_left to_right few = record {
  category = subst (λ D. IsCategory D) apex_over category;
  apex_sound = subst (λ D. table_fault D apex.rows ≡ None) apex_over apex_sound;
  left_sound = subst (λ D. table_fault D left.rows ≡ None) left_over left_sound;
  right_sound = subst (λ D. table_fault D right.rows ≡ None) right_over right_sound;
  to_left = subst (λ D. IsHom C (instance_of C apex.rows) (instance_of D left.rows) f) left_over
      (subst (λ D. IsHom C (instance_of D apex.rows) (instance_of left.signature left.rows) f) apex_over to_left);
  to_right = subst (λ D. IsHom C (instance_of C apex.rows) (instance_of D right.rows) g) right_over
      (subst (λ D. IsHom C (instance_of D apex.rows) (instance_of right.signature right.rows) g) apex_over to_right);
  few = few;
}

-- the frame of tables is that of their lists
pub frame_of_tables : (C : Signature) (apex left right : Tabled) (f g : List (List ℕ)) → apex.signature ≡ C → left.signature ≡ C → right.signature ≡ C
    → frame_of apex left right f g ≡ span_frame C apex.rows left.rows right.rows f g
frame_of_tables C apex left right f g apex_over left_over right_over =
    let frame : Signature → Signature → Signature → Frame = λ A L R. record {
      apex = instance_of A apex.rows;
      left = instance_of L left.rows;
      right = instance_of R right.rows;
      to_left = map_of (instance_of A apex.rows) f;
      to_right = map_of (instance_of A apex.rows) g;
    } in
    ap (λ A. frame A left.signature right.signature) apex_over ∙ ap (λ L. frame C L right.signature) left_over ∙ ap (frame C C) right_over

-- the frame of a span
module _ (C : Signature) (apex left right : RowLists) (f g : List (List ℕ)) (span : IsSpan C apex left right f g) where
  -- the place of a left image is that of a left part
  left_image : (object z : ℕ) → object < C.objects → Contains (list_at apex.names object) z
      → Contains (list_at left.names object) (map_of (instance_of C apex) f object z)
  left_image object z known has = span.to_left.homomorphism.natural.parts object z known has

  right_image : (object z : ℕ) → object < C.objects → Contains (list_at apex.names object) z
      → Contains (list_at right.names object) (map_of (instance_of C apex) g object z)
  right_image object z known has = span.to_right.homomorphism.natural.parts object z known has

  -- the lists join what the frame joins
  pub joined_is : (object : ℕ) → object < C.objects → joined_by left right f g object ≡ joined_at (span_frame C apex left right f g) object
  joined_is object known =
      let names : List ℕ = list_at apex.names object in
      let ls : List ℕ = list_at left.names object in
      let rs : List ℕ = list_at right.names object in
      let xs : List ℕ = list_at f object in
      let ys : List ℕ = list_at g object in
      let from_lists : ℕ → ℕ → ℕ × ℕ = λ k x. (spot ls x, length ls + spot rs (get_or ys k 0)) in
      let from_parts : ℕ → ℕ × ℕ = λ z. (spot ls (map_of (instance_of C apex) f object z), length ls + spot rs (map_of (instance_of C apex) g object z)) in
      let distinct : AreDistinct names = names_apart C apex object span.apex_sound in
      let xs_long : length xs ≡ length names = span.to_left.shape.each object known in
      let long : length (map_in from_lists 0 xs) ≡ length (map from_parts names) = length_map_in from_lists 0 xs ∙ xs_long ∙ sym (length-map names from_parts) in
      same_lists (map_in from_lists 0 xs) (map from_parts names) long (λ k d below.
      let within_xs : k < length xs = subst (λ (n : ℕ). k < n) (length_map_in from_lists 0 xs) below in
      let within : k < length names = omega arith in
      let z : ℕ = get_or names k 0 in
      let x_is : map_of (instance_of C apex) f object z ≡ get_or xs k 0 = look_at 0 names xs k distinct within in
      let y_is : map_of (instance_of C apex) g object z ≡ get_or ys k 0 = look_at 0 names ys k distinct within in
      let listed : get_or (map_in from_lists 0 xs) k d ≡ from_lists k (get_or xs k 0) = entry_of_map_in from_lists xs k 0 d within_xs in
      let mapped : get_or (map from_parts names) k d ≡ from_parts z = get_or-map from_parts names k 0 d within in
      let same : from_parts z ≡ from_lists k (get_or xs k 0) = rw (x_is, y_is) refl in
      listed ∙ sym same ∙ sym mapped)

  -- what is joined are places of parts
  joined_within : (object : ℕ) → object < C.objects
      → All (λ pair. (pair.0 < part_count left right object) × (pair.1 < part_count left right object)) (joined_at (span_frame C apex left right f g) object)
  joined_within object known =
      let ls : List ℕ = list_at left.names object in
      let rs : List ℕ = list_at right.names object in
      let names : List ℕ = list_at apex.names object in
      let place : ℕ → ℕ × ℕ = λ z. (spot ls (map_of (instance_of C apex) f object z), length ls + spot rs (map_of (instance_of C apex) g object z)) in
      let IsWithin : ℕ × ℕ → Type 0 = λ pair. (pair.0 < part_count left right object) × (pair.1 < part_count left right object) in
      All-map IsWithin place names
      (All-weaker (Contains names) (λ z. IsWithin (place z))
      (λ z has.
      let x_within = spot_within ls (map_of (instance_of C apex) f object z) (left_image object z known has) in
      let y_within = spot_within rs (map_of (instance_of C apex) g object z) (right_image object z known has) in
      (omega arith, omega arith))
      names (All-contains_itself names))

  -- the lists can be joined
  pub joinable : AreJoinable C.objects left right f g
  joinable = record {
    left_lists = let long = (shape_known C left (checked_known C left span.left_sound).shape).names in omega arith;
    right_lists = let long = (shape_known C right (checked_known C right span.right_sound).shape).names in omega arith;
    left_images = span.to_left.shape.lists;
    right_images = span.to_right.shape.lists;
    left_ascend = λ object known. names_ascend left object (checked_known C left span.left_sound).names;
    right_ascend = λ object known. names_ascend right object (checked_known C right span.right_sound).names;
    paired = λ object known. span.to_right.shape.each object known ∙ sym (span.to_left.shape.each object known);
    few = span.few;
    within = λ object known. rw (joined_is object known) (joined_within object known);
  }

  -- classes by the lists are classes of the frame
  pub classes_of_frame : (numbers firsts : List (List ℕ)) → AreClassesBy C.objects left right f g numbers firsts
      → AreClassesOf C (span_frame C apex left right f g) numbers firsts
  classes_of_frame numbers firsts classes object known =
      subst (λ pairs. AreClasses (part_count left right object) pairs (list_at numbers object) (list_at firsts object)) (joined_is object known) (classes object known)

  -- the value of a part of either side has a place among the targets of both
  value_within : (a : ℕ) (ends : ArrowEnds) (e : ℕ) → slice_get C.arrows a ≡ Some ends → e < part_count left right ends.source.0
      → value_place (list_at left.arrows a) (list_at right.arrows a) (list_at left.names ends.target.0) (list_at right.names ends.target.0) e
      < part_count left right ends.target.0
  value_within a ends e there below =
      let left_row : List ℕ = list_at left.arrows a in
      let right_row : List ℕ = list_at right.arrows a in
      let left_targets : List ℕ = list_at left.names ends.target.0 in
      let right_targets : List ℕ = list_at right.names ends.target.0 in
      let left_checked = checked_known C left span.left_sound in
      let right_checked = checked_known C right span.right_sound in
      let left_long : length left_row ≡ length (list_at left.names ends.source.0) = row_whole C left a ends left_checked.shape there in
      let right_long : length right_row ≡ length (list_at right.names ends.source.0) = row_whole C right a ends right_checked.shape there in
      let in_left : ℕ → ℕ = spot left_targets in
      let in_right : ℕ → ℕ = λ y. length left_targets + spot right_targets y in
      elim (cases_lt e (length left_row)) [
        | inl here ↦
            let x : ℕ = get_or left_row e 0 in
            let has : Contains left_targets x = images_named C left a ends x left_checked.range there (Contains-get_or left_row e 0 here) in
            let within : spot left_targets x < length left_targets = spot_within left_targets x has in
            rw (either_left left_row right_row in_left in_right e here) (omega arith)
        | inr past ↦
            let y : ℕ = get_or right_row (e - length left_row) 0 in
            let has : Contains right_targets y = images_named C right a ends y right_checked.range there (Contains-get_or right_row (e - length left_row) 0 (omega arith)) in
            let within : spot right_targets y < length right_targets = spot_within right_targets y has in
            rw (either_right left_row right_row in_left in_right e past) (omega arith)
      ]

  -- each arrow leads from the first part of each class to a part that has a class
  pub has_class_values : (numbers firsts : List (List ℕ)) → length numbers ≡ C.objects → length firsts ≡ C.objects
      → AreClassesBy C.objects left right f g numbers firsts
      → (a : ℕ) (ends : ArrowEnds) → slice_get C.arrows a ≡ Some ends → HasClassValues left right numbers firsts a ends
  has_class_values numbers firsts numbers_long firsts_long classes a ends there =
      let left_checked = checked_known C left span.left_sound in
      let right_checked = checked_known C right span.right_sound in
      let left_shape = shape_known C left left_checked.shape in
      let right_shape = shape_known C right right_checked.shape in
      let arrow_known : a < length C.arrows = slice_get_within C.arrows a ends there in
      let source_known : ends.source.0 < C.objects = span.category.sources a ends there in
      let target_known : ends.target.0 < C.objects = span.category.targets a ends there in
      let sources = (classes ends.source.0 source_known).numbered in
      let targets = (classes ends.target.0 target_known).numbered in
      let left_names_long : length left.names ≡ C.objects = left_shape.names in
      let right_names_long : length right.names ≡ C.objects = right_shape.names in
      let left_arrows_long : length left.arrows ≡ length C.arrows = left_shape.arrows in
      let right_arrows_long : length right.arrows ≡ length C.arrows = right_shape.arrows in
      let left_long : length (list_at left.arrows a) ≡ length (list_at left.names ends.source.0) = row_whole C left a ends left_checked.shape there in
      let right_long : length (list_at right.arrows a) ≡ length (list_at right.names ends.source.0) = row_whole C right a ends right_checked.shape there in
      let first_parts : List ℕ = list_at firsts ends.source.0 in
      let place : ℕ → ℕ = value_place (list_at left.arrows a) (list_at right.arrows a) (list_at left.names ends.target.0) (list_at right.names ends.target.0) in
      record {
        left_row = omega arith;
        right_row = omega arith;
        left_names = omega arith;
        right_names = omega arith;
        numbered = omega arith;
        begun = omega arith;
        left_ascend = names_ascend left ends.target.0 left_checked.names;
        right_ascend = names_ascend right ends.target.0 right_checked.names;
        few = span.few ends.target.0 target_known;
        parts = All-from_get_or (λ e. e < length (list_at left.arrows a) + length (list_at right.arrows a)) first_parts 0
            (λ w within.
            let below : get_or first_parts w 0 < part_count left right ends.source.0 = sources.below w within in
            rw (left_long, right_long) below);
        places = All-from_get_or (λ e. place e < length (list_at numbers ends.target.0)) first_parts 0
            (λ w within.
            let count : length (list_at numbers ends.target.0) ≡ part_count left right ends.target.0 = targets.each in
            rw count (value_within a ends (get_or first_parts w 0) there (sources.below w within)));
      }
