-- The classes of a span are its pushout.
use Rattle.std.proofs.Common.{◌≡◌, ◌∙◌, ◌++◌, ◌^◌, ℕ, ◌<◌, ◌≤◌, List, [], length, take, drop, Err, None, slice_index, refl, ap, sym, subst, arith}
use Rattle.std.specs.List.{range_with_len}
use Rattle.std.proofs.lemmas.List.{length-map, get_or-map, length-take-le, take-append-drop}
use Rattle.rw_schema.specs.RowLists.{RowLists, list_at}
use Rattle.rw_schema.specs.Signature.{Signature}
use Rattle.rw_schema.proofs.Lists.{list_at_map, length_map_in}
use Rattle.rw_spec.specs.Cocone.{Frame, IsInitialCocone}
use Rattle.rw_spec.specs.Homomorphism.{map_of}
use Rattle.rw_spec.specs.Instance.{Instance, IsInstance, instance_of}
use Rattle.rw_table.specs.TableFaults.{table_fault}
use Rattle.rw_table.proofs.Checked.{checked_known, shape_known, names_apart}
use Rattle.rw_table.proofs.TableInstance.{table_instance}
use Rattle.rw_universal.proofs.Gluing.{pushout_from_gluing}
use Rattle.rw_classes.specs.Classes.{AreClasses}
use Rattle.rw_limits.specs.inner.ClassTables.{class_table, merged_cells, IsFaultOf, CanAssemble}
use Rattle.rw_classes.specs.Clashes.{both_cells, MergesEach, IsFirstOf, FirstOf}
use Rattle.rw_classes.specs.Merging.{cell_at}
use Rattle.rw_limits.specs.Pushouts.{IsPushoutOf, PushesOut}
use Rattle.rw_classes.specs.FirstClash.{AreClassesOf}
use Rattle.rw_classes.specs.Places.{count_at, joined_at, cell_of}
use Rattle.rw_limits.specs.Spans.{AreClassCells}
use Rattle.rw_limits.specs.inner.Spans.{span_frame, IsSpan, left_classes, right_classes, AreClassLists}
use Rattle.rw_classes.specs.ClassLists.{AreClassesBy, number_lists, first_lists}
use Rattle.rw_classes.specs.declared.clashes.ClashAt.{ClashAt}
use Rattle.rw_classes.specs.declared.classes.Classes.{Classes}
use Rattle.rw_limits.specs.declared.colimit.GlueFault.{GlueFault}
use Rattle.rw_limits.specs.declared.colimit.GlueFault.TheVariants.{Clash, OutOfMemory}
use Rattle.rw_limits.specs.declared.colimit.PushoutResult.{PushoutResult}
use Rattle.rw_classes.specs.declared.merge.Merged.{Merged}
use Rattle.rw_limits.proofs.ClassInstance.{glued_lists}
use Rattle.rw_classes.proofs.ClassLists.{classes_at_most, classes_few}
use Rattle.rw_limits.proofs.ClassShape.{shape_of_classes, names_of_classes}
use Rattle.rw_classes.proofs.Glue.{gluing_from_classes}
use Rattle.rw_limits.proofs.MergedCells.{cells_of_classes, first_clash_is}
use Rattle.rw_classes.proofs.NoCocone.{no_cocone}
use Rattle.rw_table.proofs.Sound.{sound_from_instance}
use Rattle.rw_limits.proofs.Spans.{classes_of_frame, entry_of_map_in, has_class_values}

-- a span, the classes of what it joins, and cells that merge without a clash
module _ (C : Signature) (apex left right : RowLists) (f g : List (List ℕ)) (span : IsSpan C apex left right f g)
    (classes : List Classes) (merged : List Merged) (long : length classes ≡ C.objects)
    (divided : AreClassesBy C.objects left right f g (number_lists classes) (first_lists classes))
    (merged_long : length merged ≡ length C.attributes) (merges : MergesEach left right (number_lists classes) (first_lists classes) C.attributes merged)
    (no_clash : FirstOf (length C.attributes) C.attributes merged None)
  where
    numbers_long : length (number_lists classes) ≡ C.objects
    numbers_long = length-map classes (λ (each : Classes). each.numbers.items) ∙ long

    firsts_long : length (first_lists classes) ≡ C.objects
    firsts_long = length-map classes (λ (each : Classes). each.firsts.items) ∙ long

    -- the classes are those of what the frame joins
    framed : AreClassesOf C (span_frame C apex left right f g) (number_lists classes) (first_lists classes)
    framed = classes_of_frame C apex left right f g span (number_lists classes) (first_lists classes) divided

    -- the lists are those of the classes
    lists : AreClassLists C (span_frame C apex left right f g) left right (number_lists classes) (first_lists classes)
        (class_table C left right (number_lists classes) (first_lists classes) merged)
    lists = record {
      names = refl;
      next = refl;
      arrows = refl;
      cell_lists = length_map_in (λ c each. merged_cells (both_cells left right c) each) 0 merged ∙ merged_long;
      cells = cells_of_classes C apex left right f g span (number_lists classes) (first_lists classes) numbers_long firsts_long framed merged merged_long merges no_clash;
    }

    -- they stand for the pushout
    initial : IsInitialCocone C (span_frame C apex left right f g) (instance_of C (class_table C left right (number_lists classes) (first_lists classes) merged))
        (map_of (instance_of C left) (left_classes left (number_lists classes))) (map_of (instance_of C right) (right_classes left (number_lists classes)))
    initial =
        let F : Frame = span_frame C apex left right f g in
        let H : Instance = instance_of C (class_table C left right (number_lists classes) (first_lists classes) merged) in
        let l = map_of (instance_of C left) (left_classes left (number_lists classes)) in
        let r = map_of (instance_of C right) (right_classes left (number_lists classes)) in
        let left_instance : IsInstance C (instance_of C left) = table_instance C left span.left_sound in
        let right_instance : IsInstance C (instance_of C right) = table_instance C right span.right_sound in
        let apex_instance : IsInstance C (instance_of C apex) = table_instance C apex span.apex_sound in
        pushout_from_gluing C span.category F left_instance right_instance H l r
        (gluing_from_classes C span.category F left_instance right_instance apex_instance span.to_left.homomorphism.natural span.to_right.homomorphism.natural
        (λ object known. names_apart C left object span.left_sound) (λ object known. names_apart C right object span.right_sound) H l r
        (list_at (number_lists classes)) (list_at (first_lists classes))
        (glued_lists C apex left right f g span (number_lists classes) (first_lists classes) numbers_long firsts_long framed
        (class_table C left right (number_lists classes) (first_lists classes) merged) lists))

    -- the number of left parts of an object is at most that of all
    left_count : (object : ℕ) → object < C.objects → length (list_at left.names object) ≤ length (list_at (number_lists classes) object)
    left_count object known =
        let count : length (list_at (number_lists classes) object) ≡ count_at (span_frame C apex left right f g) object = (framed object known).numbered.each in
        omega arith

    -- they have no fault
    sound : table_fault C (class_table C left right (number_lists classes) (first_lists classes) merged) ≡ None
    sound =
        let rows : RowLists = class_table C left right (number_lists classes) (first_lists classes) merged in
        sound_from_instance C rows span.category
        (shape_of_classes C span.category (span_frame C apex left right f g) left right (number_lists classes) (first_lists classes) firsts_long rows lists)
        (names_of_classes C span.category (span_frame C apex left right f g) left right (number_lists classes) (first_lists classes) firsts_long rows lists)
        initial.cocone.instance

    -- the lists of the classes can be made, and are an instance
    pub can_assemble : C.objects ≤ 64 → length C.attributes ≤ 256 → CanAssemble C left right classes merged
    can_assemble few_objects few_attributes =
        let left_shape = shape_known C left (checked_known C left span.left_sound).shape in
        let right_shape = shape_known C right (checked_known C right span.right_sound).shape in
        let left_names : length left.names ≡ C.objects = left_shape.names in
        let left_cells : length left.cells ≡ length C.attributes = left_shape.cells in
        let right_cells : length right.cells ≡ length C.attributes = right_shape.cells in
        record {
          objects = omega arith;
          left_names = omega arith;
          few = classes_few (2 ^ 32) classes (λ object within.
              let known : object < C.objects = omega arith in
              let most = classes_at_most (count_at (span_frame C apex left right f g) object) (list_at (number_lists classes) object) (list_at (first_lists classes) object) (framed object known).numbered in
              let few = span.few object known in
              omega arith);
          counts = λ object within. left_count object (omega arith);
          values = has_class_values C apex left right f g span (number_lists classes) (first_lists classes) numbers_long firsts_long divided;
          attributes = omega arith;
          left_cells = omega arith;
          right_cells = omega arith;
          sound = sound;
        }

    -- what is made of them is the pushout
    pub pushout_is : (result : PushoutResult)
        → result.table ≡ record { signature = C; rows = class_table C left right (number_lists classes) (first_lists classes) merged }
        → result.left ≡ left_classes left (number_lists classes) → result.right ≡ right_classes left (number_lists classes)
        → IsPushoutOf C (span_frame C apex left right f g) result
    pushout_is result table_is left_is right_is = record {
      signature = ap (λ table. table.signature) table_is;
      sound = rw table_is sound;
      left = ap length left_is ∙ length_map_in (λ object each. take (length (list_at left.names object)) each) 0 (number_lists classes) ∙ numbers_long;
      right = ap length right_is ∙ length_map_in (λ object each. drop (length (list_at left.names object)) each) 0 (number_lists classes) ∙ numbers_long;
      glued = λ object known.
          let F : Frame = span_frame C apex left right f g in
          let numbers : List ℕ = list_at (number_lists classes) object in
          let firsts : List ℕ = list_at (first_lists classes) object in
          let count : ℕ = length (list_at left.names object) in
          let in_numbers : object < length (number_lists classes) = rw numbers_long known in
          let in_firsts : object < length (first_lists classes) = rw firsts_long known in
          let left_here : list_at result.left object ≡ take count numbers =
          ap (λ all. list_at all object) left_is ∙ entry_of_map_in (λ object each. take (length (list_at left.names object)) each) (number_lists classes) object [] [] in_numbers in
          let right_here : list_at result.right object ≡ drop count numbers =
          ap (λ all. list_at all object) right_is ∙ entry_of_map_in (λ object each. drop (length (list_at left.names object)) each) (number_lists classes) object [] [] in_numbers in
          let whole : numbers ≡ list_at result.left object ++ list_at result.right object = rw (left_here, right_here) (sym (take-append-drop count numbers)) in
          record {
            firsts = firsts;
            left = ap length left_here ∙ length-take-le count numbers (left_count object known);
            classes = subst (λ all. AreClasses (count_at F object) (joined_at F object) all firsts) whole (framed object known);
            names = ap (λ table. list_at table.rows.names object) table_is ∙ list_at_map (λ each. range_with_len 0 (length each)) (first_lists classes) object [] in_firsts;
            next = ap (λ table. slice_index table.rows.next object) table_is ∙ get_or-map length (first_lists classes) object [] 0 in_firsts;
            cells = λ c ends there holder.
                subst (λ all. AreClassCells (count_at F object) all firsts (cell_of F object c) (list_at result.table.rows.cells c)) whole
                (subst (λ table. AreClassCells (count_at F object) numbers firsts (cell_of F object c) (list_at table.rows.cells c)) (sym table_is)
                (subst (λ (holder : ℕ). AreClassCells (count_at F holder) (list_at (number_lists classes) holder) (list_at (first_lists classes) holder) (cell_of F holder c) (list_at (class_table C left right (number_lists classes) (first_lists classes) merged).cells c))
                holder (lists.cells c ends there)));
          };
      universal = rw (table_is, left_is, right_is) initial;
    }

-- a span, the classes of what it joins, and cells that merge with a clash
module _ (C : Signature) (apex left right : RowLists) (f g : List (List ℕ)) (span : IsSpan C apex left right f g)
    (classes : List Classes) (merged : List Merged) (long : length classes ≡ C.objects)
    (divided : AreClassesBy C.objects left right f g (number_lists classes) (first_lists classes))
    (merged_long : length merged ≡ length C.attributes) (merges : MergesEach left right (number_lists classes) (first_lists classes) C.attributes merged)
    (clash : ClashAt) (first : IsFirstOf (length C.attributes) C.attributes merged clash)
  where
    -- the fault tells of the first clash, and there is no cocone
    pub clash_pushes : (fault : GlueFault) → IsFaultOf clash (cell_at (both_cells left right clash.attr.0)) fault → PushesOut C (span_frame C apex left right f g) (Err fault)
    clash_pushes OutOfMemory tells = tt
    clash_pushes (Clash object part attr a b) (object_is, part_is, attr_is, first_atom, second_atom) =
        let F : Frame = span_frame C apex left right f g in
        let numbers : List (List ℕ) = number_lists classes in
        let firsts : List (List ℕ) = first_lists classes in
        let framed : AreClassesOf C F numbers firsts = classes_of_frame C apex left right f g span numbers firsts divided in
        let first_clash = first_clash_is C apex left right f g span numbers firsts (length-map classes (λ (each : Classes). each.numbers.items) ∙ long)
        (length-map classes (λ (each : Classes). each.firsts.items) ∙ long) framed merged clash a b merged_long merges first first_atom second_atom in
        let known : clash.object.0 < C.objects = subst (λ (object : ℕ). object < C.objects) first_clash.holder (span.category.holders clash.attr.0 first_clash.ends first_clash.there) in (
          (numbers, firsts, framed, rw (object_is, part_is, attr_is) first_clash),
          no_cocone C F clash.object.0 clash.attr.0 clash.difference.class (list_at numbers clash.object.0) (list_at firsts clash.object.0) a b first_clash.ends known first_clash.there
              first_clash.holder span.to_left.homomorphism.natural span.to_right.homomorphism.natural (framed clash.object.0 known) first_clash.clash,
        )
