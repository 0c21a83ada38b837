-- What is known of the two sides, their classes and the names of these is enough for each part of the work.
use Rattle.std.proofs.Common.{◌≡◌, ◌∙◌, ◌==◌, ◌<◌, ◌≤◌, ◌+◌, ◌^◌, ℕ, true, not, List, [], All, Contains, Some, drop, length, slice_get, slice_index, sym, ap, subst, arith, length-drop}
use Rattle.std.specs.List.{range_with_len}
use Rattle.std.proofs.lemmas.Option.{slice_get_within}
use Rattle.std.proofs.lemmas.List.{get_or_default, length-map}
use Rattle.std.proofs.lemmas.List.Elements.{All-contains_itself, All-weaker, Contains-get_or}
use Rattle.std.proofs.lemmas.List.FromFn.{length-map-range_with_len, length-range_with_len}
use Rattle.rw_schema.specs.declared.atom.Atom.{Atom}
use Rattle.rw_schema.specs.declared.signature.ArrowEnds.{ArrowEnds}
use Rattle.rw_schema.specs.declared.signature.AttrEnds.{AttrEnds}
use Rattle.rw_schema.specs.RowLists.{RowLists, list_at}
use Rattle.rw_schema.specs.Signature.{Signature, holder_of}
use Rattle.rw_spec.specs.Ascending.{ascends}
use Rattle.rw_spec.specs.Cocone.{Frame}
use Rattle.rw_spec.specs.Instance.{Instance, Has}
use Rattle.rw_spec.proofs.Ascending.{ascends_distinct, ascends_few}
use Rattle.rw_spec.proofs.Ranges.{range_ascends}
use Rattle.rw_spec.proofs.Sequences.{contained_in_filter, contained_in_map}
use Rattle.rw_spec.proofs.Signatures.{holder_is}
use Rattle.rw_pattern.specs.PatternLists.{size_of}
use Rattle.rw_pattern.proofs.Maps.{images_long, lists_long}
use Rattle.rw_pattern.proofs.PartNames.{part_below}
use Rattle.rw_pattern.proofs.Shapes.{row_long}
use Rattle.rw_rule.specs.Images.{is_image, parts_of}
use Rattle.rw_rule.specs.RuleLists.{RuleLists}
use Rattle.rw_classes.specs.ClassLists.{AreClassesBy, AreJoinable, joined_by, part_count}
use Rattle.rw_classes.specs.Clashes.{CanMerge}
use Rattle.rw_classes.specs.Places.{joined_at, spot}
use Rattle.rw_classes.specs.declared.merge.Merged.{Merged}
use Rattle.rw_classes.proofs.Sides.{spot_at, spot_within}
use Rattle.rw_columns.specs.Changes.{AreDifferences, entry_names}
use Rattle.rw_columns.specs.inner.Filled.{AreAll}
use Rattle.rw_complement.specs.Context.{is_removed}
use Rattle.rw_delta.specs.ContextLists.{ContextLists}
use Rattle.rw_dpo.specs.Contexts.{removed_names}
use Rattle.rw_redex.specs.Instantiated.{redex_of}
use Rattle.rw_redex.specs.NewParts.{new_parts}
use Rattle.rw_redex.specs.Obstructions.{most_names}
use Rattle.rw_redex.specs.RuleParts.{HasObject}
use Rattle.rw_redex.specs.Verdicts.{step_frame}
use Rattle.rw_redex.proofs.Parts.{value_part}
use Rattle.rw_redex.proofs.Room.{room_at}
use Rattle.rw_redex.proofs.RuleKnown.{IsKnown, rule_known}
use Rattle.rw_redex.proofs.RuleMaps.{keep_is, keep_known, right_is, right_shape}
use Rattle.rw_redex.proofs.RuleParts.{object_known}
use Rattle.rw_local.specs.inner.ChangeTo.{other_values}
use Rattle.rw_local.specs.inner.Local.{narrow}
use Rattle.rw_local.proofs.ChangeTo.{number_itself}
use Rattle.rw_local.proofs.Differences.{are_differences}
use Rattle.rw_glue.specs.inner.Changed.{CanAdd, CanChange, CanFollow}
use Rattle.rw_glue.specs.inner.Glued.{IsSite}
use Rattle.rw_glue.specs.inner.Names.{AreClassNames, AreMoved, AreNameable, ArePlaced, HaveNames, name_of_first}
use Rattle.rw_glue.specs.inner.Sides.{AreSides, held_cell, set_atom}
use Rattle.rw_glue.proofs.Joined.{joined_is, kept_at, kept_long, right_at_object, to_right, touched_left, under_there}

module _ (C : Signature) (rule : RuleLists) (tuple : List ℕ) (X : Instance) (context : ContextLists) (values : List Atom) (kept : List (List ℕ)) (left right : RowLists)
    (site : IsSite C rule tuple X context) (sides : AreSides C X rule values context kept left right)
  where
    -- the frame without values, which are not looked at here
    abbrev F : Frame
    F = step_frame C [] rule tuple X

    -- the touched names of an object
    abbrev touched : ℕ → List ℕ
    touched object = list_at left.names object

    -- the rule is over the schema
    known : IsKnown C site.can.operations rule
    known = rule_known C site.can.operations rule site.can.over

    -- the rule has each object
    has_object : (object : ℕ) → object < C.objects → HasObject rule object
    has_object object within = object_known C rule object known.span within

    -- there is room for the names of the new parts
    room : (object : ℕ) → object < C.objects → slice_index context.next object + length (new_parts rule object) ≤ most_names
    room object within = room_at rule context.next object site.room (rw site.can.counted within)

    -- a touched name is one of the host
    in_host : (object x : ℕ) → object < C.objects → Contains (touched object) x → Has X object x
    in_host object x within there =
        (contained_in_filter (λ w. not (is_removed (redex_of rule tuple X) object w)) (X.names object) x
        (touched_left C site.category [] rule tuple X context values kept left right site.host site.can.operations known site.can sides object x within there)).0

    -- there are few touched names
    touched_few : (object : ℕ) → object < C.objects → length (touched object) ≤ most_names
    touched_few object within =
        let few : length (touched object) ≤ slice_index context.next object =
        ascends_few (touched object) (slice_index context.next object) (sides.touched.each object within).ascend
        (λ k below. site.can.below object (slice_index (touched object) k) within (in_host object (slice_index (touched object) k) within (Contains-get_or (touched object) k 0 below))) in
        omega (arith, few, room object within)

    -- the right side has as many names of an object as parts
    right_long : (object : ℕ) → object < C.objects → length (list_at right.names object) ≡ size_of rule.right object
    right_long object within =
        ap length (right_at_object C site.category [] rule tuple X context values kept left right site.host site.can.operations known site.can sides object within)
        ∙ length-range_with_len 0 (size_of rule.right object)

    -- there are few parts of an object on both sides
    count_few : (object : ℕ) → object < C.objects → part_count left right object < 2 ^ 32
    count_few object within = omega (arith, touched_few object within, right_long object within, (has_object object within).few)

    -- the places of two images that are joined are those of parts
    pairs_within : (object : ℕ) → object < C.objects
        → All (λ (pair : ℕ × ℕ). (pair.0 < part_count left right object) × (pair.1 < part_count left right object)) (joined_by left right kept rule.r object)
    pairs_within object within =
        let pairs : List (ℕ × ℕ) = joined_at (narrow F touched) object in
        let among : ℕ × ℕ → Type 0 = λ (pair : ℕ × ℕ). (pair.0 < part_count left right object) × (pair.1 < part_count left right object) in
        let natural = to_right C site.category [] rule tuple X context values kept left right site.host site.can.operations known site.can sides in
        let right_is_long : length (F.right.names object) ≡ size_of rule.right object = length-range_with_len 0 (size_of rule.right object) in
        subst (All among)
        (sym (joined_is C site.category [] rule tuple X context values kept left right site.host site.can.operations known site.can sides object within))
        (All-weaker (Contains pairs) among
        (λ (pair : ℕ × ℕ) there.
        let found = contained_in_map (λ z. (spot (touched object) (F.to_left object z), length (touched object) + spot (F.right.names object) (F.to_right object z))) (F.apex.names object) pair there in
        let z : ℕ = found.0 in
        let under : Contains (touched object) (F.to_left object z) =
        under_there C site.category [] rule tuple X context values kept left right site.host site.can.operations known site.can sides object z within found.1 in
        let first : spot (touched object) (F.to_left object z) < length (touched object) = spot_within (touched object) (F.to_left object z) under in
        let second : spot (F.right.names object) (F.to_right object z) < length (F.right.names object) =
        spot_within (F.right.names object) (F.to_right object z) (natural.parts object z within found.1) in
        let long = right_long object within in
        subst among found.2 (omega (arith, first, second, long, right_is_long), omega (arith, first, second, long, right_is_long)))
        pairs (All-contains_itself pairs))

    -- the images on both sides can be joined
    pub joinable : AreJoinable C.objects left right kept rule.r
    joinable =
        let shape = right_shape C rule known.span in
        let long = lists_long rule.keep rule.r shape in
        let right_lists : length right.names ≡ length rule.right.sizes = ap length sides.parts ∙ length-map rule.right.sizes (range_with_len 0) in
        let kept_lists = kept_long C site.category [] rule tuple X context values kept left right site.host site.can.operations known site.can sides in
        record {
          left_lists = omega (arith, sides.touched.count);
          right_lists = omega (arith, right_lists, (right_is C rule known.span).sizes_long);
          left_images = omega (arith, kept_lists);
          right_images = omega (arith, long, (keep_is C rule known.span).sizes_long);
          left_ascend = λ object within. (sides.touched.each object within).ascend;
          right_ascend = λ object within.
              subst (λ (names : List ℕ). ascends names ≡ true)
              (sym (right_at_object C site.category [] rule tuple X context values kept left right site.host site.can.operations known site.can sides object within))
              (range_ascends 0 (size_of rule.right object));
          paired = λ object within.
              images_long rule.keep rule.r object shape (keep_known C rule object known.span within)
              ∙ sym (ap length (kept_at C site.category [] rule tuple X context values kept left right site.host site.can.operations known site.can sides object within)
              ∙ length-map-range_with_len (F.to_left object) 0 (size_of rule.keep object));
          few = count_few;
          within = pairs_within;
        }

    -- a new part is a part
    new_all : (object n : ℕ) → size_of rule.right object ≤ n → All (λ part. part < n) (new_parts rule object)
    new_all object n most =
        All-weaker (Contains (new_parts rule object)) (λ part. part < n)
        (λ part there.
        let below : part < size_of rule.right object =
        part_below rule.right object part (contained_in_filter (λ part. not (is_image rule.r object part)) (parts_of rule.right object) part there).0 in
        omega (arith, below, most))
        (new_parts rule object) (All-contains_itself (new_parts rule object))

    module _ (numbers firsts : List (List ℕ)) (classes : AreClassesBy C.objects left right kept rule.r numbers firsts)
        (numbers_long : length numbers ≡ C.objects) (firsts_long : length firsts ≡ C.objects)
      where
        -- there are cells for the touched names
        left_cells_long : (c : ℕ) (ends : AttrEnds) → slice_get C.attributes c ≡ Some ends → length (list_at left.cells c) ≡ length (touched ends.object.0)
        left_cells_long c ends there =
            ap length (sides.held.each c (slice_get_within C.attributes c ends there))
            ∙ length-map (touched (holder_of C c)) (held_cell X (list_at context.blank c) c)
            ∙ ap (λ (object : ℕ). length (touched object)) (holder_is C c ends there)

        -- and for the right parts
        right_cells_long : (c : ℕ) (ends : AttrEnds) → slice_get C.attributes c ≡ Some ends → length (list_at right.cells c) ≡ size_of rule.right ends.object.0
        right_cells_long c ends there =
            ap length (sides.set.each c (slice_get_within C.attributes c ends there))
            ∙ length-map-range_with_len (set_atom values rule.sets c) 0 (size_of rule.right (holder_of C c))
            ∙ ap (λ (object : ℕ). size_of rule.right object) (holder_is C c ends there)

        -- each part has a class
        numbers_within : (object : ℕ) → object < C.objects → All (λ class. class < length (list_at firsts object)) (list_at numbers object)
        numbers_within object within k d below =
            let numbered = (classes object within).numbered in
            subst (λ (class : ℕ). class < length (list_at firsts object)) (get_or_default (list_at numbers object) k 0 d below)
            (numbered.within k (subst (λ (n : ℕ). k < n) numbered.each below))

        -- the cells of an attribute can be merged
        pub can_merge : (c : ℕ) (ends : AttrEnds) → slice_get C.attributes c ≡ Some ends → CanMerge left right numbers firsts c ends
        can_merge c ends there =
            let within : ends.object.0 < C.objects = site.category.holders c ends there in
            let attribute : c < length C.attributes = slice_get_within C.attributes c ends there in
            let each = (classes ends.object.0 within).numbered.each in
            record {
              left_cells = rw sides.held.count attribute;
              right_cells = rw sides.set.count attribute;
              numbered = rw numbers_long within;
              begun = rw firsts_long within;
              each = omega (arith, each, left_cells_long c ends there, right_cells_long c ends there, right_long ends.object.0 within);
              within = numbers_within ends.object.0 within;
              few = omega (arith, each, count_few ends.object.0 within);
            }

        -- the classes can be named
        pub nameable : (object : ℕ) → object < C.objects → AreNameable rule context.next left.names firsts object
        nameable object within = record {
          has = has_object object within;
          room = omega (arith, room object within);
          begin = λ k d below.
              let first : slice_index (list_at firsts object) k < part_count left right object = (classes object within).numbered.below k below in
              subst (λ (first : ℕ). first < length (touched object) + size_of rule.right object) (get_or_default (list_at firsts object) k 0 d below)
              (omega (arith, first, right_long object within));
        }

        module _ (names : List (List ℕ)) (named : AreAll [] (AreClassNames rule context.next left.names firsts) C.objects names) where
          -- there is a name for each class
          names_long : (object : ℕ) → object < C.objects → length (list_at names object) ≡ length (list_at firsts object)
          names_long object within =
              ap length (named.each object within)
              ∙ length-map (list_at firsts object) (name_of_first rule (slice_index context.next object) (touched object) object)

          -- so each part has a class with a name
          pub have_names : (object : ℕ) → object < C.objects → HaveNames left.names numbers names object
          have_names object within = record {
            each = omega (arith, (classes object within).numbered.each);
            within = rw (names_long object within) (numbers_within object within);
          }

          module _ (moved : List (List (ℕ × ℕ))) (moves : AreAll [] (AreMoved left.names numbers names) C.objects moved)
              (placed : List (List ℕ)) (places : AreAll [] (ArePlaced left.names numbers names) C.objects placed)
            where
              -- the name of the class of a touched name
              abbrev d : ℕ → ℕ → ℕ
              d object x = slice_index (list_at names object) (slice_index (list_at numbers object) (spot (touched object) x))

              -- those that get another name are those whose class has another
              pub moved_is : (object : ℕ) → object < C.objects → list_at moved object ≡ other_values (λ x. x) (d object) (touched object)
              moved_is object within =
                  moves.each object within (d object)
                  (λ place below.
                  ap (λ (k : ℕ). slice_index (list_at names object) (slice_index (list_at numbers object) k))
                  (spot_at (touched object) place (ascends_distinct (touched object) (sides.touched.each object within).ascend) below))

              -- they ascend, and are touched
              pub moved_differ : (object : ℕ) → object < C.objects → AreDifferences (touched object) (λ x. x) (list_at moved object)
              moved_differ object within =
                  subst (λ (entries : List (ℕ × ℕ)). AreDifferences (touched object) (λ x. x) entries) (sym (moved_is object within))
                  (are_differences (λ one other. one == other) number_itself (λ x. x) (d object) (touched object) (sides.touched.each object within).ascend)

              -- so they are names of the host
              moved_there : (object : ℕ) → object < C.objects → All (Has X object) (entry_names (list_at moved object))
              moved_there object within =
                  All-weaker (Contains (touched object)) (Has X object) (λ x there. in_host object x within there)
                  (entry_names (list_at moved object)) (moved_differ object within).among

              -- each right part has a name
              placed_long : (object : ℕ) → object < C.objects → length (list_at placed object) ≡ size_of rule.right object
              placed_long object within =
                  let behind : List ℕ = drop (length (touched object)) (list_at numbers object) in
                  let long : length (list_at placed object) ≡ length behind =
                  ap length (places.each object within) ∙ length-map behind (slice_index (list_at names object)) in
                  let each = (classes object within).numbered.each in
                  omega (arith, long, length-drop (length (touched object)) (list_at numbers object), each, right_long object within)

              -- each arrow can be followed from the new parts
              can_follow : (a : ℕ) (ends : ArrowEnds) → slice_get C.arrows a ≡ Some ends → CanFollow rule placed a ends
              can_follow a ends there =
                  let pattern = right_is C rule known.span in
                  let source : ends.source.0 < C.objects = site.category.sources a ends there in
                  let target : ends.target.0 < C.objects = site.category.targets a ends there in
                  let row : List ℕ = list_at rule.right.rows a in
                  let long : length row ≡ size_of rule.right ends.source.0 = row_long C rule.right a ends pattern there in
                  record {
                    row = omega (arith, pattern.rows_long, slice_get_within C.arrows a ends there);
                    source = has_object ends.source.0 source;
                    target = omega (arith, places.count, target);
                    parts = new_all ends.source.0 (length row) (omega (arith, long));
                    values = λ k d below.
                        let value : slice_index row k < size_of rule.right ends.target.0 =
                        value_part C rule.right a ends k pattern there (omega (arith, long, below)) in
                        subst (λ (part : ℕ). part < length (list_at placed ends.target.0)) (get_or_default row k 0 d below)
                        (omega (arith, value, placed_long ends.target.0 target));
                  }

              -- what comes can be made
              can_add : CanAdd C rule context.next right placed
              can_add = record {
                counted = site.can.counted;
                lists = places.count;
                placed = λ object within. record {
                  has = has_object object within;
                  each = new_all object (length (list_at placed object)) (omega (arith, placed_long object within));
                };
                room = room;
                rows = can_follow;
                cells = omega (arith, sides.set.count);
                holders = λ c ends there.
                    new_all ends.object.0 (length (list_at right.cells c)) (omega (arith, right_cells_long c ends there));
              }

              -- and so can the change
              pub can_change : (merged : List Merged) → length merged ≡ length C.attributes → CanChange C X rule context left right numbers merged moved placed
              can_change merged each = record {
                add = can_add;
                removed = ap length site.can.is_context.removed ∙ length-map-range_with_len (removed_names rule tuple X) 0 C.objects;
                moved = moves.count;
                each = each;
                left_cells = omega (arith, sides.held.count);
                targets = λ object within. (moved_there object within, (moved_differ object within).ascend);
                holders = λ c ends there.
                    let within : ends.object.0 < C.objects = site.category.holders c ends there in
                    record {
                      touched_there = rw sides.touched.count within;
                      numbers_there = rw numbers_long within;
                      moved_there = rw moves.count within;
                      names = All-weaker (Contains (touched ends.object.0)) (Has X ends.object.0) (λ x there'. in_host ends.object.0 x within there')
                          (touched ends.object.0) (All-contains_itself (touched ends.object.0));
                      ascend = (moved_differ ends.object.0 within).ascend;
                      each = (have_names ends.object.0 within).each;
                    };
              }
