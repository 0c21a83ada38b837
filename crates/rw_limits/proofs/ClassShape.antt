-- The lists of classes have the right shape, and their names have no fault.
use Rattle.std.proofs.Common.{◌≡◌, ◌∙◌, ℕ, ◌+◌, ◌<◌, true, List, [], length, Option, Some, None, slice_get, slice_index, refl, ap, sym, zero-add, arith, eq-eqb}
use Rattle.std.specs.List.{range_with_len}
use Rattle.std.proofs.lemmas.List.{length-map, get_or-map}
use Rattle.std.proofs.lemmas.List.FromFn.{length-range_with_len}
use Rattle.std.proofs.lemmas.Option.{slice_get_within, get_or_from_slice_get}
use Rattle.rw_schema.specs.declared.signature.ArrowEnds.{ArrowEnds}
use Rattle.rw_schema.specs.First.{fault_unless, all_in}
use Rattle.rw_schema.specs.RowLists.{RowLists, list_at}
use Rattle.rw_schema.specs.Signature.{Signature, IsCategory}
use Rattle.rw_schema.proofs.Firsts.{unless_true, none_from}
use Rattle.rw_schema.proofs.Lists.{list_at_map, length_map_in, get_or_map_in}
use Rattle.rw_spec.specs.Cocone.{Frame}
use Rattle.rw_spec.proofs.Sequences.{all_in_from_each}
use Rattle.rw_table.specs.TableFaults.{are_names, has_length, has_cells, has_shape, names_fault}
use Rattle.rw_table.specs.declared.fault.TableFault.{TableFault}
use Rattle.rw_table.specs.declared.fault.TableFault.TheVariants.{Names}
use Rattle.rw_table.proofs.Numbered.{range_named}
use Rattle.rw_limits.specs.inner.Spans.{value_place, class_row_at, class_names, AreClassLists}

-- the lists of classes
module _ (C : Signature) (category : IsCategory C) (F : Frame) (left right : RowLists) (numbers firsts : List (List ℕ)) (firsts_long : length firsts ≡ C.objects)
    (rows : RowLists) (lists : AreClassLists C F left right numbers firsts rows)
  where
    -- an object has as many names as classes
    names_count : (object : ℕ) → object < C.objects → length (list_at rows.names object) ≡ length (list_at firsts object)
    names_count object known =
        ap (λ all. length (list_at all object)) lists.names
        ∙ ap length (list_at_map (λ each. range_with_len 0 (length each)) firsts object [] (omega arith))
        ∙ length-range_with_len 0 (length (list_at firsts object))

    -- the row of an arrow is as long as its source has classes
    row_count : (a : ℕ) (ends : ArrowEnds) → slice_get C.arrows a ≡ Some ends → length (list_at rows.arrows a) ≡ length (list_at firsts ends.source.0)
    row_count a ends there =
        ap (λ all. length (list_at all a)) lists.arrows
        ∙ ap length (get_or_map_in (class_row_at left right numbers firsts) 0 C.arrows a ends [] there)
        ∙ length-map (list_at firsts ends.source.0) (λ e. slice_index (list_at numbers ends.target.0)
        (value_place (list_at left.arrows (0 + a)) (list_at right.arrows (0 + a)) (list_at left.names ends.target.0) (list_at right.names ends.target.0) e))

    -- the lists have the right shape
    pub shape_of_classes : has_shape C rows ≡ true
    shape_of_classes =
        let names_long : length rows.names ≡ C.objects = ap length lists.names ∙ length-map firsts (λ each. range_with_len 0 (length each)) ∙ firsts_long in
        let next_long : length rows.next ≡ C.objects = ap length lists.next ∙ length-map firsts length ∙ firsts_long in
        let arrows_long : length rows.arrows ≡ length C.arrows = ap length lists.arrows ∙ length_map_in (class_row_at left right numbers firsts) 0 C.arrows in
        let whole : all_in (has_length rows) 0 C.arrows ≡ true =
        all_in_from_each (has_length rows) 0 C.arrows (λ a ends there.
        rw (zero-add a) (eq-eqb (length (list_at rows.arrows a)) (length (list_at rows.names ends.source.0))
        (row_count a ends there ∙ sym (names_count ends.source.0 (category.sources a ends there))))) in
        let whole_cells : all_in (has_cells rows) 0 C.attributes ≡ true =
        all_in_from_each (has_cells rows) 0 C.attributes (λ c ends there.
        rw (zero-add c) (eq-eqb (length (list_at rows.cells c)) (length (list_at rows.names ends.object.0))
        ((lists.cells c ends there).each ∙ sym (names_count ends.object.0 (category.holders c ends there))))) in
        rw (
          names_long,
          next_long,
          arrows_long,
          lists.cell_lists,
          whole,
          whole_cells,
          eq-eqb C.objects C.objects refl,
          eq-eqb (length C.arrows) (length C.arrows) refl,
          eq-eqb (length C.attributes) (length C.attributes) refl,
        ) refl

    -- the names have no fault
    pub names_of_classes : names_fault rows ≡ None
    names_of_classes =
        let fault : ℕ → List ℕ → Option TableFault = λ object names. fault_unless (are_names (slice_index rows.next object) names) (Names (record { 0 = object })) in
        none_from fault 0 rows.names (λ object names there.
        let in_names : slice_get (class_names firsts) object ≡ Some names = ap (λ all. slice_get all object) (sym lists.names) ∙ there in
        let within : object < length firsts = rw (length-map firsts (λ each. range_with_len 0 (length each))) at (slice_get_within (class_names firsts) object names in_names) in
        let names_are : range_with_len 0 (length (list_at firsts object)) ≡ names =
        sym (list_at_map (λ each. range_with_len 0 (length each)) firsts object [] within) ∙ get_or_from_slice_get (class_names firsts) object names [] in_names in
        let next_is : slice_index rows.next object ≡ length (list_at firsts object) =
        ap (λ all. slice_index all object) lists.next ∙ get_or-map length firsts object [] 0 within in
        rw (zero-add object)
        (unless_true (are_names (slice_index rows.next object) names) (Names (record { 0 = object }))
        (rw (next_is, ← names_are) (range_named (length (list_at firsts object))))))
