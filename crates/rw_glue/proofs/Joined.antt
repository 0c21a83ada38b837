-- What the lists of the two sides are in the frame of the step.
use Rattle.std.proofs.Common.{zero-add, ◌≡◌, ◌∙◌, ◌<◌, ◌+◌, ℕ, not, List, [], ◌++◌, Option, Some, Contains, length, map, slice_get, sym, ap, subst}
use Rattle.std.specs.List.{range_with_len}
use Rattle.std.proofs.lemmas.Option.{slice_get_within}
use Rattle.std.proofs.lemmas.List.{length-map}
use Rattle.std.proofs.lemmas.List.FromFn.{get_or-map-range_with_len, length-map-range_with_len}
use Rattle.rw_schema.specs.declared.atom.Atom.{Atom}
use Rattle.rw_schema.specs.declared.signature.AttrEnds.{AttrEnds}
use Rattle.rw_schema.specs.RowLists.{RowLists, list_at}
use Rattle.rw_schema.specs.Signature.{Signature, IsCategory, holder_of}
use Rattle.rw_schema.proofs.Lists.{list_at_map}
use Rattle.rw_spec.specs.Cocone.{Frame}
use Rattle.rw_spec.specs.Instance.{Instance, Has, IsInstance}
use Rattle.rw_spec.specs.Natural.{IsNatural}
use Rattle.rw_spec.specs.Redex.{Redex}
use Rattle.rw_spec.proofs.Ranges.{range_ascends}
use Rattle.rw_spec.proofs.Sequences.{contained_in_map, contained_in_filter, contains_map}
use Rattle.rw_spec.proofs.Signatures.{holder_is}
use Rattle.rw_terms.specs.declared.code.OpCode.{OpCode}
use Rattle.rw_pattern.specs.MapFaults.{image_of}
use Rattle.rw_pattern.specs.PatternLists.{size_of}
use Rattle.rw_rule.specs.Images.{parts_of}
use Rattle.rw_rule.specs.RuleLists.{RuleLists}
use Rattle.rw_rule.specs.Sets.{is_on_cell}
use Rattle.rw_classes.specs.ClassLists.{AreClassesBy, joined, joined_by}
use Rattle.rw_classes.specs.Classes.{AreClasses}
use Rattle.rw_classes.specs.Clashes.{both_cells}
use Rattle.rw_classes.specs.Merging.{cell_at}
use Rattle.rw_classes.specs.Places.{cell_of, count_at, joined_at, spot}
use Rattle.rw_complement.specs.Complement.{IsContext}
use Rattle.rw_complement.specs.Context.{context_map, context_of, is_removed}
use Rattle.rw_complement.specs.Redex.{IsRedex}
use Rattle.rw_complement.proofs.Least.{context_is_least}
use Rattle.rw_delta.specs.ContextLists.{ContextLists}
use Rattle.rw_dpo.specs.Contexts.{kept_names}
use Rattle.rw_dpo.proofs.ContextSame.{lists_are_context}
use Rattle.rw_redex.specs.Instantiated.{redex_of}
use Rattle.rw_redex.specs.SetValues.{set_value}
use Rattle.rw_redex.specs.Verdicts.{step_frame}
use Rattle.rw_redex.proofs.Gluing.{can_be_glued_at}
use Rattle.rw_redex.proofs.Instantiated.{redex_is}
use Rattle.rw_redex.proofs.Right.{keep_to_right}
use Rattle.rw_redex.proofs.RuleKnown.{IsKnown}
use Rattle.rw_redex.proofs.RuleParts.{object_known}
use Rattle.rw_redex.proofs.SetKinds.{IsMet, met_by_match}
use Rattle.rw_local.specs.inner.Local.{AreLocal, narrow}
use Rattle.rw_glue.specs.Given.{AreValues, CanGlue}
use Rattle.rw_glue.specs.inner.Sides.{AreSides, held_cell, set_atom}
use Rattle.rw_glue.proofs.Listed.{cells_either, either_same, paired, unwrapped, value_found}

module _ (C : Signature) (category : IsCategory C) (codes : List OpCode) (rule : RuleLists) (tuple : List ℕ) (X : Instance) (context : ContextLists) (values : List Atom)
    (kept : List (List ℕ)) (left right : RowLists) (host : IsInstance C X) (ops : ℕ) (known : IsKnown C ops rule) (can : CanGlue C rule tuple X context)
    (sides : AreSides C X rule values context kept left right)
  where
    -- the redex, and the frame
    abbrev pub R : Redex
    R = redex_of rule tuple X

    abbrev pub F : Frame
    F = step_frame C codes rule tuple X

    -- the touched names of an object
    abbrev pub touched : ℕ → List ℕ
    touched object = list_at left.names object

    pub met : IsMet C rule tuple X
    met = met_by_match C rule tuple X category host known.span.parts.goal.left can.matched

    pub redex : IsRedex C R
    redex = redex_is C category rule known.span can.split tuple X host met.natural

    pub least : IsContext C R (context_of C R) (context_map R)
    least = context_is_least C category R redex (can_be_glued_at C category rule known.span tuple X can.apart can.undangling)

    pub to_left : IsNatural C R.keep (context_of C R) (context_map R)
    to_left = least.complement.from_keep.natural

    pub to_right : IsNatural C R.keep F.right (image_of rule.r)
    to_right = keep_to_right C codes rule tuple X ops known

    -- there is a list of names for each object
    pub kept_long : length kept ≡ C.objects
    kept_long =
        sym (length-map kept (map (λ name. Some name))) ∙ ap length sides.images ∙ ap length can.is_context.of_keep
        ∙ length-map-range_with_len (kept_names rule tuple) 0 C.objects

    -- the names of the kept parts of an object
    pub kept_at : (object : ℕ) → object < C.objects → list_at kept object ≡ map (context_map R object) (parts_of rule.keep object)
    kept_at object within =
        let wrapped : list_at (map (map (λ name. Some name)) kept) object ≡ map (λ name. Some name) (list_at kept object) =
        list_at_map (map (λ name. Some name)) kept object [] (rw kept_long within) in
        let there : list_at context.of_keep object ≡ kept_names rule tuple object =
        ap (λ lists. list_at lists object) can.is_context.of_keep ∙ get_or-map-range_with_len (kept_names rule tuple) 0 C.objects object object [] within (zero-add object) in
        unwrapped (list_at kept object) (parts_of rule.keep object) (context_map R object)
        (sym wrapped ∙ ap (λ lists. list_at lists object) sides.images ∙ there)

    -- a touched name is that of a kept part
    pub touched_from : (object x : ℕ) → object < C.objects → Contains (touched object) x → (z : ℕ) × Has F.apex object z × (context_map R object z ≡ x)
    touched_from object x within there =
        contained_in_map (context_map R object) (parts_of rule.keep object) x
        (subst (λ (names : List ℕ). Contains names x) (kept_at object within) (((sides.touched.each object within).members x).0 there))

    -- and a name of the context
    pub touched_left : (object x : ℕ) → object < C.objects → Contains (touched object) x → Has F.left object x
    touched_left object x within there =
        let from = touched_from object x within there in
        subst (Has F.left object) from.2 (to_left.parts object from.0 within from.1)

    -- the parts of an object on the right side
    pub right_at_object : (object : ℕ) → object < C.objects → list_at right.names object ≡ F.right.names object
    right_at_object object within =
        ap (λ lists. list_at lists object) sides.parts ∙ list_at_map (range_with_len 0) rule.right.sizes object 0 (object_known C rule object known.span within).right

    -- what the images join is what the apex joins
    pub joined_is : (object : ℕ) → object < C.objects → joined_by left right kept rule.r object ≡ joined_at (narrow F touched) object
    joined_is object within =
        ap (λ (names : List ℕ). joined (touched object) names (list_at kept object) (list_at rule.r object)) (right_at_object object within)
        ∙ ap (λ (images : List ℕ). joined (touched object) (F.right.names object) images (list_at rule.r object)) (kept_at object within)
        ∙ paired (context_map R object) (list_at rule.r object) (spot (touched object)) (λ y. length (touched object) + spot (F.right.names object) y) 0 (size_of rule.keep object)

    -- the name of a kept part is touched
    pub under_there : (object z : ℕ) → object < C.objects → Has F.apex object z → Contains (touched object) (context_map R object z)
    under_there object z within has =
        ((sides.touched.each object within).members (context_map R object z)).1
        (subst (λ (names : List ℕ). Contains names (context_map R object z)) (sym (kept_at object within))
        (contains_map (context_map R object) (parts_of rule.keep object) z has))

    -- the classes of the lists are local to the step
    pub local : (numbers firsts : List (List ℕ)) → AreClassesBy C.objects left right kept rule.r numbers firsts
        → AreLocal C F context.next touched (list_at numbers) (list_at firsts)
    local numbers firsts classes = record {
      touched_ascends = λ object within. (sides.touched.each object within).ascend;
      right_ascends = λ object within. range_ascends 0 (size_of rule.right object);
      below = λ object x within has. can.below object x within (contained_in_filter (λ w. not (is_removed R object w)) (X.names object) x has).0;
      in_left = touched_left;
      under = under_there;
      classes = λ object within.
          subst (λ (pairs : List (ℕ × ℕ)). AreClasses (count_at (narrow F touched) object) pairs (list_at numbers object) (list_at firsts object)) (joined_is object within)
          (subst (λ (n : ℕ). AreClasses n (joined_by left right kept rule.r object) (list_at numbers object) (list_at firsts object))
          (ap (λ (names : List ℕ). length (touched object) + length names) (right_at_object object within)) (classes object within));
    }

    -- the cells of the lists are those of the frame
    pub cells_are : AreValues codes rule tuple X values → (c : ℕ) (ends : AttrEnds) → slice_get C.attributes c ≡ Some ends
        → (e : ℕ) → e < count_at (narrow F touched) ends.object.0 → cell_at (both_cells left right c) e ≡ cell_of (narrow F touched) ends.object.0 c e
    cells_are are c ends there e within =
        let object : ℕ = ends.object.0 in
        let object_known : object < C.objects = category.holders c ends there in
        let attribute_known : c < length C.attributes = slice_get_within C.attributes c ends there in
        let holder : holder_of C c ≡ object = holder_is C c ends there in
        let held : ℕ → Option Atom = held_cell X (list_at context.blank c) c in
        let set : ℕ → Option Atom = set_atom values rule.sets c in
        let left_list : list_at left.cells c ≡ map held (touched object) =
        sides.held.each c attribute_known ∙ ap (λ (o : ℕ). map held (touched o)) holder in
        let right_list : list_at right.cells c ≡ map set (F.right.names object) =
        sides.set.each c attribute_known ∙ ap (λ (o : ℕ). map set (range_with_len 0 (size_of rule.right o))) holder in
        let same = lists_are_context C category rule tuple X context.next context can.is_context in
        ap (λ (cells : List (Option Atom)). cell_at (cells ++ list_at right.cells c) e) left_list
        ∙ ap (λ (cells : List (Option Atom)). cell_at (map held (touched object) ++ cells) e) right_list
        ∙ cells_either (touched object) (F.right.names object) held set e within
        ∙ either_same (touched object) (F.right.names object) held (F.left.cell c) set (F.right.cell c) e within
        (λ x there'. sym (same.cells c ends x there (touched_left object x object_known there')))
        (λ y has. value_found (set_value codes rule tuple X) (is_on_cell c y) rule.sets values are)
