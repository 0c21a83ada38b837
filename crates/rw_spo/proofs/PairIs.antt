-- The lists of what stays are those of the largest fitting pair.
use Rattle.std.proofs.Common.{◌≡◌, ◌∙◌, ◌&&◌, ◌||◌, ◌<◌, ℕ, Bool, true, false, not, cond, filter, map, List, [], length, Option, Some, None, Contains, slice_get, is_none, refl, sym, ap, subst, zero-add}
use Rattle.std.specs.List.{range_with_len}
use Rattle.std.proofs.lemmas.List.FromFn.{get_or-map-range_with_len, length-map-range_with_len}
use Rattle.rw_schema.specs.declared.signature.AttrEnds.{AttrEnds}
use Rattle.rw_schema.specs.First.{map_in}
use Rattle.rw_schema.specs.RowLists.{list_at}
use Rattle.rw_schema.specs.Signature.{Signature, holder_of}
use Rattle.rw_schema.proofs.Lists.{get_or_map_in, length_map_in}
use Rattle.rw_spec.specs.Instance.{Instance, Has}
use Rattle.rw_spec.proofs.Sequences.{filter_same}
use Rattle.rw_spec.proofs.Signatures.{holder_is}
use Rattle.rw_partial.specs.SubInstance.{Elements}
use Rattle.rw_partial.specs.SinglePushout.{IsLargestPair}
use Rattle.rw_rule.specs.Images.{parts_of}
use Rattle.rw_rule.specs.RuleLists.{RuleLists}
use Rattle.rw_delta.specs.ContextLists.{ContextLists}
use Rattle.rw_dpo.specs.inner.Site.{IsSite}
use Rattle.rw_spo.specs.PairContexts.{AreSamePair, IsOnlyPair, IsPairContext, applied, host_elements, right_elements}
use Rattle.rw_spo.specs.declared.element.Element.{Element}
use Rattle.rw_spo.specs.inner.Removal.{IsSettled, cell_at, part_at}
use Rattle.rw_spo.specs.inner.Removed.{goes}
use Rattle.rw_spo.specs.inner.Staying.{AreStaying, goes_alone, marks_staying, names_alone, names_staying, stays_in, stays_right}
use Rattle.rw_spo.proofs.PairLists.{lists_stand, map_same, only_pair, same_largest, same_lists}
use Rattle.rw_spo.proofs.Reasons.{is_applied}
use Rattle.rw_spo.proofs.Settled.{largest_stays}

-- a part goes alone where it goes
part_goes : (out : Bool) → (out && true) ≡ not (not out)
part_goes true = refl
part_goes false = refl

-- a cell goes alone where it goes and its part stays
cell_goes : (out cut : Bool) → (cut && not out) ≡ (not out && not (not out && not cut))
cell_goes true true = refl
cell_goes true false = refl
cell_goes false true = refl
cell_goes false false = refl

-- a part stays with itself
both_stay : (out : Bool) → (not out && not out) ≡ not out
both_stay true = refl
both_stay false = refl

module _ (C : Signature) (rule : RuleLists) (tuple : List ℕ) (X : Instance) (site : IsSite C rule tuple X) (elements : List Element)
    (given : List ℕ) (context : ContextLists) (lists : AreStaying C rule tuple X elements given context) where
  abbrev D : Elements
  D = stays_in C false elements

  abbrev R : Elements
  R = stays_in C true elements

  -- the list of an object
  at_object : {A : Type 0} (f : ℕ → List A) (made : List (List A)) (object : ℕ) → made ≡ map f (range_with_len 0 C.objects) → object < C.objects → list_at made object ≡ f object
  at_object f made object is known = ap (λ lists. list_at lists object) is ∙ get_or-map-range_with_len f 0 C.objects object object [] known (zero-add object)

  -- the list of an attribute
  at_attribute : {A : Type 0} (f : ℕ → AttrEnds → List A) (made : List (List A)) (c : ℕ) (ends : AttrEnds) → made ≡ map_in f 0 C.attributes → slice_get C.attributes c ≡ Some ends
      → list_at made c ≡ f c ends
  at_attribute f made c ends is there = ap (λ lists. list_at lists c) is ∙ get_or_map_in f 0 C.attributes c ends [] there ∙ ap (λ (n : ℕ). f n ends) (zero-add c)

  -- the lists are those of what stays
  pub staying_pair : IsPairContext C rule tuple X (stays_in C false elements) (stays_in C true elements) given context
  staying_pair = record {
    lists = record {
      of_keep = ap length lists.of_keep ∙ length-map-range_with_len (names_staying elements rule tuple) 0 C.objects;
      removed = ap length lists.removed ∙ length-map-range_with_len (names_alone elements X None) 0 C.objects;
      blank = ap length lists.blank ∙ length_map_in (λ c (ends : AttrEnds). names_alone elements X (Some c) ends.object.0) 0 C.attributes;
      right = ap length lists.right ∙ length-map-range_with_len (marks_staying elements rule.right None) 0 C.objects;
      right_cells = ap length lists.right_cells ∙ length_map_in (λ c (ends : AttrEnds). marks_staying elements rule.right (Some c) ends.object.0) 0 C.attributes;
    };
    of_keep = λ object known. at_object (names_staying elements rule tuple) context.of_keep object lists.of_keep known;
    removed = λ object known. at_object (names_alone elements X None) context.removed object lists.removed known
        ∙ filter_same (goes_alone elements None object) (λ x. not (D.part object x)) (X.names object) (λ x has. part_goes (goes elements (part_at false object x)));
    copies = lists.copies;
    blank = λ c ends there.
        let object : ℕ = ends.object.0 in
        at_attribute (λ c (ends : AttrEnds). names_alone elements X (Some c) ends.object.0) context.blank c ends lists.blank there
        ∙ filter_same (goes_alone elements (Some c) object) (λ x. D.part object x && not (D.cell c x)) (X.names object) (λ x has.
        cell_goes (goes elements (part_at false object x)) (goes elements (cell_at false c object x))
        ∙ ap (λ (o : ℕ). not (goes elements (part_at false object x)) && not (not (goes elements (part_at false o x)) && not (goes elements (cell_at false c o x))))
        (sym (holder_is C c ends there)));
    right = λ object known. at_object (marks_staying elements rule.right None) context.right object lists.right known
        ∙ map_same (stays_right elements None object) (R.part object) (parts_of rule.right object) (λ y has. both_stay (goes elements (part_at true object y)));
    right_cells = λ c ends there.
        let object : ℕ = ends.object.0 in
        at_attribute (λ c (ends : AttrEnds). marks_staying elements rule.right (Some c) ends.object.0) context.right_cells c ends lists.right_cells there
        ∙ map_same (stays_right elements (Some c) object) (R.cell c) (parts_of rule.right object) (λ y has.
        ap (λ (o : ℕ). not (goes elements (part_at true o y)) && not (goes elements (cell_at true c o y))) (sym (holder_is C c ends there)));
    rows = lists.rows;
    next = lists.next;
  }

  -- so the lists stand for the largest fitting pair, the only one
  pub pair_is : IsSettled C rule tuple (applied rule tuple X) elements
      → IsPairContext C rule tuple X (host_elements C context) (right_elements context) given context
      × IsLargestPair C (applied rule tuple X) (host_elements C context) (right_elements context)
      × IsOnlyPair C (applied rule tuple X) (host_elements C context) (right_elements context)
  pair_is settled =
      let S = applied rule tuple X in
      let largest : IsLargestPair C S D R = largest_stays C rule tuple X site elements settled in
      let same : AreSamePair C S D R (host_elements C context) (right_elements context) = lists_stand C rule tuple X site given context D R largest.fits staying_pair in
      let is : IsLargestPair C S (host_elements C context) (right_elements context) =
      same_largest C site.category S (is_applied C rule tuple X site) D R (host_elements C context) (right_elements context) same largest in (
        same_lists C rule tuple X site given context D R (host_elements C context) (right_elements context) same staying_pair,
        is,
        only_pair C S (host_elements C context) (right_elements context) is,
      )
