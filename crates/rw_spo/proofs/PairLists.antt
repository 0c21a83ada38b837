-- The lists of a context stand for its elements.
use Rattle.std.proofs.Common.{◌≡◌, ◌∙◌, ◌&&◌, ◌↔◌, ◌<◌, ℕ, Bool, true, false, not, cond, filter, map, List, [], ◌∷◌, length, Option, Some, None, Contains, slice_get, slice_index_or, refl, sym, ap, subst, zero-add}
use Rattle.std.specs.List.{range_with_len}
use Rattle.std.proofs.lemmas.List.FromFn.{get_or-map-range_with_len}
use Rattle.rw_schema.specs.declared.signature.AttrEnds.{AttrEnds}
use Rattle.rw_schema.specs.RowLists.{list_at}
use Rattle.rw_schema.specs.Signature.{Signature, IsCategory, holder_of}
use Rattle.rw_spec.specs.Instance.{Instance, Has}
use Rattle.rw_spec.proofs.Look.{contains_found, found_contained}
use Rattle.rw_spec.proofs.Ranges.{range_below}
use Rattle.rw_spec.proofs.Sequences.{contains_filter, contained_in_filter, contains_here, contains_later, filter_same}
use Rattle.rw_spec.proofs.Signatures.{holder_is}
use Rattle.rw_partial.specs.SubInstance.{Elements, IsInside}
use Rattle.rw_partial.specs.SinglePushout.{Applied, Fits, IsApplied, IsLargestPair}
use Rattle.rw_partial.proofs.Partial.{largest_once, same_test}
use Rattle.rw_pattern.specs.PatternLists.{size_of}
use Rattle.rw_pattern.proofs.PartNames.{has_part, part_below}
use Rattle.rw_rule.specs.Images.{parts_of}
use Rattle.rw_rule.specs.RuleLists.{RuleLists}
use Rattle.rw_delta.specs.ContextLists.{ContextLists, is_in}
use Rattle.rw_dpo.specs.Contexts.{name_of_kept}
use Rattle.rw_dpo.specs.inner.Site.{IsSite}
use Rattle.rw_dpo.proofs.Sites.{kept_there}
use Rattle.rw_spo.specs.PairContexts.{AreSamePair, HasLists, IsOnlyPair, IsPairContext, applied, host_elements, name_among, right_elements}
use Rattle.rw_spo.proofs.Reasons.{is_applied}

-- what passes as the other does
same_there : (a b : Bool) → a ≡ b → a ≡ true → b ≡ true
same_there a b same passes = sym same ∙ passes

-- functions that are one on a list give one list
pub map_same : {A B : Type 0} (f g : A → B) (xs : List A) → ((x : A) → Contains xs x → f x ≡ g x) → map f xs ≡ map g xs
map_same f g [] same = refl
map_same f g (x ∷ xs) same = rw (same x (contains_here x xs), map_same f g xs (λ y there. same y (contains_later x xs y there))) refl

-- a name is in a filtered list as it passes the test
in_filter : (test : ℕ → Bool) (names : List ℕ) (x : ℕ) → Contains names x → is_in (filter test names) x ≡ test x
in_filter test names x has =
    same_test (is_in (filter test names) x) (test x) (λ found. (contained_in_filter test names x (contains_found (filter test names) x found)).1)
    (λ passes. found_contained (filter test names) x (contains_filter test names x has passes))

not_twice : (b : Bool) → not (not b) ≡ b
not_twice true = refl
not_twice false = refl

-- a cell is there where its part is, but not without it
cell_there : (part cell : Bool) → (cell ≡ true → part ≡ true) → (not (not part) && not (part && not cell)) ≡ cell
cell_there true true within = refl
cell_there true false within = refl
cell_there false true within = let no : false ≡ true = within refl in absurd (cc)
cell_there false false within = refl

module _ (C : Signature) (category : IsCategory C) (S : Applied) (applies : IsApplied C S) (D R E Q : Elements) (same : AreSamePair C S D R E Q) where
  -- a pair with the elements of a fitting one fits
  pub same_fits : Fits C S D R → Fits C S E Q
  same_fits fits = record {
    host = record {
      values = λ a ends x there has in_set.
          let to : Has S.host ends.target.0 (S.host.value a x) = applies.host.values a ends x there has in
          same_there (D.part ends.target.0 (S.host.value a x)) (E.part ends.target.0 (S.host.value a x)) (same.0.parts ends.target.0 (S.host.value a x) (category.targets a ends there) to)
          (fits.host.values a ends x there has (same.0.parts ends.source.0 x (category.sources a ends there) has ∙ in_set));
      holders = λ c ends x there has in_set.
          same_there (D.part ends.object.0 x) (E.part ends.object.0 x) (same.0.parts ends.object.0 x (category.holders c ends there) has)
          (fits.host.holders c ends x there has (same.0.cells c ends x there has ∙ in_set));
    };
    right = record {
      values = λ a ends y there has in_set.
          let to : Has S.right ends.target.0 (S.right.value a y) = applies.right.values a ends y there has in
          same_there (R.part ends.target.0 (S.right.value a y)) (Q.part ends.target.0 (S.right.value a y)) (same.1.parts ends.target.0 (S.right.value a y) (category.targets a ends there) to)
          (fits.right.values a ends y there has (same.1.parts ends.source.0 y (category.sources a ends there) has ∙ in_set));
      holders = λ c ends y there has in_set.
          same_there (R.part ends.object.0 y) (Q.part ends.object.0 y) (same.1.parts ends.object.0 y (category.holders c ends there) has)
          (fits.right.holders c ends y there has (same.1.cells c ends y there has ∙ in_set));
    };
    sets = λ c ends y there has in_set given.
        same_there (R.cell c y) (Q.cell c y) (same.1.cells c ends y there has)
        (fits.sets c ends y there has (same.1.parts ends.object.0 y (category.holders c ends there) has ∙ in_set) given);
    parts = λ object x known has.
        let here : D.part object (S.m object x) ≡ E.part object (S.m object x) = same.0.parts object (S.m object x) known (applies.m.parts object x known has) in (
          (λ in_set.
              let kept = (fits.parts object x known has).0 (here ∙ in_set) in
              (kept.0, kept.1, kept.2, same_there (R.part object (S.r object kept.0)) (Q.part object (S.r object kept.0)) (same.1.parts object (S.r object kept.0) known (applies.r.parts object kept.0 known kept.1)) kept.3)),
          (λ kept.
              same_there (D.part object (S.m object x)) (E.part object (S.m object x)) here
              ((fits.parts object x known has).1 (kept.0, kept.1, kept.2, same.1.parts object (S.r object kept.0) known (applies.r.parts object kept.0 known kept.1) ∙ kept.3))),
        );
    cells = λ c ends x there has.
        let object : ℕ = ends.object.0 in
        let known = category.holders c ends there in
        let here : D.cell c (S.m object x) ≡ E.cell c (S.m object x) = same.0.cells c ends (S.m object x) there (applies.m.parts object x known has) in (
          (λ in_set.
              let kept = (fits.cells c ends x there has).0 (here ∙ in_set) in
              (kept.0, kept.1, kept.2, kept.3, same_there (R.cell c (S.r object kept.0)) (Q.cell c (S.r object kept.0)) (same.1.cells c ends (S.r object kept.0) there (applies.r.parts object kept.0 known kept.1)) kept.4)),
          (λ kept.
              same_there (D.cell c (S.m object x)) (E.cell c (S.m object x)) here
              ((fits.cells c ends x there has).1 (kept.0, kept.1, kept.2, kept.3, same.1.cells c ends (S.r object kept.0) there (applies.r.parts object kept.0 known kept.1) ∙ kept.4))),
        );
  }

  -- a pair with the elements of the largest fitting one is it
  pub same_largest : IsLargestPair C S D R → IsLargestPair C S E Q
  same_largest largest = record {
    fits = same_fits largest.fits;
    host = λ F P fits. record {
      parts = λ object x known has in_set. same_there (D.part object x) (E.part object x) (same.0.parts object x known has) ((largest.host F P fits).parts object x known has in_set);
      cells = λ c ends x there has in_set. same_there (D.cell c x) (E.cell c x) (same.0.cells c ends x there has) ((largest.host F P fits).cells c ends x there has in_set);
    };
    right = λ F P fits. record {
      parts = λ object y known has in_set. same_there (R.part object y) (Q.part object y) (same.1.parts object y known has) ((largest.right F P fits).parts object y known has in_set);
      cells = λ c ends y there has in_set. same_there (R.cell c y) (Q.cell c y) (same.1.cells c ends y there has) ((largest.right F P fits).cells c ends y there has in_set);
    };
  }

-- there is one largest fitting pair
pub only_pair : (C : Signature) (S : Applied) (D R : Elements) → IsLargestPair C S D R → IsOnlyPair C S D R
only_pair C S D R largest = λ E Q other. largest_once C S D R E Q largest other

module _ (C : Signature) (rule : RuleLists) (tuple : List ℕ) (X : Instance) (site : IsSite C rule tuple X) (given : List ℕ) (context : ContextLists) where
  -- the lists of a fitting pair stand for its elements
  pub lists_stand : (D R : Elements) → Fits C (applied rule tuple X) D R → IsPairContext C rule tuple X D R given context
      → AreSamePair C (applied rule tuple X) D R (host_elements C context) (right_elements context)
  lists_stand D R fits lists =
      let here : (object x : ℕ) → object < C.objects → Has X object x → is_in (list_at context.removed object) x ≡ not (D.part object x) = λ object x known has.
      ap (λ (names : List ℕ). is_in names x) (lists.removed object known) ∙ in_filter (λ x. not (D.part object x)) (X.names object) x has in (
        record {
          parts = λ object x known has. sym (ap not (here object x known has) ∙ not_twice (D.part object x));
          cells = λ c ends x there has.
              let object : ℕ = ends.object.0 in
              let known = site.category.holders c ends there in
              let part : is_in (list_at context.removed (holder_of C c)) x ≡ not (D.part object x) =
              ap (λ (o : ℕ). is_in (list_at context.removed o) x) (holder_is C c ends there) ∙ here object x known has in
              let cell : is_in (list_at context.blank c) x ≡ (D.part object x && not (D.cell c x)) =
              ap (λ (names : List ℕ). is_in names x) (lists.blank c ends there) ∙ in_filter (λ x. D.part object x && not (D.cell c x)) (X.names object) x has in
              sym (ap (λ (out : Bool). not out && not (is_in (list_at context.blank c) x)) part ∙ ap (λ (out : Bool). not (not (D.part object x)) && not out) cell
              ∙ cell_there (D.part object x) (D.cell c x) (fits.host.holders c ends x there has));
        },
        record {
          parts = λ object y known has.
              let below = part_below rule.right object y has in
              sym (ap (λ (marks : List Bool). slice_index_or marks y false) (lists.right object known)
              ∙ get_or-map-range_with_len (R.part object) 0 (size_of rule.right object) y y false below (zero-add y));
          cells = λ c ends y there has.
              let below = part_below rule.right ends.object.0 y has in
              sym (ap (λ (marks : List Bool). slice_index_or marks y false) (lists.right_cells c ends there)
              ∙ get_or-map-range_with_len (R.cell c) 0 (size_of rule.right ends.object.0) y y false below (zero-add y));
        },
      )

  -- the lists are those of each pair with the same elements
  pub same_lists : (D R E Q : Elements) → AreSamePair C (applied rule tuple X) D R E Q → IsPairContext C rule tuple X D R given context
      → IsPairContext C rule tuple X E Q given context
  same_lists D R E Q same lists = record {
    lists = lists.lists;
    of_keep = λ object known. lists.of_keep object known
        ∙ map_same (name_among D rule tuple object) (name_among E rule tuple object) (parts_of rule.keep object) (λ z there.
        let below = part_below rule.keep object z there in
        ap (λ (here : Bool). cond here (Some (name_of_kept rule tuple object z)) None)
        (same.0.parts object (name_of_kept rule tuple object z) known (kept_there C rule tuple X object z site known below)));
    removed = λ object known. lists.removed object known
        ∙ filter_same (λ x. not (D.part object x)) (λ x. not (E.part object x)) (X.names object) (λ x has. ap not (same.0.parts object x known has));
    copies = lists.copies;
    blank = λ c ends there. lists.blank c ends there
        ∙ filter_same (λ x. D.part ends.object.0 x && not (D.cell c x)) (λ x. E.part ends.object.0 x && not (E.cell c x)) (X.names ends.object.0) (λ x has.
        ap (λ (here : Bool). here && not (D.cell c x)) (same.0.parts ends.object.0 x (site.category.holders c ends there) has)
        ∙ ap (λ (here : Bool). E.part ends.object.0 x && not here) (same.0.cells c ends x there has));
    right = λ object known. lists.right object known
        ∙ map_same (R.part object) (Q.part object) (parts_of rule.right object) (λ y there. same.1.parts object y known there);
    right_cells = λ c ends there. lists.right_cells c ends there
        ∙ map_same (R.cell c) (Q.cell c) (parts_of rule.right ends.object.0) (λ y has. same.1.cells c ends y there has);
    rows = lists.rows;
    next = lists.next;
  }
