-- Why an element has to go.
use Rattle.std.proofs.Common.{◌≡◌, ◌≢◌, ◌∙◌, ◌==◌, ◌&&◌, ◌<◌, ℕ, Bool, true, false, not, cond, List, [], Option, Some, None, Contains, slice_get, refl, sym, ap, subst}
use Rattle.std.proofs.lemmas.Bool.{and_parts, both_ways, eqb-true, false_from_ne_true, not-true}
use Rattle.rw_schema.specs.declared.signature.ArrowEnds.{ArrowEnds}
use Rattle.rw_schema.specs.declared.signature.AttrEnds.{AttrEnds}
use Rattle.rw_schema.specs.Signature.{Signature, IsCategory}
use Rattle.rw_spec.specs.Instance.{Instance, IsInstance, Has}
use Rattle.rw_partial.specs.SinglePushout.{Applied, IsApplied}
use Rattle.rw_partial.specs.Removal.{NoPart, NoCell, NoRightPart, NoRightCell}
use Rattle.rw_partial.proofs.Largest.{source_goes, right_source_goes, deleted_goes, right_part_goes, host_part_goes, set_cell_goes, right_cell_goes, host_cell_goes}
use Rattle.rw_pattern.specs.MapFaults.{image_of}
use Rattle.rw_pattern.specs.PatternLists.{map_of_tuple, size_of}
use Rattle.rw_pattern.proofs.PartNames.{has_part, part_below}
use Rattle.rw_pattern.proofs.PatternInstance.{pattern_instance}
use Rattle.rw_rule.specs.Images.{is_image}
use Rattle.rw_rule.specs.RuleLists.{RuleLists}
use Rattle.rw_rule.specs.Sets.{is_set}
use Rattle.rw_complement.specs.Redex.{IsRedex}
use Rattle.rw_redex.specs.Instantiated.{redex_of}
use Rattle.rw_redex.proofs.Parts.{image_found}
use Rattle.rw_redex.proofs.RuleMaps.{keep_known, left_shape, right_natural}
use Rattle.rw_dpo.specs.Contexts.{name_of_kept}
use Rattle.rw_dpo.specs.inner.Site.{IsSite}
use Rattle.rw_dpo.proofs.Sites.{site_redex}
use Rattle.rw_spo.specs.PairContexts.{applied}
use Rattle.rw_spo.specs.declared.element.Element.{Element}
use Rattle.rw_spo.specs.inner.Removal.{IsNowhere, IsOf, MustGo, cell_at, deleted, end_of, is_common, overwritten, part_at, partner, side_of}

-- what stands where a test passes
pub cond_some : {A : Type 0} (test : Bool) (x y : A) → cond test (Some x) None ≡ Some y → (test ≡ true) × (x ≡ y)
cond_some true x y is = (refl, cc)
cond_some false x y is = absurd (cc)

-- what stands where a test fails
pub cond_none : {A : Type 0} (test : Bool) (x y : A) → cond test None (Some x) ≡ Some y → (test ≡ false) × (x ≡ y)
cond_none true x y is = absurd (cc)
cond_none false x y is = (refl, cc)

module _ (C : Signature) (rule : RuleLists) (tuple : List ℕ) (X : Instance) (site : IsSite C rule tuple X) where
  abbrev S : Applied
  S = applied rule tuple X

  -- the rule is applied to the host
  pub is_applied : IsApplied C (applied rule tuple X)
  is_applied =
      let redex : IsRedex C (redex_of rule tuple X) = site_redex C rule tuple X site in
      let to_right = right_natural C rule site.span in
      record {
        keep = redex.keep;
        host = site.host;
        right = pattern_instance C [] rule.right site.category site.span.parts.right;
        l = redex.l.natural;
        r = record { parts = to_right.parts; commutes = to_right.commutes };
        m = redex.m;
        injective = redex.injective;
      }

  -- the cell at the other end of a kept part, at the attribute's object
  other_cell : (c : ℕ) (ends : AttrEnds) (z : ℕ) → slice_get C.attributes c ≡ Some ends → z < size_of rule.keep ends.object.0 → is_set rule.sets c (image_of rule.r ends.object.0 z) ≡ false
      → (NoCell C S c (name_of_kept rule tuple ends.object.0 z) → NoRightCell C S c (image_of rule.r ends.object.0 z))
      × (NoRightCell C S c (image_of rule.r ends.object.0 z) → NoCell C S c (name_of_kept rule tuple ends.object.0 z))
  other_cell c ends z there below unset =
      let has = has_part rule.keep ends.object.0 z below in
      (right_cell_goes C site.category S is_applied c ends z there has unset, host_cell_goes C site.category S is_applied c ends z there has)

  -- what stands at the other end of a kept part goes too
  opposite : (is_right : Bool) (attribute : Option ℕ) (object part z : ℕ) → MustGo C S (record { is_right = is_right; attribute = attribute; object = object; part = part })
      → z < size_of rule.keep object → is_common rule attribute (image_of rule.r object z) ≡ true → end_of rule tuple is_right object z ≡ part
      → MustGo C S (record { is_right = not is_right; attribute = attribute; object = object; part = end_of rule tuple (not is_right) object z })
  opposite false None object part z goes below common at =
      let has = has_part rule.keep object z below in
      record {
        object = goes.object;
        attribute = goes.attribute;
        there = is_applied.r.parts object z goes.object has;
        nowhere = right_part_goes C S is_applied object z goes.object has (subst (NoPart C S object) (sym at) goes.nowhere);
      }
  opposite true None object part z goes below common at =
      let has = has_part rule.keep object z below in
      record {
        object = goes.object;
        attribute = goes.attribute;
        there = is_applied.m.parts object (image_of rule.l object z) goes.object (is_applied.l.parts object z goes.object has);
        nowhere = host_part_goes C S is_applied object z goes.object has (subst (NoRightPart C S object) (sym at) goes.nowhere);
      }
  opposite false (Some c) object part z goes below common at =
      let has = has_part rule.keep object z below in
      let unset : is_set rule.sets c (image_of rule.r object z) ≡ false = not-true (is_set rule.sets c (image_of rule.r object z)) common in
      let ends : AttrEnds = goes.attribute.0 in
      let same : ends.object.0 ≡ object = goes.attribute.2 in
      let leads : (o : ℕ) → ends.object.0 ≡ o → z < size_of rule.keep o → is_set rule.sets c (image_of rule.r o z) ≡ false
      → NoCell C S c (name_of_kept rule tuple o z) → NoRightCell C S c (image_of rule.r o z) = λ o is within free out.
      subst (λ (o : ℕ). NoRightCell C S c (image_of rule.r o z)) is
      ((other_cell c ends z goes.attribute.1 (subst (λ (o : ℕ). z < size_of rule.keep o) (sym is) within) (subst (λ (o : ℕ). is_set rule.sets c (image_of rule.r o z) ≡ false) (sym is) free)).0
      (subst (λ (o : ℕ). NoCell C S c (name_of_kept rule tuple o z)) (sym is) out)) in
      record {
        object = goes.object;
        attribute = goes.attribute;
        there = is_applied.r.parts object z goes.object has;
        nowhere = (unset, leads object same below unset (subst (NoCell C S c) (sym at) goes.nowhere));
      }
  opposite true (Some c) object part z goes below common at =
      let has = has_part rule.keep object z below in
      let unset : is_set rule.sets c (image_of rule.r object z) ≡ false = not-true (is_set rule.sets c (image_of rule.r object z)) common in
      let ends : AttrEnds = goes.attribute.0 in
      let same : ends.object.0 ≡ object = goes.attribute.2 in
      let leads : (o : ℕ) → ends.object.0 ≡ o → z < size_of rule.keep o → is_set rule.sets c (image_of rule.r o z) ≡ false
      → NoRightCell C S c (image_of rule.r o z) → NoCell C S c (name_of_kept rule tuple o z) = λ o is within free out.
      subst (λ (o : ℕ). NoCell C S c (name_of_kept rule tuple o z)) is
      ((other_cell c ends z goes.attribute.1 (subst (λ (o : ℕ). z < size_of rule.keep o) (sym is) within) (subst (λ (o : ℕ). is_set rule.sets c (image_of rule.r o z) ≡ false) (sym is) free)).1
      (subst (λ (o : ℕ). NoRightCell C S c (image_of rule.r o z)) (sym is) out)) in
      record {
        object = goes.object;
        attribute = goes.attribute;
        there = is_applied.m.parts object (image_of rule.l object z) goes.object (is_applied.l.parts object z goes.object has);
        nowhere = leads object same below unset (subst (NoRightCell C S c) (sym at) goes.nowhere.1);
      }

  -- what goes with an element by a kept part has to go
  pub partner_goes : (element other : Element) (z : ℕ) → MustGo C (applied rule tuple X) element → z < size_of rule.keep element.object → partner rule tuple element z ≡ Some other
      → MustGo C (applied rule tuple X) other
  partner_goes element other z goes below is =
      let found : Element = record { is_right = not element.is_right; attribute = element.attribute; object = element.object; part = end_of rule tuple (not element.is_right) element.object z } in
      let common : Bool = is_common rule element.attribute (image_of rule.r element.object z) in
      let own : Bool = end_of rule tuple element.is_right element.object z == element.part in
      let parts = cond_some (common && own) found other is in
      let both = and_parts common own parts.0 in
      subst (MustGo C S) parts.1
      (opposite element.is_right element.attribute element.object element.part z goes below both.0 (eqb-true (end_of rule tuple element.is_right element.object z) element.part both.1))

  -- a part whose arrow leads to one that has to go has to go
  from_source : (is_right : Bool) (object part a : ℕ) (ends : ArrowEnds) (x : ℕ) → MustGo C S (part_at is_right object part) → slice_get C.arrows a ≡ Some ends
      → ends.target.0 ≡ object → Has (side_of S is_right) ends.source.0 x → (side_of S is_right).value a x ≡ part → MustGo C S (part_at is_right ends.source.0 x)
  from_source false object part a ends x goes there enters has leads = record {
    object = site.category.sources a ends there;
    attribute = tt;
    there = has;
    nowhere = source_goes C S a ends x there has (subst (λ (o : ℕ). NoPart C S o (X.value a x)) (sym enters) (subst (NoPart C S object) (sym leads) goes.nowhere));
  }
  from_source true object part a ends x goes there enters has leads = record {
    object = site.category.sources a ends there;
    attribute = tt;
    there = has;
    nowhere = right_source_goes C S a ends x there has (subst (λ (o : ℕ). NoRightPart C S o (S.right.value a x)) (sym enters) (subst (NoRightPart C S object) (sym leads) goes.nowhere));
  }

  pub arrow_goes : (element : Element) (a : ℕ) (ends : ArrowEnds) (x : ℕ) → MustGo C (applied rule tuple X) element → element.attribute ≡ None → slice_get C.arrows a ≡ Some ends
      → ends.target.0 ≡ element.object → Has (side_of (applied rule tuple X) element.is_right) ends.source.0 x → (side_of (applied rule tuple X) element.is_right).value a x ≡ element.part
      → MustGo C (applied rule tuple X) (part_at element.is_right ends.source.0 x)
  arrow_goes element a ends x goes bare there enters has leads =
      let nowhere : IsNowhere C S element.is_right None element.object element.part =
      subst (λ (attribute : Option ℕ). IsNowhere C S element.is_right attribute element.object element.part) bare goes.nowhere in
      from_source element.is_right element.object element.part a ends x (record { object = goes.object; attribute = tt; there = goes.there; nowhere = nowhere }) there enters has leads

  -- the host's part of a left part that is not kept has to go
  pub deleted_must_go : (object part : ℕ) (element : Element) → object < C.objects → part < size_of rule.goal.left object → deleted rule tuple object part ≡ Some element
      → MustGo C (applied rule tuple X) element
  deleted_must_go object part element known below is =
      let parts = cond_none (is_image rule.l object part) (part_at false object (map_of_tuple rule.goal.left tuple object part)) element is in
      let has = has_part rule.goal.left object part below in
      subst (MustGo C S) parts.1 (record {
        object = known;
        attribute = tt;
        there = is_applied.m.parts object part known has;
        nowhere = deleted_goes C S object part known has (λ z kept same. both_ways (is_image rule.l object part) parts.0
            (subst (λ (y : ℕ). is_image rule.l object y ≡ true) same
            (image_found rule.keep rule.l object z (left_shape C rule site.span) (keep_known C rule object site.span known) (part_below rule.keep object z kept))));
      })

  -- the host's cell of a kept part whose right cell is set has to go
  pub overwritten_must_go : (c : ℕ) (ends : AttrEnds) (z : ℕ) (element : Element) → slice_get C.attributes c ≡ Some ends → z < size_of rule.keep ends.object.0
      → overwritten rule tuple c ends.object.0 z ≡ Some element → MustGo C (applied rule tuple X) element
  overwritten_must_go c ends z element there below is =
      let object : ℕ = ends.object.0 in
      let known : object < C.objects = site.category.holders c ends there in
      let parts = cond_some (is_set rule.sets c (image_of rule.r object z)) (cell_at false c object (name_of_kept rule tuple object z)) element is in
      let has = has_part rule.keep object z below in
      subst (MustGo C S) parts.1 (record {
        object = known;
        attribute = (ends, there, refl);
        there = is_applied.m.parts object (image_of rule.l object z) known (is_applied.l.parts object z known has);
        nowhere = set_cell_goes C site.category S is_applied c ends z there has parts.0;
      })
