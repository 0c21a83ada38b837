-- Where nothing else has to go, what stays is the largest fitting pair.
use Rattle.std.proofs.Common.{◌≡◌, ◌≢◌, ◌∙◌, ◌==◌, ◌&&◌, ◌<◌, ℕ, Bool, true, false, not, cond, List, Option, Some, None, Contains, slice_get, refl, sym, ap, subst}
use Rattle.std.proofs.lemmas.Bool.{and_from, eq-eqb, false_from_ne_true, not_from_false}
use Rattle.rw_schema.specs.declared.signature.ArrowEnds.{ArrowEnds}
use Rattle.rw_schema.specs.declared.signature.AttrEnds.{AttrEnds}
use Rattle.rw_schema.specs.Signature.{Signature, holder_of}
use Rattle.rw_spec.specs.Instance.{Instance, Has}
use Rattle.rw_spec.proofs.Signatures.{holder_is}
use Rattle.rw_partial.specs.SinglePushout.{Applied, IsLargestPair}
use Rattle.rw_partial.specs.Removal.{IsClosed, IsExcluded}
use Rattle.rw_partial.proofs.Largest.{largest_from_removal}
use Rattle.rw_partial.proofs.Partial.{same_test}
use Rattle.rw_pattern.specs.MapFaults.{image_of}
use Rattle.rw_pattern.specs.PatternLists.{map_of_tuple, size_of}
use Rattle.rw_pattern.proofs.PartNames.{has_part, part_below}
use Rattle.rw_rule.specs.Images.{is_image}
use Rattle.rw_rule.specs.RuleLists.{RuleLists}
use Rattle.rw_rule.specs.Sets.{is_set}
use Rattle.rw_redex.proofs.Parts.{image_from}
use Rattle.rw_redex.proofs.RuleMaps.{keep_known, left_shape}
use Rattle.rw_dpo.specs.Contexts.{name_of_kept}
use Rattle.rw_dpo.specs.inner.Site.{IsSite}
use Rattle.rw_spo.specs.PairContexts.{applied}
use Rattle.rw_spo.specs.declared.element.Element.{Element}
use Rattle.rw_spo.specs.inner.Removal.{IsSettled, MustGo, cell_at, end_of, is_common, part_at, partner}
use Rattle.rw_spo.specs.inner.Staying.{stays_in}
use Rattle.rw_spo.specs.inner.Removed.{goes}
use Rattle.rw_spo.proofs.Going.{goes_from, goes_where}
use Rattle.rw_spo.proofs.Reasons.{is_applied}

module _ (C : Signature) (rule : RuleLists) (tuple : List ℕ) (X : Instance) (site : IsSite C rule tuple X) (elements : List Element)
    (settled : IsSettled C rule tuple (applied rule tuple X) elements) where
  abbrev S : Applied
  S = applied rule tuple X

  -- what stands at one end of a kept part has what stands at the other end for its partner
  partner_at : (is_right : Bool) (attribute : Option ℕ) (object z : ℕ) → is_common rule attribute (image_of rule.r object z) ≡ true
      → partner rule tuple (record { is_right = is_right; attribute = attribute; object = object; part = end_of rule tuple is_right object z }) z
      ≡ Some (record { is_right = not is_right; attribute = attribute; object = object; part = end_of rule tuple (not is_right) object z })
  partner_at is_right attribute object z common =
      let end : ℕ = end_of rule tuple is_right object z in
      ap (λ (test : Bool). cond test (Some (record { is_right = not is_right; attribute = attribute; object = object; part = end_of rule tuple (not is_right) object z })) None)
      (and_from (is_common rule attribute (image_of rule.r object z)) (end == end) common (eq-eqb end end refl))

  -- both ends of a kept part go, or none
  both_go : (attribute : Option ℕ) (object z : ℕ) → z < size_of rule.keep object → is_common rule attribute (image_of rule.r object z) ≡ true
      → goes elements (record { is_right = false; attribute = attribute; object = object; part = name_of_kept rule tuple object z })
      ≡ goes elements (record { is_right = true; attribute = attribute; object = object; part = image_of rule.r object z })
  both_go attribute object z below common =
      let host : Element = record { is_right = false; attribute = attribute; object = object; part = name_of_kept rule tuple object z } in
      let right : Element = record { is_right = true; attribute = attribute; object = object; part = image_of rule.r object z } in
      same_test (goes elements host) (goes elements right)
      (λ found. goes_where elements right ((settled.followed host (goes_from elements host found)).kept z right below (partner_at false attribute object z common)))
      (λ found. goes_where elements host ((settled.followed right (goes_from elements right found)).kept z host below (partner_at true attribute object z common)))

  abbrev cut_at : Bool → ℕ → ℕ → Bool
  cut_at is_right c x = goes elements (cell_at is_right c (holder_of C c) x)

  -- nothing more has to go
  closed : IsClosed C S (λ object x. goes elements (part_at false object x)) (cut_at false) (λ object y. goes elements (part_at true object y)) (cut_at true)
  closed = record {
    host_arrows = λ a ends x there has out.
        let target = part_at false ends.target.0 (X.value a x) in
        goes_where elements (part_at false ends.source.0 x) ((settled.followed target (goes_from elements target out)).arrows refl a ends there refl x has refl);
    right_arrows = λ a ends y there has out.
        let target = part_at true ends.target.0 (S.right.value a y) in
        goes_where elements (part_at true ends.source.0 y) ((settled.followed target (goes_from elements target out)).arrows refl a ends there refl y has refl);
    deleted = λ object x known has none.
        let out = part_at false object (map_of_tuple rule.goal.left tuple object x) in
        let unkept : is_image rule.l object x ≡ false = false_from_ne_true (is_image rule.l object x) (λ image.
        let from = image_from rule.keep rule.l object x (left_shape C rule site.span) (keep_known C rule object site.span known) image in
        none from.0 (has_part rule.keep object from.0 from.1) from.2) in
        goes_where elements out (settled.deleted object known x out (part_below rule.goal.left object x has) (ap (λ (kept : Bool). cond kept None (Some out)) unkept));
    parts = λ object z known has. both_go None object z (part_below rule.keep object z has) refl;
    set_cells = λ c ends z there has given.
        let object : ℕ = ends.object.0 in
        let out = cell_at false c object (name_of_kept rule tuple object z) in
        subst (λ (o : ℕ). goes elements (cell_at false c o (name_of_kept rule tuple object z)) ≡ true) (sym (holder_is C c ends there))
        (goes_where elements out (settled.overwritten c ends there z out (part_below rule.keep object z has) (ap (λ (given : Bool). cond given (Some out) None) given)));
    cells = λ c ends z there has unset.
        let object : ℕ = ends.object.0 in
        subst (λ (o : ℕ). goes elements (cell_at false c o (name_of_kept rule tuple object z)) ≡ goes elements (cell_at true c o (image_of rule.r object z))) (sym (holder_is C c ends there))
        (both_go (Some c) object z (part_below rule.keep object z has) (not_from_false (is_set rule.sets c (image_of rule.r object z)) unset));
    unset = λ c y out. (settled.sound (cell_at true c (holder_of C c) y) (goes_from elements (cell_at true c (holder_of C c) y) out)).nowhere.0;
  }

  -- what goes is in no fitting pair
  excluded : IsExcluded C S (λ object x. goes elements (part_at false object x)) (cut_at false) (λ object y. goes elements (part_at true object y)) (cut_at true)
  excluded = record {
    parts = λ object x known has out. (settled.sound (part_at false object x) (goes_from elements (part_at false object x) out)).nowhere;
    cells = λ c ends x there has out. (settled.sound (cell_at false c (holder_of C c) x) (goes_from elements (cell_at false c (holder_of C c) x) out)).nowhere;
    right_parts = λ object y known has out. (settled.sound (part_at true object y) (goes_from elements (part_at true object y) out)).nowhere;
    right_cells = λ c ends y there has out. (settled.sound (cell_at true c (holder_of C c) y) (goes_from elements (cell_at true c (holder_of C c) y) out)).nowhere.1;
  }

  -- what stays is the largest fitting pair
  pub largest_stays : IsLargestPair C (applied rule tuple X) (stays_in C false elements) (stays_in C true elements)
  largest_stays = largest_from_removal C site.category S (is_applied C rule tuple X site) (λ object x. goes elements (part_at false object x)) (cut_at false)
      (λ object y. goes elements (part_at true object y)) (cut_at true) closed excluded
