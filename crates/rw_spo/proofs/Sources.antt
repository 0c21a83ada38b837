-- Parts whose arrows lead to one that goes.
use Rattle.std.proofs.Common.{◌≡◌, ◌∙◌, ◌==◌, ◌<◌, ℕ, Bool, true, false, cond, filter, List, Option, Some, None, Contains, slice_get, slice_index, sym, ap, subst}
use Rattle.std.proofs.lemmas.Bool.{eq-eqb, eqb-true}
use Rattle.rw_schema.specs.declared.signature.ArrowEnds.{ArrowEnds}
use Rattle.rw_schema.specs.RowLists.{list_at}
use Rattle.rw_schema.specs.Signature.{Signature, source_of}
use Rattle.rw_spec.specs.Ends.{target_of}
use Rattle.rw_spec.specs.Instance.{Instance, Has}
use Rattle.rw_spec.proofs.Sequences.{contains_filter, contained_in_filter}
use Rattle.rw_spec.proofs.Signatures.{source_is, target_is}
use Rattle.rw_columns.specs.Columned.{preimage_of}
use Rattle.rw_partial.specs.SinglePushout.{Applied}
use Rattle.rw_pattern.specs.PatternLists.{size_of}
use Rattle.rw_pattern.proofs.PartNames.{has_part, part_below}
use Rattle.rw_rule.specs.RuleLists.{RuleLists}
use Rattle.rw_dpo.specs.inner.Site.{IsSite}
use Rattle.rw_spo.specs.PairContexts.{applied}
use Rattle.rw_spo.specs.declared.element.Element.{Element}
use Rattle.rw_spo.specs.inner.Removal.{HasBelow, IsFollowedAlong, MustGo, part_at, side_of, source_in}
use Rattle.rw_spo.proofs.Reasons.{arrow_goes, cond_some}

module _ (C : Signature) (rule : RuleLists) (tuple : List ℕ) (X : Instance) (site : IsSite C rule tuple X) (element : Element)
    (goes : MustGo C (applied rule tuple X) element) (a : ℕ) (ends : ArrowEnds) (there : slice_get C.arrows a ≡ Some ends) where
  abbrev S : Applied
  S = applied rule tuple X

  -- the part is a name of the host, at the arrow's target
  pub target_has : element.is_right ≡ false → ends.target.0 ≡ element.object → Has X (target_of C a) element.part
  target_has host enters =
      subst (λ (object : ℕ). Has X object element.part) (sym (target_is C a ends there ∙ enters))
      (subst (λ (is_right : Bool). Has (side_of S is_right) element.object element.part) host goes.there)

  -- a name on the walk has to go
  pub walked_goes : element.is_right ≡ false → element.attribute ≡ None → ends.target.0 ≡ element.object → (x : ℕ) → Contains (preimage_of C X a element.part) x
      → MustGo C (applied rule tuple X) (part_at false ends.source.0 x)
  walked_goes host bare enters x walked =
      let parts = contained_in_filter (λ name. X.value a name == element.part) (X.names (source_of C a)) x walked in
      let has : Has X ends.source.0 x = subst (λ (object : ℕ). Has X object x) (source_is C a ends there) parts.0 in
      subst (λ (is_right : Bool). MustGo C S (part_at is_right ends.source.0 x)) host
      (arrow_goes C rule tuple X site element a ends x goes bare there enters
      (subst (λ (is_right : Bool). Has (side_of S is_right) ends.source.0 x) (sym host) has)
      (subst (λ (is_right : Bool). (side_of S is_right).value a x ≡ element.part) (sym host) (eqb-true (X.value a x) element.part parts.1)))

  -- where each name on the walk goes, the arrow is followed back
  pub walked_followed : (elements : List Element) → element.is_right ≡ false
      → ((x : ℕ) → Contains (preimage_of C X a element.part) x → Contains elements (part_at false ends.source.0 x)) → IsFollowedAlong (applied rule tuple X) elements element a ends
  walked_followed elements host walked =
      subst (λ (is_right : Bool). (x : ℕ) → Has (side_of S is_right) ends.source.0 x → (side_of S is_right).value a x ≡ element.part → Contains elements (part_at is_right ends.source.0 x))
      (sym host) (λ x has leads. walked x (contains_filter (λ name. X.value a name == element.part) (X.names (source_of C a)) x
      (subst (λ (object : ℕ). Has X object x) (sym (source_is C a ends there)) has) (eq-eqb (X.value a x) element.part leads)))

  -- a right part whose arrow leads to one that has to go has to go
  pub in_row_goes : element.is_right ≡ true → element.attribute ≡ None → ends.target.0 ≡ element.object → (part : ℕ) (other : Element) → part < size_of rule.right ends.source.0
      → source_in rule a ends.source.0 element.part part ≡ Some other → MustGo C (applied rule tuple X) other
  in_row_goes right bare enters part other below is =
      let value : ℕ = slice_index (list_at rule.right.rows a) part in
      let parts = cond_some (value == element.part) (part_at true ends.source.0 part) other is in
      subst (MustGo C S) parts.1
      (subst (λ (is_right : Bool). MustGo C S (part_at is_right ends.source.0 part)) right
      (arrow_goes C rule tuple X site element a ends part goes bare there enters
      (subst (λ (is_right : Bool). Has (side_of S is_right) ends.source.0 part) (sym right) (has_part rule.right ends.source.0 part below))
      (subst (λ (is_right : Bool). (side_of S is_right).value a part ≡ element.part) (sym right) (eqb-true value element.part parts.0))))

  -- where each of them goes, the arrow is followed back
  pub in_row_followed : (elements : List Element) → element.is_right ≡ true → HasBelow (size_of rule.right ends.source.0) (source_in rule a ends.source.0 element.part) elements
      → IsFollowedAlong (applied rule tuple X) elements element a ends
  in_row_followed elements right all =
      subst (λ (is_right : Bool). (x : ℕ) → Has (side_of S is_right) ends.source.0 x → (side_of S is_right).value a x ≡ element.part → Contains elements (part_at is_right ends.source.0 x))
      (sym right) (λ x has leads. all x (part_at true ends.source.0 x) (part_below rule.right ends.source.0 x has)
      (ap (λ (here : Bool). cond here (Some (part_at true ends.source.0 x)) None) (eq-eqb (slice_index (list_at rule.right.rows a) x) element.part leads)))
