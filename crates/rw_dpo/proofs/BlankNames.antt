-- The names whose cells are made blank.
use Rattle.std.proofs.Common.{◌≡◌, ◌∙◌, ◌==◌, ◌&&◌, ◌||◌, ℕ, ◌<◌, Bool, true, false, not, cond, List, [], ◌∷◌, Contains, filter, map, Option, Some, None, slice_get, refl, sym, ap, subst, inl, inr, eqb-true}
use Rattle.std.specs.List.{list_all}
use Rattle.std.specs.Option.{is_none, is_some}
use Rattle.std.proofs.lemmas.Bool.{and_from, and_parts, cases_Bool, eq-eqb, false_from_ne_true, not_from_false}
use Rattle.rw_schema.specs.declared.atom.Atom.{Atom}
use Rattle.rw_schema.specs.declared.signature.AttrEnds.{AttrEnds}
use Rattle.rw_schema.specs.Signature.{Signature}
use Rattle.rw_spec.specs.Instance.{Instance}
use Rattle.rw_spec.proofs.Sequences.{contained_in_filter, contained_in_map, contains_filter, contains_map}
use Rattle.rw_pattern.specs.MapFaults.{image_of}
use Rattle.rw_pattern.proofs.PartNames.{part_below}
use Rattle.rw_complement.specs.Context.{is_blank_over, is_blanked, is_removed, is_under}
use Rattle.rw_complement.specs.Redex.{CanBeGlued}
use Rattle.rw_complement.proofs.Parts.{removed_from, under_from}
use Rattle.rw_complement.proofs.Tests.{some_at}
use Rattle.rw_delta.specs.Deltas.{IsListOf}
use Rattle.rw_redex.specs.Instantiated.{redex_of}
use Rattle.rw_redex.proofs.Attributes.{holder_at}
use Rattle.rw_redex.proofs.RuleMaps.{left_natural}
use Rattle.rw_rule.specs.Images.{parts_of}
use Rattle.rw_rule.specs.RuleLists.{RuleLists}
use Rattle.rw_rule.specs.Sets.{is_set}
use Rattle.rw_dpo.specs.Contexts.{blank_names, loses_atom, name_of_kept}
use Rattle.rw_dpo.specs.inner.Blank.{gives_up_atom, is_set_beside, is_set_over}
use Rattle.rw_dpo.specs.inner.Site.{IsSite}
use Rattle.rw_dpo.proofs.Ordered.{ordered_are}
use Rattle.rw_dpo.proofs.Sites.{kept_there}

-- a kept part whose atom the host has gives it up exactly where it is set
hidden_is_set : (set : Bool) (cell : Option Atom) → is_some cell ≡ true → is_none (cond set None cell) ≡ set
hidden_is_set true cell some = refl
hidden_is_set false None some = cc
hidden_is_set false (Some atom) some = refl

-- tests of a list are one where they agree at each item
all_same : (p q : ℕ → Bool) (xs : List ℕ) → ((x : ℕ) → p x ≡ q x) → list_all p xs ≡ list_all q xs
all_same p q [] same = refl
all_same p q (x ∷ xs) same = rw (same x, all_same p q xs same) refl

module _ (C : Signature) (rule : RuleLists) (tuple : List ℕ) (X : Instance) (c : ℕ) (ends : AttrEnds) (site : IsSite C rule tuple X)
    (there : slice_get C.attributes c ≡ Some ends) where
  -- a kept part has another name or a blank cell exactly where it has another name or a set cell, if the host has an atom at the name
  beside_is : (w z : ℕ) → is_some (X.cell c w) ≡ true
      → (not (name_of_kept rule tuple ends.object.0 z == w) || is_none ((redex_of rule tuple X).keep.cell c z)) ≡ is_set_beside rule tuple ends.object.0 c w z
  beside_is w z some =
      let object : ℕ = ends.object.0 in
      let name : ℕ = name_of_kept rule tuple object z in
      let set : Bool = is_set rule.sets c (image_of rule.r object z) in
      let cell : (redex_of rule tuple X).keep.cell c z ≡ cond set None (X.cell c name) =
      ap (λ (object : ℕ). cond (is_set rule.sets c (image_of rule.r object z)) None (X.cell c (name_of_kept rule tuple object z)))
      (holder_at C rule.goal.left c ends site.span.parts.goal.left.holders there) in
      elim (cases_Bool (name == w)) [
        | inl same ↦
            let atom : is_some (X.cell c name) ≡ true = subst (λ (w : ℕ). is_some (X.cell c w) ≡ true) (sym (eqb-true name w same)) some in
            ap (λ b. not (name == w) || b) (ap is_none cell ∙ hidden_is_set set (X.cell c name) atom)
        | inr other ↦ rw other refl
      ]

  -- each kept part over a name is blank exactly where each is set, if the host has an atom there
  over_is : (w : ℕ) → is_some (X.cell c w) ≡ true → is_blank_over (redex_of rule tuple X) ends.object.0 c w ≡ is_set_over rule tuple ends.object.0 c w
  over_is w some =
      all_same (λ z. not (name_of_kept rule tuple ends.object.0 z == w) || is_none ((redex_of rule tuple X).keep.cell c z)) (is_set_beside rule tuple ends.object.0 c w)
      (parts_of rule.keep ends.object.0) (λ z. beside_is w z some)

  -- the name of a kept part stays
  kept_stays : (z : ℕ) → CanBeGlued C (redex_of rule tuple X) → Contains (parts_of rule.keep ends.object.0) z
      → is_removed (redex_of rule tuple X) ends.object.0 (name_of_kept rule tuple ends.object.0 z) ≡ false
  kept_stays z can has =
      let object : ℕ = ends.object.0 in
      let known : object < C.objects = site.category.holders c ends there in
      let R = redex_of rule tuple X in
      let y : ℕ = image_of rule.l object z in
      let left = (left_natural C rule site.span).parts object z known has in
      false_from_ne_true (is_removed R object (name_of_kept rule tuple object z)) (λ passes.
      let removed = removed_from R object (name_of_kept rule tuple object z) passes in
      elim (can.identification object removed.0 y known removed.1 left removed.2) [
        | inl same ↦ removed.3 (z, has, sym same)
        | inr both ↦ removed.3 both.0
      ])

  -- the names of kept parts that give up an atom, in order, are those at which the cell is made blank
  pub blank_are : (names : List ℕ) → CanBeGlued C (redex_of rule tuple X)
      → IsListOf (Contains (map (name_of_kept rule tuple ends.object.0) (filter (gives_up_atom rule tuple X ends.object.0 c) (parts_of rule.keep ends.object.0)))) names
      → names ≡ blank_names rule tuple X c ends
  blank_are names can listed =
      let object : ℕ = ends.object.0 in
      let known : object < C.objects = site.category.holders c ends there in
      let R = redex_of rule tuple X in
      let name : ℕ → ℕ = name_of_kept rule tuple object in
      let gives : ℕ → Bool = gives_up_atom rule tuple X object c in
      let gathered : List ℕ = map name (filter gives (parts_of rule.keep object)) in
      ordered_are gathered names (X.names object) (loses_atom R object c) (site.ascend object) listed
      (λ x in_gathered.
      let from = contained_in_map name (filter gives (parts_of rule.keep object)) x in_gathered in
      let part = contained_in_filter gives (parts_of rule.keep object) from.0 from.1 in
      let w : ℕ = name from.0 in
      let both = and_parts (is_set_over rule tuple object c w) (is_some (X.cell c w)) part.1 in
      let under : is_under R object w ≡ true = some_at (λ z. name z == w) (parts_of rule.keep object) from.0 part.0 (eq-eqb w w refl) in
      let over : is_blank_over R object c w ≡ true = over_is w both.1 ∙ both.0 in
      let stays : not (is_removed R object w) ≡ true = not_from_false (is_removed R object w) (kept_stays from.0 can part.0) in
      let loses : loses_atom R object c w ≡ true = rw (stays, under, over, both.1) refl in (
        subst (Contains (X.names object)) from.2 (kept_there C rule tuple X object from.0 site known (part_below rule.keep object from.0 part.0)),
        subst (λ (x : ℕ). loses_atom R object c x ≡ true) from.2 loses,
      ))
      (λ x has loses.
      let parts = and_parts (not (is_removed R object x) && is_blanked R object c x) (is_some (X.cell c x)) loses in
      let blanked = and_parts (not (is_removed R object x)) (is_blanked R object c x) parts.0 in
      let over = and_parts (is_under R object x) (is_blank_over R object c x) blanked.1 in
      let z = under_from R object x over.0 in
      let set : is_set_over rule tuple object c x ≡ true = sym (over_is x parts.1) ∙ over.1 in
      let gives_x : (is_set_over rule tuple object c x && is_some (X.cell c x)) ≡ true = and_from (is_set_over rule tuple object c x) (is_some (X.cell c x)) set parts.1 in
      let gives_z : gives z.0 ≡ true = subst (λ (x : ℕ). (is_set_over rule tuple object c x && is_some (X.cell c x)) ≡ true) (sym z.2) gives_x in
      subst (Contains gathered) z.2 (contains_map name (filter gives (parts_of rule.keep object)) z.0 (contains_filter gives (parts_of rule.keep object) z.0 z.1 gives_z)))
