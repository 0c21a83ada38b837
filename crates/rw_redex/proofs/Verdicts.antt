-- A match has one verdict: a step, or one first obstruction.
use Rattle.std.proofs.Common.{◌≡◌, ◌∙◌, ℕ, true, List, length, Option, Some, None, refl, sym, ap}
use Rattle.rw_schema.specs.declared.atom.Atom.{Atom}
use Rattle.rw_schema.specs.declared.ids.AttrId.{AttrId}
use Rattle.rw_schema.specs.declared.ids.ObjectId.{ObjectId}
use Rattle.rw_schema.specs.RowLists.{RowLists}
use Rattle.rw_schema.specs.Signature.{Signature}
use Rattle.rw_spec.specs.Instance.{Instance, instance_of}
use Rattle.rw_pattern.specs.MapFaults.{image_of}
use Rattle.rw_terms.specs.declared.code.OpCode.{OpCode}
use Rattle.rw_rule.specs.Images.{is_injective}
use Rattle.rw_rule.specs.RuleLists.{RuleLists}
use Rattle.rw_rule.specs.declared.refusal.Refusal.{Refusal}
use Rattle.rw_rule.specs.declared.refusal.Refusal.TheVariants.{Identification, Dangling, NoValue, TooLarge, Clash}
use Rattle.rw_redex.proofs.RuleKnown.{IsKnown}
use Rattle.rw_redex.proofs.SetKinds.{IsMet}
use Rattle.rw_complement.specs.Context.{context_of, context_map}
use Rattle.rw_spec.specs.Redex.{Redex}
use Rattle.rw_complement.specs.Redex.{IsRedex, CanBeGlued}
use Rattle.rw_complement.proofs.Complement.{context_is_complement}
use Rattle.rw_complement.proofs.Least.{context_is_least, only_context}
use Rattle.rw_complement.proofs.Named.{same_initial}
use Rattle.rw_glued.specs.Clash.{Clashes}
use Rattle.rw_glued.proofs.Clashes.{no_cocone_at_clash}
use Rattle.rw_glued.proofs.OnlyClash.{only_clash}
use Rattle.rw_redex.specs.Instantiated.{redex_of, right_at}
use Rattle.rw_redex.specs.Step.{IsStep}
use Rattle.rw_redex.specs.Verdicts.{Obstructs, early, step_frame}
use Rattle.rw_redex.proofs.Early.{glued_free}
use Rattle.rw_redex.proofs.Gluing.{can_be_glued_at}
use Rattle.rw_redex.proofs.Instantiated.{redex_is}
use Rattle.rw_redex.proofs.Right.{right_instance}

-- the obstruction that is found before atoms are compared, or none for a clash
abbrev early_of : Refusal → Option Refusal
early_of (Identification object first second) = Some (Identification object first second)
early_of (Dangling arrow part) = Some (Dangling arrow part)
early_of (NoValue part attr) = Some (NoValue part attr)
early_of (TooLarge object) = Some (TooLarge object)
early_of (Clash object w attr a b) = None

-- one that is found is this one
early_one : (first second : Refusal) → Some first ≡ early_of second → first ≡ second
early_one first (Identification object left right) same = cc
early_one first (Dangling arrow part) same = cc
early_one first (NoValue part attr) same = cc
early_one first (TooLarge object) same = cc
early_one first (Clash object w attr a b) same = let no : ⊥ = cc in absurd no

-- nothing is not something
none_some : {A : Type 0} {a : A} → None ≡ Some a → ⊥
none_some same = cc

module _ (C : Signature) (codes : List OpCode) (rule : RuleLists) (tuple : List ℕ) (X : Instance) (next : List ℕ)
    (known : IsKnown C (length codes) rule) (apart : is_injective rule.keep rule.l ≡ true) (met : IsMet C rule tuple X)
  where
    redex : IsRedex C (redex_of rule tuple X)
    redex = redex_is C met.category rule known.span apart tuple X met.host met.natural

    -- where nothing is in the way early, the gluing condition holds
    can : early C codes rule tuple X next ≡ None → CanBeGlued C (redex_of rule tuple X)
    can none =
        let free = glued_free C codes rule tuple X next none in
        can_be_glued_at C met.category rule known.span tuple X free.0 free.1

    -- where there is a step, no atoms clash
    no_clash : (after : RowLists) (o w c : ℕ) (a b : Atom) → IsStep C codes rule X next tuple after
        → Clashes C (step_frame C codes rule tuple X) next o w c a b → ⊥
    no_clash after o w c a b step clash =
        let R : Redex = redex_of rule tuple X in
        let free = can step.unobstructed in
        let complement = context_is_complement C met.category R redex free in
        let found = step.pushout in
        let same = only_context C met.category R (context_of C R) found.context (context_map R) found.k (context_is_least C met.category R redex free) found.is_context in
        let initial =
        same_initial C met.category R.keep (right_at codes rule tuple X) (image_of rule.r) (context_of C R) found.context (context_map R) found.k same.0 same.1
        complement.from_keep.natural found.is_context.complement.from_keep.natural (instance_of C after) found.d found.s found.pushout in
        no_cocone_at_clash C met.category (step_frame C codes rule tuple X) next o w c a b clash (instance_of C after) found.d found.s initial.cocone

    -- a match with a step is not obstructed
    pub not_obstructed : (after : RowLists) (refusal : Refusal) → IsStep C codes rule X next tuple after → Obstructs C codes rule tuple X next refusal → ⊥
    not_obstructed after (Identification object first second) step is = let none = step.unobstructed in cc
    not_obstructed after (Dangling arrow part) step is = let none = step.unobstructed in cc
    not_obstructed after (NoValue part attr) step is = let none = step.unobstructed in cc
    not_obstructed after (TooLarge object) step is = let none = step.unobstructed in cc
    not_obstructed after (Clash object w attr a b) step is = no_clash after object.0 w attr.0 a b step is.1

    -- what obstructs tells it
    early_is : (refusal : Refusal) → Obstructs C codes rule tuple X next refusal → early C codes rule tuple X next ≡ early_of refusal
    early_is (Identification object first second) is = is
    early_is (Dangling arrow part) is = is
    early_is (NoValue part attr) is = is
    early_is (TooLarge object) is = is
    early_is (Clash object w attr a b) is = is.0

    -- two clashes of one match are one
    one_clash : (o o' : ObjectId) (w w' : ℕ) (c c' : AttrId) (a a' b b' : Atom) → Obstructs C codes rule tuple X next (Clash o w c a b)
        → Obstructs C codes rule tuple X next (Clash o' w' c' a' b') → Clash o w c a b ≡ Clash o' w' c' a' b'
    one_clash o o' w w' c c' a a' b b' is other =
        let R : Redex = redex_of rule tuple X in
        let complement = context_is_complement C met.category R redex (can is.0) in
        let same = only_clash C met.category (step_frame C codes rule tuple X) complement.instance (right_instance C codes rule tuple X known met) complement.from_keep.natural
        next o.0 w c.0 a b o'.0 w' c'.0 a' b' is.1 other.1 in
        let objects : o ≡ o' = ap (λ (n : ℕ). record { 0 = n }) same.0 in
        let attributes : c ≡ c' = ap (λ (n : ℕ). record { 0 = n }) same.2 in
        rw (objects, same.1, attributes, same.3, same.4) refl

    -- a match has one first obstruction
    pub only_obstruction : (first second : Refusal) → Obstructs C codes rule tuple X next first → Obstructs C codes rule tuple X next second → first ≡ second
    only_obstruction (Identification object left right) second is other = early_one (Identification object left right) second (sym is ∙ early_is second other)
    only_obstruction (Dangling arrow part) second is other = early_one (Dangling arrow part) second (sym is ∙ early_is second other)
    only_obstruction (NoValue part attr) second is other = early_one (NoValue part attr) second (sym is ∙ early_is second other)
    only_obstruction (TooLarge object) second is other = early_one (TooLarge object) second (sym is ∙ early_is second other)
    only_obstruction (Clash o w c a b) (Clash o' w' c' a' b') is other = one_clash o o' w w' c c' a a' b b' is other
    only_obstruction (Clash o w c a b) (Identification object left right) is other = absurd (none_some (sym is.0 ∙ other))
    only_obstruction (Clash o w c a b) (Dangling arrow part) is other = absurd (none_some (sym is.0 ∙ other))
    only_obstruction (Clash o w c a b) (NoValue part attr) is other = absurd (none_some (sym is.0 ∙ other))
    only_obstruction (Clash o w c a b) (TooLarge object) is other = absurd (none_some (sym is.0 ∙ other))
