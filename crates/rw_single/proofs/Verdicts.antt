-- A match has one verdict at most: a step, or one first obstruction.
use Rattle.std.proofs.Common.{◌≡◌, ◌∙◌, ℕ, true, List, length, Option, Some, None, refl, sym, ap}
use Rattle.rw_schema.specs.declared.atom.Atom.{Atom}
use Rattle.rw_schema.specs.declared.ids.AttrId.{AttrId}
use Rattle.rw_schema.specs.declared.ids.ObjectId.{ObjectId}
use Rattle.rw_schema.specs.RowLists.{RowLists}
use Rattle.rw_schema.specs.Signature.{Signature}
use Rattle.rw_spec.specs.Cocone.{IsCocone}
use Rattle.rw_spec.specs.Instance.{Instance, instance_of}
use Rattle.rw_terms.specs.declared.code.OpCode.{OpCode}
use Rattle.rw_rule.specs.Images.{is_injective}
use Rattle.rw_rule.specs.RuleLists.{RuleLists}
use Rattle.rw_rule.specs.declared.refusal.Refusal.{Refusal}
use Rattle.rw_rule.specs.declared.refusal.Refusal.TheVariants.{Identification, Dangling, NoValue, TooLarge, Clash}
use Rattle.rw_glued.proofs.Clashes.{no_cocone_at_clash}
use Rattle.rw_glued.proofs.OnlyClash.{only_clash}
use Rattle.rw_redex.proofs.RuleKnown.{IsKnown}
use Rattle.rw_redex.proofs.SameRows.{same_rows}
use Rattle.rw_redex.proofs.SetKinds.{IsMet}
use Rattle.rw_partial.specs.SinglePushout.{Applied, IsApplied, IsLargestPair, frame_of_pair}
use Rattle.rw_partial.specs.SubInstance.{Elements}
use Rattle.rw_partial.proofs.OneSinglePushout.{only_single_pushout}
use Rattle.rw_partial.proofs.Pairs.{pair_host, pair_right, pair_to_host}
use Rattle.rw_partial.proofs.Partial.{cocone_of_pair, largest_once}
use Rattle.rw_partial.proofs.SameFrames.{pairs_frame}
use Rattle.rw_single.specs.Instantiated.{applied_of}
use Rattle.rw_single.specs.Obstructions.{early_pair}
use Rattle.rw_single.specs.Step.{IsSingleStep}
use Rattle.rw_single.specs.Verdicts.{ObstructsPair, ObstructsSingle}
use Rattle.rw_single.proofs.Applied.{applied_is}
use Rattle.rw_single.proofs.Early.{early_same}
use Rattle.rw_single.proofs.SameClashes.{clashes_of_same}

-- the obstruction that is found before atoms are compared, or none for a clash
abbrev early_of : Refusal → Option Refusal
early_of (Identification object first second) = Some (Identification object first second)
early_of (Dangling arrow part) = Some (Dangling arrow part)
early_of (NoValue part attr) = Some (NoValue part attr)
early_of (TooLarge object) = Some (TooLarge object)
early_of (Clash object w attr a b) = None

-- one that is found is this one
early_one : (first second : Refusal) → Some first ≡ early_of second → first ≡ second
early_one first (Identification object left right) same = cc
early_one first (Dangling arrow part) same = cc
early_one first (NoValue part attr) same = cc
early_one first (TooLarge object) same = cc
early_one first (Clash object w attr a b) same = let no : ⊥ = cc in absurd no

-- nothing is not something
none_some : {A : Type 0} {a : A} → None ≡ Some a → ⊥
none_some same = cc

module _ (C : Signature) (codes : List OpCode) (rule : RuleLists) (tuple : List ℕ) (X : Instance) (next : List ℕ)
    (known : IsKnown C (length codes) rule) (apart : is_injective rule.keep rule.l ≡ true) (met : IsMet C rule tuple X)
  where
    -- the rule at the match
    abbrev S : Applied
    S = applied_of codes rule tuple X

    -- a single pushout can be asked of it
    applied : IsApplied C S
    applied = applied_is C codes rule tuple X known apart met

    -- before atoms are compared two largest pairs have the same obstruction
    pub early_of_largest : (D R E Q : Elements) → IsLargestPair C (applied_of codes rule tuple X) D R → IsLargestPair C (applied_of codes rule tuple X) E Q
        → early_pair C codes rule tuple X next R ≡ early_pair C codes rule tuple X next Q
    early_of_largest D R E Q first second = early_same C codes rule tuple X next R Q known.span (largest_once C S D R E Q first second).1

    -- what obstructs one largest pair obstructs the other
    obstructs_other : (D R E Q : Elements) → IsLargestPair C S D R → IsLargestPair C S E Q → (refusal : Refusal)
        → ObstructsPair C codes rule tuple X next E Q refusal → ObstructsPair C codes rule tuple X next D R refusal
    obstructs_other D R E Q first second (Identification object left right) is = is
    obstructs_other D R E Q first second (Dangling arrow part) is = is
    obstructs_other D R E Q first second (NoValue part attr) is = early_of_largest D R E Q first second ∙ is
    obstructs_other D R E Q first second (TooLarge object) is = early_of_largest D R E Q first second ∙ is
    obstructs_other D R E Q first second (Clash object w attr a b) is = (
      early_of_largest D R E Q first second ∙ is.0,
      clashes_of_same C met.category (frame_of_pair S D R) (frame_of_pair S E Q)
          (pairs_frame C met.category S applied D R E Q (largest_once C S D R E Q first second)) next object.0 w attr.0 a b is.1,
    )

    -- at a largest pair
    module _ (D R : Elements) (largest : IsLargestPair C S D R) where
      -- what obstructs tells it
      early_is : (refusal : Refusal) → ObstructsPair C codes rule tuple X next D R refusal → early_pair C codes rule tuple X next R ≡ early_of refusal
      early_is (Identification object left right) is = absurd is
      early_is (Dangling arrow part) is = absurd is
      early_is (NoValue part attr) is = is
      early_is (TooLarge object) is = is
      early_is (Clash object w attr a b) is = is.0

      -- two clashes are one
      one_clash : (o o' : ObjectId) (w w' : ℕ) (c c' : AttrId) (a a' b b' : Atom) → ObstructsPair C codes rule tuple X next D R (Clash o w c a b)
          → ObstructsPair C codes rule tuple X next D R (Clash o' w' c' a' b') → Clash o w c a b ≡ Clash o' w' c' a' b'
      one_clash o o' w w' c c' a a' b b' is other =
          let same =
          only_clash C met.category (frame_of_pair S D R) (pair_host C met.category S applied D R largest) (pair_right C met.category S applied D R largest)
          (pair_to_host C met.category S applied D R largest) next o.0 w c.0 a b o'.0 w' c'.0 a' b' is.1 other.1 in
          let objects : o ≡ o' = ap (λ (n : ℕ). record { 0 = n }) same.0 in
          let attributes : c ≡ c' = ap (λ (n : ℕ). record { 0 = n }) same.2 in
          rw (objects, same.1, attributes, same.3, same.4) refl

      -- there is one first obstruction
      one_obstruction : (first second : Refusal) → ObstructsPair C codes rule tuple X next D R first → ObstructsPair C codes rule tuple X next D R second → first ≡ second
      one_obstruction (Identification object left right) second is other = absurd is
      one_obstruction (Dangling arrow part) second is other = absurd is
      one_obstruction (NoValue part attr) second is other = early_one (NoValue part attr) second (sym is ∙ early_is second other)
      one_obstruction (TooLarge object) second is other = early_one (TooLarge object) second (sym is ∙ early_is second other)
      one_obstruction (Clash o w c a b) (Clash o' w' c' a' b') is other = one_clash o o' w w' c c' a a' b b' is other
      one_obstruction (Clash o w c a b) (Identification object left right) is other = absurd other
      one_obstruction (Clash o w c a b) (Dangling arrow part) is other = absurd other
      one_obstruction (Clash o w c a b) (NoValue part attr) is other = absurd (none_some (sym is.0 ∙ other))
      one_obstruction (Clash o w c a b) (TooLarge object) is other = absurd (none_some (sym is.0 ∙ other))

    -- a match has one first obstruction
    pub only_single_obstruction : (first second : Refusal) → ObstructsSingle C codes rule tuple X next first → ObstructsSingle C codes rule tuple X next second → first ≡ second
    only_single_obstruction first second is other =
        one_obstruction is.host is.right is.largest first second is.obstructs
        (obstructs_other is.host is.right other.host other.right is.largest other.largest second other.obstructs)

    -- a pair of a step is not obstructed
    free_of_step : (after : RowLists) (step : IsSingleStep C codes rule X next tuple after) (refusal : Refusal)
        → ObstructsPair C codes rule tuple X next step.pushout.host step.pushout.right refusal → ⊥
    free_of_step after step (Identification object left right) is = is
    free_of_step after step (Dangling arrow part) is = is
    free_of_step after step (NoValue part attr) is = none_some (sym step.unobstructed ∙ is)
    free_of_step after step (TooLarge object) is = none_some (sym step.unobstructed ∙ is)
    free_of_step after step (Clash object w attr a b) is =
        let found = step.pushout in
        let cocone : IsCocone C (frame_of_pair S found.host found.right) (instance_of C after) found.d found.s =
        (cocone_of_pair C S found.host found.right found.pushout.largest (instance_of C after) found.d found.s).0 found.pushout.cocone in
        no_cocone_at_clash C met.category (frame_of_pair S found.host found.right) next object.0 w attr.0 a b is.1 (instance_of C after) found.d found.s cocone

    -- a match with a step is not obstructed
    pub not_obstructed : (after : RowLists) (refusal : Refusal) → IsSingleStep C codes rule X next tuple after → ObstructsSingle C codes rule tuple X next refusal → ⊥
    not_obstructed after refusal step is =
        free_of_step after step refusal
        (obstructs_other step.pushout.host step.pushout.right is.host is.right step.pushout.pushout.largest is.largest refusal is.obstructs)

    -- a match has one step, names and next names included
    pub only_single_step : (first second : RowLists) → IsSingleStep C codes rule X next tuple first → IsSingleStep C codes rule X next tuple second → first ≡ second
    only_single_step first second is other =
        let same = only_single_pushout C met.category S applied next (instance_of C first) (instance_of C second) first.next second.next is.pushout other.pushout in
        same_rows C met.category first second is.sound other.sound same.0 same.1
