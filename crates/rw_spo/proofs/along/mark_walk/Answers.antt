-- The next name comes to the others.
use Rattle.std.proofs.Common.{◌≡◌, ◌∙◌, ℕ, List, ◌∷◌, false, Option, Some, Contains, inl, inr, refl, sym, ap, subst}
use Rattle.rw_spec.proofs.Look.{contains_cases}
use Rattle.rw_spec.proofs.Sequences.{contains_first, contains_later, contains_none}
use Rattle.rw_spo.specs.PairContexts.{applied}
use Rattle.rw_spo.specs.declared.element.Element.{Element}
use Rattle.rw_spo.specs.inner.Removal.{MustGo, part_at}
use Rattle.rw_spo.proofs.Growth.{grows_marked, grows_more, marked_stays, some_is}
use Rattle.rw_spo.proofs.along.mark_walk.Goals as goal

pub loop-name-preserved : goal.loop-name-preserved
loop-name-preserved g c =
    let C = g.P.Probe.signature c.args._probe.now in
    let S = applied c.args._rule.now c.args._tuple.now (g.P.Probe.instance c.args._probe.now) in
    let before = c.loop-name.invariant in
    let here : Element = part_at false c.args.object.0 c.in-Some.name in
    let walk : c.loop-name.walk ≡ c.in-Some.name ∷ c.next.new.self = c.in-Some.ensures.gives in
    let first : Contains c.args.walk c.in-Some.name =
    before.2 c.in-Some.name (subst (λ (names : List ℕ). Contains names c.in-Some.name) (sym walk) (contains_first c.in-Some.name c.in-Some.name c.next.new.self refl)) in (
      grows_more C S c.args.removed.now c.loop-name.removed c.mark.new.self before.0
          (grows_marked C S c.loop-name.removed c.mark.new.self (Some here) (λ marked is. subst (MustGo C S) (some_is here marked is) (c.requires c.in-Some.name first)) c.in_ok-mark.ensures),
      (λ x has. elim (before.1 x has) [
        | inl still ↦ elim (contains_cases c.in-Some.name c.next.new.self x (subst (λ (names : List ℕ). Contains names x) walk still)) [
          | inl same ↦ inr (subst (λ (x : ℕ). Contains c.mark.new.self (part_at false c.args.object.0 x)) same (c.in_ok-mark.ensures.there here refl))
          | inr later ↦ inl later
        ]
        | inr there ↦ inr (marked_stays c.loop-name.removed c.mark.new.self (Some here) c.in_ok-mark.ensures (part_at false c.args.object.0 x) there)
      ]),
      (λ x has. before.2 x (subst (λ (names : List ℕ). Contains names x) (sym walk) (contains_later c.in-Some.name c.next.new.self x has))),
    )

pub returns-clause-there : goal.returns-clause-there
returns-clause-there g c = λ x has.
    elim (c.loop-name.invariant.1 x has) [
      | inl still ↦ absurd (contains_none x (subst (λ (names : List ℕ). Contains names x) (c.in_default.ensures.gives).0 still))
      | inr there ↦ there
    ]
