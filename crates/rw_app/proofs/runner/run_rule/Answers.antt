use Rattle.std.proofs.Common.{◌≡◌, ℕ, [], ◌∷◌, ◌++◌, refl, ap, subst, ◌∙◌, arith}
use Rattle.rw_terms.specs.OpEntries.{entries}
use Rattle.rw_terms.specs.OpTables.{codes_of}
use Rattle.rw_document.specs.Models.{document_lists}
use Rattle.rw_app.specs.Runners.{HasBegun, rows_in}
use Rattle.rw_app.proofs.Leading.{begun_more, run_ended, run_spent}
use Rattle.rw_app.proofs.runner.run_rule.Goals as goal

pub loop-left-preserved : goal.loop-left-preserved
loop-left-preserved g c =
    let document = document_lists c.args.document.now in
    let codes = codes_of (entries c.args.ops.now) in
    let firing = c.in_ok-fired.ensures in
    let text : c.extend_from_slice.new.self.items ≡ c.loop-left.text.items ++ c.in_ok-fired.fired.line.items =
    c.in_ok-extend_from_slice.ensures.items ∙ ap (λ line. c.loop-left.text.items ++ line) c.as_slice.ensures.value in
    let begun = begun_more codes document c.args.rule.now c.requires.rule.0 c.args.fuel c.loop-left.left (rows_in c.args.world.now) c.loop-left.world c.fire.new.world
    c.loop-left.text.items c.loop-left.invariant.firings c.in_ok-fired.fired firing.0 c.requires.rule.1 c.loop-left-test.true c.loop-left.invariant.begun firing.1 c.if-not-fired.false in
    record {
      firings = c.loop-left.invariant.firings ++ firing.0 ∷ [];
      begun = rw text begun;
      world = firing.1.world;
    }

pub returns-then-not-fired : goal.returns-then-not-fired
returns-then-not-fired g c =
    let document = document_lists c.args.document.now in
    let codes = codes_of (entries c.args.ops.now) in
    let firing = c.in_ok-fired.ensures in
    let text : c.extend_from_slice.new.self.items ≡ c.loop-left.text.items ++ c.in_ok-fired.fired.line.items =
    c.in_ok-extend_from_slice.ensures.items ∙ ap (λ line. c.loop-left.text.items ++ line) c.as_slice.ensures.value in (
      c.loop-left.invariant.firings ++ firing.0 ∷ [],
      (
        _,
        run_ended codes document c.args.rule.now c.requires.rule.0 c.args.fuel c.loop-left.left (rows_in c.args.world.now) c.loop-left.world c.fire.new.world
            c.loop-left.text.items c.loop-left.invariant.firings c.in_ok-fired.fired firing.0 _ c.requires.rule.1 c.loop-left-test.true c.loop-left.invariant.begun firing.1
            c.if-not-fired.true text refl refl,
      ),
    )

pub returns : goal.returns
returns g c =
    let document = document_lists c.args.document.now in
    let codes = codes_of (entries c.args.ops.now) in
    let none : c.loop-left.left ≡ 0 = omega arith in
    let begun : HasBegun codes document c.args.fuel 0 (rows_in c.args.world.now) (rows_in c.loop-left.world) c.loop-left.text.items c.loop-left.invariant.firings =
    subst (λ (left : ℕ). HasBegun codes document c.args.fuel left (rows_in c.args.world.now) (rows_in c.loop-left.world) c.loop-left.text.items c.loop-left.invariant.firings)
    none c.loop-left.invariant.begun in (
      c.loop-left.invariant.firings,
      (
        _,
        run_spent codes document c.args.rule.now c.requires.rule.0 c.args.fuel (rows_in c.args.world.now) c.loop-left.world c.loop-left.text.items c.loop-left.invariant.firings _
            c.requires.rule.1 begun c.loop-left.invariant.world refl refl refl,
      ),
    )
