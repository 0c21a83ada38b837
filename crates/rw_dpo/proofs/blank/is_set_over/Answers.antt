-- A part that is not set stands for all, or all so far are set.
use Rattle.std.proofs.Common.{◌≡◌, ◌∙◌, ℕ, ◌<◌, Bool, false, sym, ap}
use Rattle.std.specs.List.{list_all}
use Rattle.std.proofs.lemmas.Bool.{both_ways, false_from_ne_true}
use Rattle.rw_spec.proofs.Ranges.{range_has}
use Rattle.rw_spec.proofs.Sequences.{list_all_contained}
use Rattle.rw_pattern.specs.PatternLists.{PatternLists, size_of}
use Rattle.rw_rule.specs.Images.{parts_of}
use Rattle.rw_dpo.specs.inner.Blank.{is_set_beside}
use Rattle.rw_dpo.proofs.Ordered.{all_more}
use Rattle.rw_dpo.proofs.blank.is_set_over.Goals as goal

pub returns-then-not-is_set_at : goal.returns-then-not-is_set_at
returns-then-not-is_set_at c =
    let test : ℕ → Bool = is_set_beside c.args.rule.now c.args.tuple.now c.args.object.0 c.args.attribute.0 c.args.name in
    let keep : PatternLists = c.args.rule.now.keep in
    let part : ℕ = c.loop-part.part in
    let size : c.size-part-end.result ≡ size_of keep c.args.object.0 =
    c.size-part-end.ensures ∙ ap (λ (keep : PatternLists). size_of keep c.args.object.0) c.keep.ensures in
    let below : part < size_of keep c.args.object.0 = rw (← size) c.loop-part-test.true in
    let fails : test part ≡ false = sym c.is_set_at.ensures ∙ c.if-not-is_set_at.true in
    sym (false_from_ne_true (list_all test (parts_of keep c.args.object.0)) (λ all.
    both_ways (test part) fails (list_all_contained test (parts_of keep c.args.object.0) part all (range_has (size_of keep c.args.object.0) part below))))

pub loop-part-preserved : goal.loop-part-preserved
loop-part-preserved c =
    all_more (is_set_beside c.args.rule.now c.args.tuple.now c.args.object.0 c.args.attribute.0 c.args.name) c.loop-part.part c.loop-part.invariant
    (sym c.is_set_at.ensures ∙ c.if-not-is_set_at.false)
