-- What is read is a term by its last level.
use Rattle.std.proofs.Common.{rules, refl, arith}
use Rattle.serde_json.specs.View.{view}
use Rattle.rw_docpattern.proofs.TermLevels.{none_within, level_within}
use Rattle.rw_docpattern.proofs.terms.+term_within.Goals as goal

pub returns-then-levels-eq0 : goal.returns-then-levels-eq0
returns-then-levels-eq0 t c = rw (c.if-levels-eq0.true, none_within (view c.args.value.now)) refl

pub returns-in-Some : goal.returns-in-Some
returns-in-Some t c = rw (level_within c.args.levels (view c.args.value.now) (omega arith)) (search rules)

pub returns-in_default-operation_texts : goal.returns-in_default-operation_texts
returns-in_default-operation_texts t c = rw (level_within c.args.levels (view c.args.value.now) (omega arith)) (search rules)

pub returns : goal.returns
returns t c = rw (level_within c.args.levels (view c.args.value.now) (omega arith)) (search rules)
