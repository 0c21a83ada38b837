-- The first such part is the first of those that are left.
use Rattle.std.proofs.Common.{◌≡◌, drop}
use Rattle.rw_schema.specs.First.{first_in}
use Rattle.rw_pattern.specs.PatternLists.{size_of}
use Rattle.rw_redex.specs.Gluing.{identification_at, identification_of}
use Rattle.rw_rule.specs.Images.{parts_of}
use Rattle.rw_dpo.proofs.identification.identification_at.Given as goal

abbrev pub invariant-loop-first : goal.invariant-loop-first
invariant-loop-first l =
    identification_at l.rule l.tuple l.object.0 (size_of l.rule.goal.left l.object.0)
    ≡ first_in (λ place first. identification_of l.rule l.tuple l.object.0 first) l.first (drop l.first (parts_of l.rule.goal.left l.object.0))
