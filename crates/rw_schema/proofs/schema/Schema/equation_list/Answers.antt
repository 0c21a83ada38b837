-- The numbers in a schema's equations name objects and arrows.
use Rattle.rw_schema.specs.Presentation.{Presentation}
use Rattle.rw_schema.proofs.Schemas.{numbers_known}
use Rattle.rw_schema.proofs.schema.Schema.equation_list.Goals as goal

pub returns-clause-numbers : goal.returns-clause-numbers
returns-clause-numbers c =
    let schema : Presentation = record { objects = c.self.inside.objects.items; arrows = c.self.inside.arrows.items; attributes = c.self.inside.attributes.items; equations = c.self.inside.equations.items } in
    rw (← c.self.view_is) (numbers_known schema c.self.invariant.0)
