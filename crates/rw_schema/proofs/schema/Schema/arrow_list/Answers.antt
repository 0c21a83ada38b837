-- What holds of lists that are a schema.
use Rattle.rw_schema.specs.Presentation.{Presentation}
use Rattle.rw_schema.proofs.Schemas.{ends_known, presents_category}
use Rattle.rw_schema.proofs.schema.Schema.arrow_list.Goals as goal

pub returns-clause-ends : goal.returns-clause-ends
returns-clause-ends c =
    let schema : Presentation = record { objects = c.self.inside.objects.items; arrows = c.self.inside.arrows.items; attributes = c.self.inside.attributes.items; equations = c.self.inside.equations.items } in
    rw (← c.self.view_is) (ends_known schema c.self.invariant.0)

pub returns-clause-category : goal.returns-clause-category
returns-clause-category c =
    let schema : Presentation = record { objects = c.self.inside.objects.items; arrows = c.self.inside.arrows.items; attributes = c.self.inside.attributes.items; equations = c.self.inside.equations.items } in
    rw (← c.self.view_is) (presents_category schema c.self.invariant.0)
