-- The attributes of a schema belong to objects.
use Rattle.rw_schema.specs.Presentation.{Presentation}
use Rattle.rw_schema.proofs.Schemas.{holders_known}
use Rattle.rw_schema.proofs.schema.Schema.attribute_list.Goals as goal

pub returns-clause-holders : goal.returns-clause-holders
returns-clause-holders c =
    let schema : Presentation = record { objects = c.self.inside.objects.items; arrows = c.self.inside.arrows.items; attributes = c.self.inside.attributes.items; equations = c.self.inside.equations.items } in
    rw (← c.self.view_is) (holders_known schema c.self.invariant.0)
