-- The ends of a schema's arrow are objects.
use Rattle.std.proofs.Common.{◌≡◌, ◌<◌, length, slice_get, Some, refl}
use Rattle.std.proofs.lemmas.Option.{slice_get_read}
use Rattle.rw_schema.specs.Presentation.{Presentation}
use Rattle.rw_schema.proofs.Schemas.{ends_known_at}
use Rattle.rw_schema.proofs.schema.Schema.arrow.Goals as goal
use Rattle.rw_schema.proofs.schema.Schema.arrow.Goals.{After-index}

-- both ends of the arrow that is read are objects
ends : (c : After-index) → (c.index.result.now.source.0 < length c.args.self.now.objects) × (c.index.result.now.target.0 < length c.args.self.now.objects)
ends c =
    let arrows = c.self.inside.arrows.items in
    let schema : Presentation = record { objects = c.self.inside.objects.items; arrows = arrows; attributes = c.self.inside.attributes.items; equations = c.self.inside.equations.items } in
    let within : c.args.arrow.0 < length arrows = rw (← c.self.view_is) at c.requires in
    let there : slice_get arrows c.args.arrow.0 ≡ Some c.index.result.now = slice_get_read arrows (length arrows) c.args.arrow.0 c.index.result.now refl within c.index.ensures in
    rw (← c.self.view_is) (ends_known_at schema c.args.arrow.0 c.index.result.now c.self.invariant.0 there)

pub returns-clause-source : goal.returns-clause-source
returns-clause-source c = (ends c).0

pub returns-clause-target : goal.returns-clause-target
returns-clause-target c = (ends c).1
