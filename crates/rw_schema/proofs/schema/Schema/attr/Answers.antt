-- The object of a schema's attribute is one.
use Rattle.std.proofs.Common.{◌≡◌, ◌<◌, length, slice_get, Some, refl}
use Rattle.std.proofs.lemmas.Option.{slice_get_read}
use Rattle.rw_schema.specs.Presentation.{Presentation}
use Rattle.rw_schema.proofs.Schemas.{holder_known_at}
use Rattle.rw_schema.proofs.schema.Schema.attr.Goals as goal

pub returns-clause-holder : goal.returns-clause-holder
returns-clause-holder c =
    let attributes = c.self.inside.attributes.items in
    let schema : Presentation = record { objects = c.self.inside.objects.items; arrows = c.self.inside.arrows.items; attributes = attributes; equations = c.self.inside.equations.items } in
    let within : c.args.attribute.0 < length attributes = rw (← c.self.view_is) at c.requires in
    let there : slice_get attributes c.args.attribute.0 ≡ Some c.index.result.now = slice_get_read attributes (length attributes) c.args.attribute.0 c.index.result.now refl within c.index.ensures in
    rw (← c.self.view_is) (holder_known_at schema c.args.attribute.0 c.index.result.now c.self.invariant.0 there)
