-- What was read is a schema.
use Rattle.std.proofs.Common.{option_map}
use Rattle.serde_json.specs.View.{view}
use Rattle.rw_doc.proofs.SoundSchemas.{sections_sound}
use Rattle.rw_doc.proofs.schema.read_sections.Goals as goal

pub schema_of-requires : goal.schema_of-requires
schema_of-requires c =
    sections_sound (view c.args.objects.now) (view c.args.arrows.now)
    (option_map (λ value. view value.now) c.args.attributes) (option_map (λ value. view value.now) c.args.equations)
    c.in_ok-objects.objects.items c.in_ok-arrows.arrows.items c.in_ok-attributes.attributes.items c.in_ok-equations.equations.items
    c.in_ok-objects.ensures.gives (rw c.as_slice.ensures.value at c.in_ok-arrows.ensures.gives) (rw c.as_slice-2.ensures.value at c.in_ok-attributes.ensures)
    (rw (c.as_slice-3.ensures.value, c.as_slice-4.ensures.value) at c.in_ok-equations.ensures)
