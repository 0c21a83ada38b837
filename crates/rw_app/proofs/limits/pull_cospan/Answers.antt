-- The object with too many pairs is one of the schema.
use Rattle.rw_schema.specs.Presentation.{signature_of}
use Rattle.rw_docspan.specs.Views.{cospan_lists}
use Rattle.rw_app.specs.Limits.{base_of_cospan}
use Rattle.rw_app.proofs.LargeObjects.{large_object}
use Rattle.rw_app.proofs.limits.pull_cospan.Goals as goal

pub large_line-requires : goal.large_line-requires
large_line-requires c =
    large_object (signature_of c.args.schema.now) (base_of_cospan (cospan_lists c.args.cospan.now)) c.in-Err-TooLarge.object
    (rw c.in-Err-TooLarge.field-0-is at c.in-Err-TooLarge.ensures)
