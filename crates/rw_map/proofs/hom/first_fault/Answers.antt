-- Lists without a fault of shape have one image for each name.
use Rattle.std.proofs.Common.{◌∙◌, sym}
use Rattle.rw_schema.specs.Presentation.{signature_of}
use Rattle.rw_spec.specs.Tabled.{instance_of_table}
use Rattle.rw_map.proofs.HomChecks.{shape_known}
use Rattle.rw_map.proofs.hom.first_fault.Goals as goal

pub first_range_fault-requires-clause-shape : goal.first_range_fault-requires-clause-shape
first_range_fault-requires-clause-shape c =
    shape_known (signature_of c.args.schema.now) (instance_of_table c.args.x.now) c.args.map.now (sym c.first_shape_fault.ensures ∙ c.in_default.is)

pub first_square_fault-requires-clause-shape : goal.first_square_fault-requires-clause-shape
first_square_fault-requires-clause-shape c =
    shape_known (signature_of c.args.schema.now) (instance_of_table c.args.x.now) c.args.map.now (sym c.first_shape_fault.ensures ∙ c.in_default.is)

pub first_cell_fault-requires-clause-shape : goal.first_cell_fault-requires-clause-shape
first_cell_fault-requires-clause-shape c =
    shape_known (signature_of c.args.schema.now) (instance_of_table c.args.x.now) c.args.map.now (sym c.first_shape_fault.ensures ∙ c.in_default.is)
