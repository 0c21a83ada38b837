-- Where the shape is right, the rows are those of the schema's arrows, and the fault of the equations comes last.
use Rattle.std.proofs.Common.{◌≡◌, ◌∙◌, true, sym}
use Rattle.rw_schema.specs.First.{first_in}
use Rattle.rw_schema.specs.Presentation.{signature_of}
use Rattle.rw_table.specs.inner.Along.{instance_along}
use Rattle.rw_table.specs.TableFaults.{has_shape, failure_of}
use Rattle.rw_table.proofs.Along.{equations_along, equations_last, rows_of_arrows}
use Rattle.rw_table.proofs.table.first_fault.Goals as goal

pub first_names_fault-requires-clause-few : goal.first_names_fault-requires-clause-few
first_names_fault-requires-clause-few c = c.are_shaped.ensures.few c.if-not-are_shaped.false

pub first_equation_fault-requires-clause-rows : goal.first_equation_fault-requires-clause-rows
first_equation_fault-requires-clause-rows c =
    rw c.requires.ends (rows_of_arrows (signature_of c.args.schema.now) c.args.rows.now c.requires.category (sym c.are_shaped.ensures.value ∙ c.if-not-are_shaped.false))

pub returns : goal.returns
returns c =
    let C = signature_of c.args.schema.now in
    let rows = c.args.rows.now in
    let fault = c.first_equation_fault.result in
    let shaped : has_shape C rows ≡ true = sym c.are_shaped.ensures.value ∙ c.if-not-are_shaped.false in
    let first : fault ≡ first_in (failure_of (instance_along C.arrows rows)) 0 C.equations = rw (← c.requires.ends, ← c.equation_list-equations.ensures.value) c.first_equation_fault.ensures in
    equations_last C rows fault shaped (sym c.first_names_fault.ensures ∙ c.in_default.is) (sym c.first_range_fault.ensures ∙ c.in_default-first_range_fault.is)
    (sym c.first_kind_fault.ensures ∙ c.in_default-first_kind_fault.is) (first ∙ equations_along C rows)
