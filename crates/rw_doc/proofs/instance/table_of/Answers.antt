-- Only an equation can fail, and its first failure is the document's.
use Rattle.std.proofs.Common.{rules, ◌≡◌, ◌∙◌, Some, sym}
use Rattle.rw_schema.specs.Presentation.{signature_of}
use Rattle.rw_table.specs.TableFaults.{equation_fault}
use Rattle.rw_table.specs.declared.fault.TableFault.TheVariants.{Equation}
use Rattle.rw_doc.proofs.FirstFailures.{CanCome, can_come, equation_refused, equations_hold}
use Rattle.rw_doc.proofs.instance.table_of.Goals as goal

pub unreachable-requires : goal.unreachable-requires
unreachable-requires c =
    let can : CanCome c.in-Err.field-0 = can_come (signature_of c.args.schema.now) c.args.rows c.in-Err.field-0 c.requires c.in-Err.ensures in
    search rules

pub returns-in-Err-Equation : goal.returns-in-Err-Equation
returns-in-Err-Equation c =
    let C = signature_of c.args.schema.now in
    let equation = c.in-Err-Equation.equation in
    let name = c.in-Err-Equation.name in
    let failed : equation_fault C c.args.rows ≡ Some (Equation equation name) = sym c.requires ∙ rw c.in-Err-Equation.field-0-is at c.in-Err-Equation.ensures in
    rw c.refused_at.ensures (equation_refused C c.args.rows equation name failed)

pub returns-in-Ok : goal.returns-in-Ok
returns-in-Ok c =
    let holds = c.in-Ok.ensures in
    rw holds.0 (equations_hold (signature_of c.args.schema.now) c.args.rows (sym c.requires ∙ holds.1))
