-- The arrow's column has a number at each name of its source, and that is a name of its target.
use Rattle.std.proofs.Common.{sym, subst}
use Rattle.rw_columns.specs.Columned.{instance_of_columns}
use Rattle.rw_spec.specs.Instance.{Has}
use Rattle.rw_spec.specs.Ends.{target_of}
use Rattle.rw_columns.proofs.Columned.{source_place, leads_within}
use Rattle.rw_columns.proofs.columns.Columns.value.Goals as goal

pub value-requires : goal.value-requires
value-requires g c = rw c.row.ensures.column (source_place c.args.self.now c.row.ensures.sound c.args.arrow.0 c.requires.arrow c.args.name c.requires.name).0

pub returns-clause-within : goal.returns-clause-within
returns-clause-within g c =
    let columns = c.args.self.now in
    subst (Has (instance_of_columns columns) (target_of columns.signature c.args.arrow.0)) (sym (rw c.row.ensures.column at c.value.ensures))
    (leads_within columns c.row.ensures.sound c.args.arrow.0 c.requires.arrow c.args.name c.requires.name)
