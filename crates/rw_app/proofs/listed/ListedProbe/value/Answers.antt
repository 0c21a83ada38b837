-- The value is that of the columns.
use Rattle.std.proofs.Common.{◌∙◌, subst, sym}
use Rattle.rw_spec.specs.Ends.{target_of}
use Rattle.rw_spec.specs.Instance.{Has}
use Rattle.rw_app.proofs.ColumnLists.{has_source, listed_instance, target_has, value_same}
use Rattle.rw_app.proofs.listed.ListedProbe.value.Goals as goal

pub value-requires-clause-name : goal.value-requires-clause-name
value-requires-clause-name g c =
    has_source c.args.self.now.columns.now c.known_columns.ensures.category c.known_columns.ensures.ascend c.args.arrow.0 c.args.name c.requires.arrow c.requires.name

pub returns-clause-value : goal.returns-clause-value
returns-clause-value g c =
    let columns = c.args.self.now.columns.now in
    let category = c.known_columns.ensures.category in
    let has = has_source columns category c.known_columns.ensures.ascend c.args.arrow.0 c.args.name c.requires.arrow c.requires.name in
    c.value.ensures.value ∙ value_same columns category c.known_columns.ensures.ascend c.args.arrow.0 c.args.name c.requires.arrow has

pub returns-clause-within : goal.returns-clause-within
returns-clause-within g c =
    target_has c.args.self.now.columns.now c.known_columns.ensures.category c.known_columns.ensures.ascend c.args.arrow.0 c.value.result c.requires.arrow c.value.ensures.within
