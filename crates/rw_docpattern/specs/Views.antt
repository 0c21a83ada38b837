-- What code has of operations and of patterns as they are written, as contracts see it.
use Rattle.std.specs.Prelude.{map}
use Rattle.serde_json.specs.View.{view}
use Rattle.rw_docpattern.specs.declared.forms.Form.{Form}
use Rattle.rw_docpattern.specs.declared.operation.OperationTexts as code
use Rattle.rw_docpattern.specs.Forms.{PatternForm}
use Rattle.rw_docpattern.specs.Operations.{OperationTexts}

abbrev pub texts_of : code.OperationTexts → OperationTexts
texts_of texts = record { name = texts.name.now; first = view texts.first.now; second = view texts.second.now }

abbrev pub form_of : Form → PatternForm
form_of form = record { sizes = form.sizes.items; rows = map (λ row. row.items) form.rows.items; entries = form.entries.items }
