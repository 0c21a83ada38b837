-- What is read of conditions, as contracts see it.
use Rattle.std.specs.Prelude.{map}
use Rattle.rw_rule.specs.RuleParts.{condition_of_parts}
use Rattle.rw_docpattern.specs.Drafts.{draft_seen}
use Rattle.rw_docpattern.specs.Views.{form_of}
use Rattle.rw_doccondition.specs.declared.forms.ConditionForm as forms
use Rattle.rw_doccondition.specs.declared.known.Known as knowns
use Rattle.rw_doccondition.specs.declared.parts.ConditionDraft as drafts
use Rattle.rw_doccondition.specs.declared.conditions.ConditionsRead as conditions
use Rattle.rw_doccondition.specs.Conditions.{ConditionDraft, ConditionsRead}
use Rattle.rw_doccondition.specs.Forms.{ConditionForm}
use Rattle.rw_doccondition.specs.Variables.{Known}

abbrev pub form_seen : forms.ConditionForm → ConditionForm
form_seen form = record { positive = form.positive; pattern = form_of form.pattern; images = form.images; monic = form.monic.items }

abbrev pub known_seen : knowns.Known → Known
known_seen known = record { names = known.names; kinds = known.kinds.items }

abbrev pub parts_seen : drafts.ConditionDraft → ConditionDraft
parts_seen parts = record { draft = draft_seen parts.draft; monic = parts.monic.items; images = parts.images }

abbrev pub conditions_seen : conditions.ConditionsRead → ConditionsRead
conditions_seen read = record { conditions = map condition_of_parts read.conditions.items; known = known_seen read.known }
