-- What a picking of a match gives, as contracts see it.
use Rattle.std.specs.Prelude.{ℕ, List, Option, Some, None, slice_index}
use Rattle.rw_schema.specs.RowLists.{RowLists}
use Rattle.rw_schema.specs.Signature.{Signature}
use Rattle.rw_spec.specs.Instance.{instance_of}
use Rattle.rw_terms.specs.declared.code.OpCode.{OpCode}
use Rattle.rw_rule.specs.RuleLists.{RuleLists}
use Rattle.rw_lists.specs.Fresh.{fresh_list}
use Rattle.rw_local.specs.OneVerdict.{IsChangeOfStep}
use Rattle.rw_app.specs.declared.pick.Applied.{Applied}
use Rattle.rw_app.specs.declared.pick.Pick.{Pick}
use Rattle.rw_app.specs.Runs.{Picks}

-- the match that is applied
abbrev pub applied_tuple : Option Applied → Option (List ℕ)
applied_tuple None = None
applied_tuple (Some applied) = Some applied.tuple

-- the change that is applied fits and leaves the step
abbrev pub IsApplied : Signature → List OpCode → RuleLists → RowLists → Option Applied → Type 0
IsApplied C codes rule rows None = Unit {0}
IsApplied C codes rule rows (Some applied) = IsChangeOfStep C codes rule (instance_of C rows) rows.next applied.tuple applied.change

-- the first match without an obstruction is picked, and its change is that of the step
abbrev pub IsPick : Signature → List OpCode → RuleLists → RowLists → Pick → Type 0
IsPick C codes rule rows pick =
    Picks C codes rule rows (fresh_list C (instance_of C rows) rule.goal) pick.refused.items (applied_tuple pick.applied) × IsApplied C codes rule rows pick.applied
