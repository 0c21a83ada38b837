-- The list of a goal in columns is that in the lists which the columns keep.
use Rattle.std.proofs.Common.{◌≡◌, ℕ, ◌<◌, true, None, List, sym, subst}
use Rattle.rw_schema.specs.RowLists.{RowLists}
use Rattle.rw_schema.specs.Signature.{Signature, IsCategory}
use Rattle.rw_spec.specs.Ascending.{ascends}
use Rattle.rw_spec.specs.Instance.{Instance, instance_of}
use Rattle.rw_table.specs.TableFaults.{table_fault}
use Rattle.rw_table.proofs.Checked.{checked_known, names_ascend}
use Rattle.rw_columns.specs.Columned.{Columned, instance_of_columns}
use Rattle.rw_columns.specs.Kept.{Keeps}
use Rattle.rw_columns.proofs.KeptLists.{kept_same}
use Rattle.rw_rule.specs.RuleLists.{GoalLists}
use Rattle.rw_lists.specs.Fresh.{IsListable, fresh_list}
use Rattle.rw_lists.proofs.SameMatches.{same_matches}

-- a goal has the same list in both
pub same_list : (C : Signature) (rows : RowLists) (columns : Columned) (goal : GoalLists) → IsCategory C → table_fault C rows ≡ None → Keeps C rows columns
    → IsListable C goal → fresh_list C (instance_of_columns columns) goal ≡ fresh_list C (instance_of C rows) goal
same_list C rows columns goal category sound keeps listable =
    let X : Instance = instance_of_columns columns in
    let Y : Instance = instance_of C rows in
    let up : (object : ℕ) → object < C.objects → ascends (Y.names object) ≡ true =
    λ object known. names_ascend rows object (checked_known C rows sound).names in
    sym (same_matches C goal.left goal.monic Y X category (goal.kinds, listable.over.left) (kept_same C rows columns keeps)
    up (λ object known. subst (λ (names : List ℕ). ascends names ≡ true) (sym (keeps.names object)) (up object known)))
