-- The columns, read as the instance of their lists, are the host.
use Rattle.std.proofs.Common.{◌≡◌, ◌∙◌, ◌<◌, ℕ, Contains, IfOk, List, ap, length, slice_index, sym, subst}
use Rattle.rw_schema.specs.Presentation.{signature_of}
use Rattle.rw_schema.specs.Signature.{Signature}
use Rattle.rw_spec.specs.Instance.{Has, Instance, instance_of}
use Rattle.rw_columns.specs.Columned.{Columned}
use Rattle.rw_columns.specs.Kept.{lists_of_columns}
use Rattle.rw_terms.specs.OpEntries.{entries}
use Rattle.rw_terms.specs.OpTables.{codes_of}
use Rattle.rw_lists.specs.Fresh.{fresh_list}
use Rattle.rw_app.specs.Verdicts.{IsVerdict}
use Rattle.rw_app.proofs.ColumnLists.{listed_below, listed_instance, listed_over, next_long}
use Rattle.rw_app.proofs.pick.try_tuple.Goals as goal

pub try_match-requires-clause-probe : goal.try_match-requires-clause-probe
try_match-requires-clause-probe g c = subst (λ (columns : Columned). columns.signature ≡ signature_of c.args.schema.now) (sym c.of-host.ensures) c.requires.columns

pub try_match-requires-clause-counted : goal.try_match-requires-clause-counted
try_match-requires-clause-counted g c =
    ap (λ (next : List ℕ). length next) c.requires.next ∙ next_long c.args.columns.now ∙ ap (λ (C : Signature). C.objects) c.requires.columns

pub try_match-requires-clause-below : goal.try_match-requires-clause-below
try_match-requires-clause-below g c = λ object x known has.
    let columns : Columned = c.args.columns.now in
    let within : object < columns.signature.objects = subst (λ (C : Signature). object < C.objects) (sym c.requires.columns) known in
    subst (λ (next : List ℕ). x < slice_index next object) (sym c.requires.next)
    (listed_below columns object x within (subst (λ (host : Columned). Has (listed_instance host) object x) c.of-host.ensures has))

pub try_match-requires-clause-tuple : goal.try_match-requires-clause-tuple
try_match-requires-clause-tuple g c =
    let C : Signature = signature_of c.args.schema.now in
    subst (λ (X : Instance). Contains (fresh_list C X c.args.rule.now.goal) c.args.tuple.now)
    (sym (listed_over c.args.columns.now c.of-host.result.columns.now C c.of-host.ensures c.requires.columns)) c.requires.tuple

pub returns : goal.returns
returns g c =
    let C : Signature = signature_of c.args.schema.now in
    let codes = codes_of (entries c.args.ops.now) in
    let X : Instance = instance_of C (lists_of_columns c.args.columns.now) in
    let there : IfOk c.try_match.result (IsVerdict C codes c.args.rule.now X c.args.next.now c.args.tuple.now) =
    subst (λ (X : Instance). IfOk c.try_match.result (IsVerdict C codes c.args.rule.now X c.args.next.now c.args.tuple.now))
    (listed_over c.args.columns.now c.of-host.result.columns.now C c.of-host.ensures c.requires.columns) c.try_match.ensures in
    subst (λ (next : List ℕ). IfOk c.try_match.result (IsVerdict C codes c.args.rule.now X next c.args.tuple.now)) c.requires.next there
