-- Room changes nothing that is kept.
use Rattle.std.proofs.Common.{◌≡◌, ◌∙◌, ◌<◌, subst, sym}
use Rattle.rw_schema.specs.Signature.{Signature}
use Rattle.rw_spec.specs.Instance.{Instance}
use Rattle.rw_spec.specs.Same.{AreSame}
use Rattle.rw_columns.specs.Changes.{ChangeLists, changed}
use Rattle.rw_columns.specs.ChangedColumns.{AreChanged, KeepContents}
use Rattle.rw_columns.specs.Columned.{Columned, instance_of_columns}
use Rattle.rw_app.proofs.firing.carry_out.Goals as goal

-- what a change makes of columns with the same contents it makes of the columns
changed_from : (old mid new : Columned) (change : ChangeLists) → KeepContents old mid → AreChanged mid change new → AreChanged old change new
changed_from old mid new change kept changed_is =
    let Is : Signature → Instance → Type 0 = λ C X. AreSame C (instance_of_columns new) (changed C X change) in
    record {
      signature = changed_is.signature ∙ kept.signature;
      instance = subst (λ (X : Instance). Is old.signature X) kept.instance
          (subst (λ (C : Signature). Is C (instance_of_columns mid)) kept.signature changed_is.instance);
      names = λ object known. subst (λ (X : Instance). (instance_of_columns new).names object ≡ (changed old.signature X change).names object) kept.instance
          (changed_is.names object (subst (λ (C : Signature). object < C.objects) (sym kept.signature) known));
      next = λ object known. changed_is.next object (subst (λ (C : Signature). object < C.objects) (sym kept.signature) known);
    }

pub returns : goal.returns
returns c = changed_from c.args.columns.now c.make_room.new.self c.commit.new.self c.args.change c.make_room.ensures.contents c.commit.ensures
