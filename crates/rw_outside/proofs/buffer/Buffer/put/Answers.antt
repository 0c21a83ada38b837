use Rattle.std.proofs.Common.{◌≡◌, ◌∙◌, ◌++◌, List, ℕ, ap}
use Rattle.std.proofs.lemmas.Result.{err_from_is_err_and}
use Rattle.rw_outside.proofs.Sent.{none_sent, writes_after, fails_after}
use Rattle.rw_outside.proofs.buffer.Buffer.put.Goals as goal

pub returns-clause-bytes : goal.returns-clause-bytes
returns-clause-bytes g c = writes_after _ _ _ _ _ _ _ c.in_ok-flush.ensures.bytes c.begin.ensures.bytes

pub returns-in_err-flush-clause-bytes : goal.returns-in_err-flush-clause-bytes
returns-in_err-flush-clause-bytes g c =
    let end = err_from_is_err_and c.from_residual.result c.from_residual.ensures.1 in
    rw (end.1, end.2) (fails_after c.args.self.now c.args.text.now _ _ c.flush.new.self _ c.in_err-flush.ensures.bytes)

pub returns-then-text-self-clause-bytes : goal.returns-then-text-self-clause-bytes
returns-then-text-self-clause-bytes g c =
    let items : c.extend_from_slice.new.self.items ≡ c.self.inside.bytes.items ++ c.args.text.now = rw c.unwrap.ensures at c.extend_from_slice.ensures.items in
    rw (items ∙ ap (λ (front : List ℕ). front ++ c.args.text.now) c.self.view_is) (none_sent (c.args.self.now ++ c.args.text.now) (g.K.Sink.held c.args.sink.now))
