use Rattle.std.proofs.Common.{◌≡◌, ◌∙◌, ◌++◌, List, ℕ, ap}
use Rattle.rw_outside.proofs.Sent.{none_sent, writes_at_once}
use Rattle.rw_outside.proofs.buffer.Buffer.begin.Goals as goal

pub returns-clause-bytes : goal.returns-clause-bytes
returns-clause-bytes g c =
    let items : c.extend_from_slice.new.self.items ≡ c.self.inside.bytes.items ++ c.args.text.now = rw c.unwrap.ensures at c.extend_from_slice.ensures.items in
    rw (items ∙ ap (λ (front : List ℕ). front ++ c.args.text.now) (c.self.view_is ∙ c.requires)) (none_sent c.args.text.now (g.K.Sink.held c.args.sink.now))

pub returns-then-text-self-clause-bytes : goal.returns-then-text-self-clause-bytes
returns-then-text-self-clause-bytes g c = writes_at_once _ _ _ _ _ c.requires c.write_all.ensures.bytes
