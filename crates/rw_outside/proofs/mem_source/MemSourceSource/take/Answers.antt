use Rattle.std.proofs.Common.{◌≡◌, ◌∙◌, ap, sym, arith, length-append, length-drop, drop, take, length, min}
use Rattle.std.proofs.lemmas.List.{length-take}
use Rattle.rw_outside.proofs.Rests.{rest_taken, rest_ended}
use Rattle.rw_outside.proofs.mem_source.MemSourceSource.take.Goals as goal

pub returns-clause-bytes : goal.returns-clause-bytes
returns-clause-bytes c =
    let rest_is = c.split_at.ensures.back ∙ ap (drop c.self.inside.next) c.deref-2.ensures.value in
    let piece_is = c.copy_from_slice.ensures.after ∙ ap (take c.min-count.result) rest_is in
    let room = c.args.room.now in
    let size : length c.copy_from_slice.new.self ≡ c.min-count.result =
    omega (arith, c.copy_from_slice.ensures.len, length-take c.min-count.result room) in (
      ap (λ s. s.left) (sym c.self.view_is)
          ∙ rest_taken c.self.inside.next c.min-count.result c.self.inside.bytes.items c.copy_from_slice.new.self room piece_is size,
      λ none wide.
          rest_ended c.self.inside.next c.min-count.result c.self.inside.most (length room) c.self.inside.bytes.items
          (c.min-count.ensures ∙ ap (min c.self.inside.most) (c.min.ensures ∙ ap (λ rest. min (length room) (length rest)) rest_is))
          c.self.invariant.1
          (omega (arith, length-append c.copy_from_slice.new.self (drop c.min-count.result room), length-drop c.min-count.result room))
          none,
    )
