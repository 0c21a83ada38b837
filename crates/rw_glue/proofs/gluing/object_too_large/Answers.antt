-- The first object without room.
use Rattle.std.proofs.Common.{◌≡◌, ◌∙◌, ap, inl, inr, option_and_then, option_map, sym}
use Rattle.rw_schema.specs.declared.ids.ObjectId.{ObjectId}
use Rattle.rw_rule.specs.declared.refusal.Refusal.TheVariants.{TooLarge}
use Rattle.rw_glue.specs.inner.Refused.{object_told}
use Rattle.rw_glue.proofs.Rooms.{room_or_object}
use Rattle.rw_glue.proofs.gluing.object_too_large.Goals as goal

pub returns : goal.returns
returns c =
    let told : c.object_in.result ≡ option_and_then object_told c.first_too_large.result = c.object_in.ensures in
    elim (room_or_object c.args.rule.now c.args.next.now) [
      | inl none ↦
          ap (option_map (λ (object : ObjectId). TooLarge object)) (told ∙ ap (option_and_then object_told) (c.first_too_large.ensures ∙ none)) ∙ sym none
      | inr (object, is) ↦
          ap (option_map (λ (object : ObjectId). TooLarge object)) (told ∙ ap (option_and_then object_told) (c.first_too_large.ensures ∙ is)) ∙ sym is
    ]
