-- An object without room is the first, or the first is one of those that are left.
use Rattle.std.proofs.Common.{ℕ, ◌<◌, Option, nat_le, List, length, slice_index, sym, ◌∙◌, arith}
use Rattle.std.proofs.lemmas.Option.{slice_get-get_or}
use Rattle.rw_schema.specs.First.{fault_unless}
use Rattle.rw_schema.specs.Presentation.{signature_of}
use Rattle.rw_schema.proofs.Firsts.{unless_false, first_past}
use Rattle.rw_rule.specs.declared.refusal.Refusal.{Refusal}
use Rattle.rw_rule.specs.declared.refusal.Refusal.TheVariants.{TooLarge}
use Rattle.rw_rule.specs.RuleLists.{RuleLists}
use Rattle.rw_redex.specs.Obstructions.{most_names}
use Rattle.rw_redex.specs.NewParts.{next_after}
use Rattle.rw_redex.proofs.Firsts.{answer_here}
use Rattle.rw_redex.proofs.RuleParts.{object_known}
use Rattle.rw_redex.proofs.growth.first_too_large.Goals as goal

-- why an object's next name is refused
abbrev refusal_at : RuleLists → List ℕ → ℕ → ℕ → Option Refusal
refusal_at rule next object name = fault_unless (nat_le (next_after rule next object) most_names) (TooLarge (record { 0 = object }))

pub has_room-requires : goal.has_room-requires
has_room-requires c =
    object_known (signature_of c.args.schema.now) c.args.rule.now c.loop-number.number c.requires.rule (omega arith)

pub returns-then-not-has_room : goal.returns-then-not-has_room
returns-then-not-has_room c =
    let rule : RuleLists = c.args.rule.now in
    let next : List ℕ = c.args.next.now in
    let number : ℕ = c.loop-number.number in
    let within : number < length next = omega arith in
    sym (c.loop-number.invariant
    ∙ answer_here (refusal_at rule next) next number (slice_index next number) (TooLarge (record { 0 = number })) (slice_get-get_or next number 0 within)
    (unless_false (nat_le (next_after rule next number) most_names) (TooLarge (record { 0 = number })) (sym c.if-not-has_room.ensures)))

pub returns : goal.returns
returns c =
    let next : List ℕ = c.args.next.now in
    sym (c.loop-number.invariant ∙ first_past (refusal_at c.args.rule.now next) c.loop-number.number c.loop-number.number next (omega arith))
