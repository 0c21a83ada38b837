-- Where no object is too large, there is room for the names of its new parts.
use Rattle.std.proofs.Common.{◌≡◌, ℕ, ◌+◌, ◌<◌, ◌≤◌, nat_le, Option, None, List, length, slice_index, zero-add}
use Rattle.std.proofs.lemmas.Bool.{leb-true}
use Rattle.std.proofs.lemmas.Option.{slice_get-get_or}
use Rattle.rw_schema.specs.First.{fault_unless}
use Rattle.rw_schema.proofs.Firsts.{first_none, passed_unless}
use Rattle.rw_rule.specs.declared.refusal.Refusal.{Refusal}
use Rattle.rw_rule.specs.declared.refusal.Refusal.TheVariants.{TooLarge}
use Rattle.rw_rule.specs.RuleLists.{RuleLists}
use Rattle.rw_redex.specs.Obstructions.{most_names, too_large}
use Rattle.rw_redex.specs.NewParts.{next_after}

-- the next name of each object after the step is at most the greatest one
pub room_at : (rule : RuleLists) (next : List ℕ) (object : ℕ) → too_large rule next ≡ None → object < length next → next_after rule next object ≤ most_names
room_at rule next object none within =
    let refusal : ℕ → ℕ → Option Refusal = λ object name. fault_unless (nat_le (next_after rule next object) most_names) (TooLarge (record { 0 = object })) in
    let here : refusal (0 + object) (slice_index next object) ≡ None = first_none refusal 0 next none object (slice_index next object) (slice_get-get_or next object 0 within) in
    let there : refusal object (slice_index next object) ≡ None = rw zero-add at here in
    leb-true (next_after rule next object) most_names (passed_unless (nat_le (next_after rule next object) most_names) (TooLarge (record { 0 = object })) there)
