-- What is refused first is of one form.
use Rattle.std.proofs.Common.{◌≡◌, ◌⊎◌, ◌+◌, ℕ, Bool, List, [], ◌∷◌, Some, None, nat_le, refl, inl, inr}
use Rattle.std.proofs.lemmas.Bool.{cases_Bool}
use Rattle.rw_schema.specs.First.{fault_unless, first_in}
use Rattle.rw_rule.specs.RuleLists.{RuleLists}
use Rattle.rw_rule.specs.declared.refusal.Refusal.TheVariants.{TooLarge}
use Rattle.rw_redex.specs.NewParts.{next_after}
use Rattle.rw_redex.specs.Obstructions.{most_names, too_large}

-- the first fault is that of some place, where each place has its own
first_unless : {X A : Type 0} (test : ℕ → X → Bool) (fault : ℕ → A) (i : ℕ) (xs : List X)
    → (first_in (λ k x. fault_unless (test k x) (fault k)) i xs ≡ None) ⊎ ((k : ℕ) × (first_in (λ k x. fault_unless (test k x) (fault k)) i xs ≡ Some (fault k)))
first_unless test fault i [] = inl refl
first_unless test fault i (x ∷ xs) =
    elim (cases_Bool (test i x)) [
      | inl passes ↦ rw passes (first_unless test fault (i + 1) xs)
      | inr fails ↦ inr (i, rw fails refl)
    ]

-- nothing else is told of than an object without room
pub room_or_object : (rule : RuleLists) (next : List ℕ) → (too_large rule next ≡ None) ⊎ ((object : ℕ) × (too_large rule next ≡ Some (TooLarge (record { 0 = object }))))
room_or_object rule next =
    first_unless (λ object name. nat_le (next_after rule next object) most_names) (λ object. TooLarge (record { 0 = object })) 0 next
