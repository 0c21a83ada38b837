-- What obstructs a rule at a match, beside parts that are identified and atoms that meet: each at its least place.
use Rattle.std.specs.Prelude.{ℕ, Bool, not, ◌&&◌, nat_le, List, Option}
use Rattle.rw_schema.specs.declared.signature.ArrowEnds.{ArrowEnds}
use Rattle.rw_schema.specs.First.{first_in, fault_unless}
use Rattle.rw_schema.specs.Signature.{Signature}
use Rattle.rw_spec.specs.Instance.{Instance}
use Rattle.rw_rule.specs.RuleLists.{RuleLists}
use Rattle.rw_rule.specs.declared.refusal.Refusal.{Refusal}
use Rattle.rw_rule.specs.declared.refusal.Refusal.TheVariants.{Dangling, TooLarge}
use Rattle.rw_redex.specs.Matched.{is_matched, is_removed}
use Rattle.rw_redex.specs.NewParts.{next_after}

-- the greatest next name
abbrev pub most_names : ℕ
most_names = 16777216

-- the arrow leads from the name, outside the match, to a name that is removed
abbrev pub dangles : RuleLists → List ℕ → Instance → ℕ → ArrowEnds → ℕ → Bool
dangles rule tuple X arrow ends name =
    not (is_matched rule tuple ends.source.0 name) && is_removed rule tuple ends.target.0 (X.value arrow name)

-- the first name at which the arrow dangles
abbrev pub dangling_at : RuleLists → List ℕ → Instance → ℕ → ArrowEnds → Option Refusal
dangling_at rule tuple X arrow ends =
    first_in (λ place name. fault_unless (not (dangles rule tuple X arrow ends name)) (Dangling (record { 0 = arrow }) name)) 0 (X.names ends.source.0)

-- the first arrow that dangles
abbrev pub dangling : Signature → RuleLists → List ℕ → Instance → Option Refusal
dangling C rule tuple X = first_in (dangling_at rule tuple X) 0 C.arrows

-- the first object whose next name would pass the greatest one
abbrev pub too_large : RuleLists → List ℕ → Option Refusal
too_large rule next =
    first_in (λ object name. fault_unless (nat_le (next_after rule next object) most_names) (TooLarge (record { 0 = object }))) 0 next
