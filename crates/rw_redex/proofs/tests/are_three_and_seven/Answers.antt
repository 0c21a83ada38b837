use Rattle.std.proofs.Common.{◌≡◌, ◌∙◌, ◌<◌, ℕ, [], ◌∷◌, List, true, length, pos, slice_index_or, zero, suc, sym, ap, subst, arith}
use Rattle.rw_schema.specs.declared.atom.Atom.{Atom}
use Rattle.rw_schema.specs.declared.atom.Atom.TheVariants as atoms
use Rattle.rw_terms.specs.declared.code.OpCode.{OpCode}
use Rattle.rw_terms.specs.declared.term.Term.TheVariants.{Const, Var}
use Rattle.rw_terms.specs.OpEntries.{entries}
use Rattle.rw_terms.specs.OpTables.{codes_of}
use Rattle.rw_terms.specs.Terms.{Fit, is_evaluable}
use Rattle.rw_terms.proofs.TermValues.{fit_of_constant, fit_of_variable}
use Rattle.rw_rule.specs.declared.set.SetCell.{SetCell}
use Rattle.rw_redex.proofs.tests.are_three_and_seven.Goals as goal

-- the sets of the rule
abbrev both : List SetCell
both = record { attr = record { 0 = 0 }; part = 0; term = Var 0 } ∷ record { attr = record { 0 = 0 }; part = 1; term = Const (atoms.Int (pos 7)) } ∷ []

-- each of them can be evaluated where the variable has a value
both_evaluable : (codes : List OpCode) (k : ℕ) (d : SetCell) → k < length both → is_evaluable codes (atoms.Int (pos 3) ∷ []) (slice_index_or both k d).term ≡ true
both_evaluable codes zero d within = ap (λ (known : Fit). known.fits) (fit_of_variable codes (atoms.Int (pos 3) ∷ []) 0)
both_evaluable codes (suc zero) d within = ap (λ (known : Fit). known.fits) (fit_of_constant codes (atoms.Int (pos 3) ∷ []) (atoms.Int (pos 7)))
both_evaluable codes (suc (suc k)) d within = absurd (omega (arith, within))

pub set_values-requires : goal.set_values-requires
set_values-requires g c = record {
  evaluable =
      subst (λ (sets : List SetCell). (k : ℕ) (d : SetCell) → k < length sets → is_evaluable (codes_of (entries c.args.ops.now)) c.of-valuation.result (slice_index_or sets k d).term ≡ true)
      (sym c.requires)
      (subst (λ (values : List Atom). (k : ℕ) (d : SetCell) → k < length both → is_evaluable (codes_of (entries c.args.ops.now)) values (slice_index_or both k d).term ≡ true)
      (sym (c.of-valuation.ensures ∙ c.in_ok-vec.ensures.items))
      (both_evaluable (codes_of (entries c.args.ops.now))));
}
