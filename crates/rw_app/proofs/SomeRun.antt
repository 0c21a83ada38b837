-- A document has a run: at each rule's box with fuel there is a firing, and a run goes on for as long as there is fuel.
use Rattle.std.proofs.Common.{◌≡◌, ◌-◌, ◌⊎◌, ℕ, zero, suc, Contains, List, [], ◌∷◌, length, Option, Some, None, inl, inr, refl, sym, subst, arith}
use Rattle.std.specs.List.{All}
use Rattle.std.proofs.lemmas.List.Elements.{All-head}
use Rattle.rw_schema.specs.Presentation.{signature_of}
use Rattle.rw_schema.specs.RowLists.{RowLists}
use Rattle.rw_schema.specs.Signature.{Signature, IsCategory}
use Rattle.rw_spec.specs.Instance.{instance_of}
use Rattle.rw_table.specs.TableFaults.{table_fault}
use Rattle.rw_terms.specs.declared.code.OpCode.{OpCode}
use Rattle.rw_rule.specs.RuleFaults.{IsRuleOver}
use Rattle.rw_rule.specs.RuleLists.{RuleLists}
use Rattle.rw_rule.specs.declared.kind.RuleKind.TheVariants.{Dpo}
use Rattle.rw_rule.specs.declared.refusal.Refusal.{Refusal}
use Rattle.rw_lists.specs.Fresh.{fresh_list}
use Rattle.rw_document.specs.Models.{DocumentLists}
use Rattle.rw_print.specs.declared.last.End.{End}
use Rattle.rw_print.specs.declared.last.End.TheVariants.{Done, Spent}
use Rattle.rw_app.specs.Runs.{CanRun, Firing, Changes, Fires, HasStep, IsObstructed, Picks, Box, rule, exit, default_schedule, place_after, Stand, stand_after, IsFired, Run, Leads, IsRun}
use Rattle.rw_app.proofs.OneRun.{stands_sound}
use Rattle.rw_app.proofs.OneVerdict.{verdict_at}
use Rattle.rw_app.proofs.Tried.{Tried, takes_some}

-- the boxes of the default schedule with this first rule
abbrev pub boxes_of : RuleLists → List Box
boxes_of r = rule r ∷ exit ∷ []

-- the run stands at the first box
abbrev pub at_rule : ℕ → RowLists → Stand
at_rule fuel rows = record { place = 0; fuel = fuel; rows = rows }

-- what leads from a place to an end
record GoesOn (C : Signature) (codes : List OpCode) (r : RuleLists) (stand : Stand) : Type 0 where
  pub firings : List Firing
  pub last : Stand
  pub end : End
  pub leads : Leads C codes (boxes_of r) stand firings last end

-- at the exit the run is done
at_exit : (C : Signature) (codes : List OpCode) (r : RuleLists) (fuel : ℕ) (rows : RowLists) → GoesOn C codes r (record { place = 1; fuel = fuel; rows = rows })
at_exit C codes r fuel rows = record { firings = []; last = record { place = 1; fuel = fuel; rows = rows }; end = Done; leads = (refl, refl) }

-- after a firing the run goes on from the rule's box or is done
goes_from : (C : Signature) (codes : List OpCode) (r : RuleLists) (fuel : ℕ) (after : RowLists) (applied : Option (List ℕ)) → table_fault C after ≡ None
    → ((rows : RowLists) → table_fault C rows ≡ None → GoesOn C codes r (at_rule fuel rows)) → GoesOn C codes r (record { place = place_after applied; fuel = fuel; rows = after })
goes_from C codes r fuel after None sound later = at_exit C codes r fuel after
goes_from C codes r fuel after (Some tuple) sound later = later after sound

module _ (C : Signature) (category : IsCategory C) (codes : List OpCode) (r : RuleLists) (over : IsRuleOver C (length codes) r) (dpo : r.kind ≡ Dpo) where
  -- a match has a step or an obstruction
  step_or_not : (rows : RowLists) → table_fault C rows ≡ None → (tuple : List ℕ) → Contains (fresh_list C (instance_of C rows) r.goal) tuple
      → HasStep C codes r rows tuple ⊎ ((refusal : Refusal) × IsObstructed C codes r rows tuple refusal)
  step_or_not rows sound tuple there =
      elim (verdict_at C category codes r over dpo rows sound tuple there).exists [
        | inl (change, is) ↦ inl (_, is.step)
        | inr found ↦ inr found
      ]

  -- what is picked has a change
  has_change : (rows : RowLists) (found : List (List ℕ)) (refused : List (List ℕ × Refusal)) (applied : Option (List ℕ)) → Picks C codes r rows found refused applied
      → (after : RowLists) × Changes C codes r rows applied after
  has_change rows found refused None picks = (rows, refl)
  has_change rows found refused (Some tuple) picks = picks.2

  -- with fuel the box of the rule fires
  some_firing : (fuel : ℕ) (rows : RowLists) → table_fault C rows ≡ None → (firing : Firing) × IsFired C codes (boxes_of r) (at_rule (suc fuel) rows) firing
  some_firing fuel rows sound =
      let found : List (List ℕ) = fresh_list C (instance_of C rows) r.goal in
      let tried = takes_some (HasStep C codes r rows) (IsObstructed C codes r rows) found (step_or_not rows sound) in
      let change = has_change rows found tried.0.0 tried.0.1 tried.1 in (
        record { place = 0; rule = r; before = rows; refused = tried.0.0; applied = tried.0.1; after = change.0 },
        record { box = refl; fuel = omega arith; place = refl; before = refl; fires = record { picks = tried.1; changes = change.1 } },
      )

  -- a firing is put before what leads on
  goes_after : (stand : Stand) (firing : Firing) → IsFired C codes (boxes_of r) stand firing → GoesOn C codes r (stand_after stand firing) → GoesOn C codes r stand
  goes_after stand firing fired rest = record {
    firings = firing ∷ rest.firings;
    last = rest.last;
    end = rest.end;
    leads = (fired, rest.leads);
  }

  -- from the rule's box a run goes on to an end
  goes_on : (fuel : ℕ) (rows : RowLists) → table_fault C rows ≡ None → GoesOn C codes r (at_rule fuel rows)
  goes_on zero rows sound = record { firings = []; last = at_rule 0 rows; end = Spent; leads = (refl, ((r, refl), refl)) }
  goes_on (suc fuel) rows sound =
      let stand : Stand = at_rule (suc fuel) rows in
      let fired = some_firing fuel rows sound in
      let firing : Firing = fired.0 in
      let left : fuel ≡ suc fuel - 1 = omega arith in
      goes_after stand firing fired.1
      (subst (λ (left : ℕ). GoesOn C codes r (record { place = place_after firing.applied; fuel = left; rows = firing.after })) left
      (goes_from C codes r fuel firing.after firing.applied (stands_sound C category codes (boxes_of r) stand firing sound fired.1) (λ later sound_later. goes_on fuel later sound_later)))

-- the run by the default schedule of some rules
run_by : (C : Signature) → IsCategory C → (codes : List OpCode) (rules : List RuleLists) → All (IsRuleOver C (length codes)) rules → All (λ (r : RuleLists). r.kind ≡ Dpo) rules
    → (fuel : ℕ) (rows : RowLists) → table_fault C rows ≡ None
    → (run : Run) × Leads C codes (default_schedule rules) (at_rule fuel rows) run.firings run.last run.end
run_by C category codes [] over kinds fuel rows sound = (record { firings = []; last = at_rule fuel rows; end = Done }, (refl, refl))
run_by C category codes (first ∷ others) over kinds fuel rows sound =
    let all = goes_on C category codes first (All-head (IsRuleOver C (length codes)) first others over) (All-head (λ (r : RuleLists). r.kind ≡ Dpo) first others kinds) fuel rows sound in
    (record { firings = all.firings; last = all.last; end = all.end }, all.leads)

-- a document that can be run has a run with so much fuel
pub some_run : (codes : List OpCode) (document : DocumentLists) (fuel : ℕ) → CanRun (length codes) document → (run : Run) × IsRun codes document fuel run
some_run codes document fuel can =
    let run = run_by (signature_of document.schema) can.category codes document.rules can.rules can.kinds fuel document.table.rows can.instance in
    (run.0, (can, run.1))
