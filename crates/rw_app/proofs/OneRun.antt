-- A document has one run: at each box the rule, the match that is picked and the instance after it are determined.
use Rattle.std.proofs.Common.{◌≡◌, ◌<◌, ℕ, zero, suc, Contains, List, [], ◌∷◌, length, Option, Some, None, slice_get, inl, inr, refl, sym, ap, ◌∙◌, subst, arith}
use Rattle.std.specs.List.{All}
use Rattle.std.proofs.lemmas.List.Elements.{All-head}
use Rattle.rw_schema.specs.Presentation.{signature_of}
use Rattle.rw_schema.specs.RowLists.{RowLists}
use Rattle.rw_schema.specs.Signature.{Signature, IsCategory}
use Rattle.rw_spec.specs.Instance.{instance_of}
use Rattle.rw_table.specs.TableFaults.{table_fault}
use Rattle.rw_terms.specs.declared.code.OpCode.{OpCode}
use Rattle.rw_rule.specs.RuleFaults.{IsRuleOver}
use Rattle.rw_rule.specs.RuleLists.{RuleLists}
use Rattle.rw_rule.specs.declared.kind.RuleKind.TheVariants.{Dpo}
use Rattle.rw_rule.specs.declared.refusal.Refusal.{Refusal}
use Rattle.rw_local.specs.OneVerdict.{HasOneVerdict}
use Rattle.rw_lists.specs.Fresh.{fresh_list}
use Rattle.rw_document.specs.Models.{DocumentLists}
use Rattle.rw_print.specs.declared.last.End.{End}
use Rattle.rw_print.specs.declared.last.End.TheVariants.{Done, Failed, Spent}
use Rattle.rw_app.proofs.OneVerdict.{verdict_at}
use Rattle.rw_app.proofs.Tried.{Tried, takes_same}
use Rattle.rw_app.specs.OneRun.{AreOneRun}
use Rattle.rw_app.specs.Runs.{CanRun, Firing, Changes, Fires, HasStep, IsObstructed, Box, rule, exit, default_schedule, Stand, stand_after, IsFired, EndsAt, Run, Leads}

-- a box of one rule is the box of no other
same_rule : (box : Option Box) (r s : RuleLists) → box ≡ Some (rule r) → box ≡ Some (rule s) → r ≡ s
same_rule box r s is also = let same : Some (rule r) ≡ Some (rule s) = sym is ∙ also in cc

-- where a run ends no box fires
no_firing : (C : Signature) (codes : List OpCode) (boxes : List Box) (stand : Stand) (end : End) (firing : Firing) → EndsAt boxes stand end → IsFired C codes boxes stand firing → ⊥
no_firing C codes boxes stand Done firing ends fired = let same : Some exit ≡ Some (rule firing.rule) = sym ends ∙ fired.box in cc
no_firing C codes boxes stand Failed firing ends fired = ends
no_firing C codes boxes stand Spent firing ends fired = let spent : stand.fuel ≡ 0 = ends.1 in let fuel : 0 < stand.fuel = fired.fuel in omega arith

-- a run ends in one way
ends_same : (boxes : List Box) (stand : Stand) (one other : End) → EndsAt boxes stand one → EndsAt boxes stand other → one ≡ other
ends_same boxes stand Done Done ends also = refl
ends_same boxes stand Spent Spent ends also = refl
ends_same boxes stand Done Spent ends also = let same : Some exit ≡ Some (rule also.0.0) = sym ends ∙ also.0.1 in absurd cc
ends_same boxes stand Spent Done ends also = let same : Some exit ≡ Some (rule ends.0.0) = sym also ∙ ends.0.1 in absurd cc
ends_same boxes stand Failed other ends also = absurd ends
ends_same boxes stand one Failed ends also = absurd also

-- two runs from one place with the same firings, the same last place and the same end
record AreSame (one other : Run) : Type 0 where
  pub firings : one.firings ≡ other.firings
  pub last : one.last ≡ other.last
  pub end : one.end ≡ other.end

-- each rule of a box is a double pushout over the signature
abbrev pub AreKnown : Signature → ℕ → List Box → Type 0
AreKnown C ops boxes = (place : ℕ) (r : RuleLists) → slice_get boxes place ≡ Some (rule r) → IsRuleOver C ops r × (r.kind ≡ Dpo)

-- those of the default schedule are, where those of the list are
pub default_known : (C : Signature) (ops : ℕ) (rules : List RuleLists) → All (IsRuleOver C ops) rules → All (λ (r : RuleLists). r.kind ≡ Dpo) rules
    → AreKnown C ops (default_schedule rules)
default_known C ops [] over kinds zero r is = let never : ⊥ = cc in absurd never
default_known C ops [] over kinds (suc place) r is = let never : ⊥ = cc in absurd never
default_known C ops (first ∷ others) over kinds zero r is =
    let same : first ≡ r = cc in
    subst (λ (other : RuleLists). IsRuleOver C ops other × (other.kind ≡ Dpo)) same
    (All-head (IsRuleOver C ops) first others over, All-head (λ (r : RuleLists). r.kind ≡ Dpo) first others kinds)
default_known C ops (first ∷ others) over kinds (suc zero) r is = let never : ⊥ = cc in absurd never
default_known C ops (first ∷ others) over kinds (suc (suc place)) r is = let never : ⊥ = cc in absurd never

module _ (C : Signature) (category : IsCategory C) (codes : List OpCode) where
  -- the lists after a change are those of an instance
  pub sound_after : (r : RuleLists) (before : RowLists) (applied : Option (List ℕ)) (after : RowLists) → table_fault C before ≡ None
      → Changes C codes r before applied after → table_fault C after ≡ None
  sound_after r before None after sound changes = rw changes sound
  sound_after r before (Some tuple) after sound changes = changes.sound

  -- two changes by one match are the same
  changed_same : (r : RuleLists) (before : RowLists) (applied : Option (List ℕ)) (one other : RowLists) → IsRuleOver C (length codes) r → r.kind ≡ Dpo → table_fault C before ≡ None
      → Changes C codes r before applied one → Changes C codes r before applied other → one ≡ other
  changed_same r before None one other over dpo sound changes also = changes ∙ sym also
  changed_same r before (Some tuple) one other over dpo sound changes also =
      (verdict_at C category codes r over dpo before sound tuple changes.matched).only.step one other changes also

  -- two firings of one rule's box in one instance are the same
  fires_same : (one other : Firing) → IsRuleOver C (length codes) other.rule → other.rule.kind ≡ Dpo → table_fault C other.before ≡ None → one.place ≡ other.place → one.rule ≡ other.rule
      → one.before ≡ other.before → Fires C codes one → Fires C codes other → one ≡ other
  fires_same one other over dpo sound places rules befores fires also =
      let r : RuleLists = other.rule in
      let rows : RowLists = other.before in
      let found : List (List ℕ) = fresh_list C (instance_of C rows) r.goal in
      let fires_there : Fires C codes (record { place = other.place; rule = r; before = rows; refused = one.refused; applied = one.applied; after = one.after }) =
      rw (← places, ← rules, ← befores) fires in
      let verdict = λ (tuple : List ℕ) (there : Contains found tuple). verdict_at C category codes r over dpo rows sound tuple there in
      let tried : (one.refused, one.applied) ≡ (other.refused, other.applied) =
      takes_same (HasStep C codes r rows) (IsObstructed C codes r rows) found
      (λ tuple refusal there step fails. (verdict tuple there).only.either step.0 refusal step.1 fails)
      (λ tuple refusal refusal_also there fails fails_also. (verdict tuple there).only.obstruction refusal refusal_also fails fails_also)
      (one.refused, one.applied) (other.refused, other.applied) fires_there.picks also.picks in
      let refused : one.refused ≡ other.refused = ap (λ (pair : Tried). pair.0) tried in
      let applied : one.applied ≡ other.applied = ap (λ (pair : Tried). pair.1) tried in
      let after : one.after ≡ other.after =
      changed_same r rows other.applied one.after other.after over dpo sound
      (subst (λ (applied : Option (List ℕ)). Changes C codes r rows applied one.after) applied fires_there.changes) also.changes in
      rw (places, rules, befores, refused, applied, after) refl

  -- two firings of the box at which a run stands are the same
  firings_same : (boxes : List Box) → AreKnown C (length codes) boxes → (stand : Stand) → table_fault C stand.rows ≡ None → (one other : Firing)
      → IsFired C codes boxes stand one → IsFired C codes boxes stand other → one ≡ other
  firings_same boxes are_known stand sound one other fired also =
      let rules : one.rule ≡ other.rule = same_rule (slice_get boxes stand.place) one.rule other.rule fired.box also.box in
      let known = are_known stand.place other.rule also.box in
      fires_same one other known.0 known.1 (rw also.before sound) (fired.place ∙ sym also.place) rules (fired.before ∙ sym also.before) fired.fires also.fires

  -- after a firing the run stands in an instance
  pub stands_sound : (boxes : List Box) (stand : Stand) (firing : Firing) → table_fault C stand.rows ≡ None → IsFired C codes boxes stand firing
      → table_fault C (stand_after stand firing).rows ≡ None
  stands_sound boxes stand firing sound fired =
      sound_after firing.rule firing.before firing.applied firing.after (rw fired.before sound) fired.fires.changes

  -- what leads from one place to an end is determined
  leads_same : (boxes : List Box) → AreKnown C (length codes) boxes → (stand : Stand) → table_fault C stand.rows ≡ None → (one other : List Firing) (last_one last_other : Stand)
      → (one_end other_end : End) → Leads C codes boxes stand one last_one one_end → Leads C codes boxes stand other last_other other_end
      → AreSame (record { firings = one; last = last_one; end = one_end }) (record { firings = other; last = last_other; end = other_end })
  leads_same boxes are_known stand sound [] [] last_one last_other one_end other_end leads also = record {
    firings = refl;
    last = leads.0 ∙ sym also.0;
    end = ends_same boxes stand one_end other_end leads.1 also.1;
  }
  leads_same boxes are_known stand sound [] (firing ∷ other) last_one last_other one_end other_end leads also = absurd (no_firing C codes boxes stand one_end firing leads.1 also.0)
  leads_same boxes are_known stand sound (firing ∷ one) [] last_one last_other one_end other_end leads also = absurd (no_firing C codes boxes stand other_end firing also.1 leads.0)
  leads_same boxes are_known stand sound (firing ∷ one) (other_firing ∷ other) last_one last_other one_end other_end leads also =
      let first : firing ≡ other_firing = firings_same boxes are_known stand sound firing other_firing leads.0 also.0 in
      let rest = leads_same boxes are_known (stand_after stand firing) (stands_sound boxes stand firing sound leads.0) one other last_one last_other one_end other_end leads.1
      (subst (λ (fired : Firing). Leads C codes boxes (stand_after stand fired) other last_other other_end) (sym first) also.1) in
      record {
        firings = rw (first, rest.firings) refl;
        last = rest.last;
        end = rest.end;
      }

-- any two runs of a document with so much fuel are the same
pub one_run : (codes : List OpCode) (document : DocumentLists) (fuel : ℕ) → AreOneRun codes document fuel
one_run codes document fuel one other is also =
    let C : Signature = signature_of document.schema in
    let can : CanRun (length codes) document = is.0 in
    let same = leads_same C can.category codes (default_schedule document.rules) (default_known C (length codes) document.rules can.rules can.kinds)
    (record { place = 0; fuel = fuel; rows = document.table.rows }) can.instance one.firings other.firings one.last other.last one.end other.end is.1 also.1 in
    ap (λ (firings : List Firing). record { firings = firings; last = one.last; end = one.end }) same.firings
    ∙ ap (λ (last : Stand). record { firings = other.firings; last = last; end = one.end }) same.last
    ∙ ap (λ (end : End). record { firings = other.firings; last = other.last; end = end }) same.end
