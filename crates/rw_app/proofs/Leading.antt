-- How a run goes on from firing to firing.
use Rattle.std.proofs.Common.{◌≡◌, ℕ, ◌-◌, ◌<◌, true, false, List, [], ◌∷◌, ◌++◌, Option, Some, None, slice_get, refl, sym, ap, subst, ◌∙◌, append_assoc, append-nil}
use Rattle.std.specs.List.{flat_map}
use Rattle.std.specs.Option.{is_some}
use Rattle.std.proofs.lemmas.List.Concat.{flat_map-append}
use Rattle.rw_schema.specs.Presentation.{signature_of}
use Rattle.rw_schema.specs.RowLists.{RowLists}
use Rattle.rw_terms.specs.declared.code.OpCode.{OpCode}
use Rattle.rw_rule.specs.RuleLists.{RuleLists}
use Rattle.rw_document.specs.Models.{DocumentLists}
use Rattle.rw_print.specs.declared.last.End.{End}
use Rattle.rw_print.specs.declared.last.End.TheVariants.{Done, Spent}
use Rattle.rw_app.specs.declared.firing.Fired.{Fired}
use Rattle.rw_app.specs.declared.runner.Ran.{Ran}
use Rattle.rw_app.specs.declared.world.World.{World}
use Rattle.rw_app.specs.RunTexts.{firing_line}
use Rattle.rw_app.specs.Runners.{IsWorld, IsFiring, HasRun, HasBegun, at_first, rows_in}
use Rattle.rw_app.specs.Runs.{Firing, IsFired, Leads, Stand, default_schedule, place_after, stand_after}
use Rattle.rw_app.specs.Runs as runs

-- ---- where a box leads

-- a box that applied a match leads to itself
applied_place : (applied : Option (List ℕ)) → is_some applied ≡ true → place_after applied ≡ 0
applied_place None is = let no : ⊥ = cc in absurd no
applied_place (Some tuple) is = refl

-- a box that applied none leads to the exit
failed_place : (applied : Option (List ℕ)) → is_some applied ≡ false → place_after applied ≡ 1
failed_place None is = refl
failed_place (Some tuple) is = let no : ⊥ = cc in absurd no

-- where a run stands after a firing, by its place and instance
stands_after : (stand : Stand) (firing : Firing) (place : ℕ) (rows : RowLists) → place_after firing.applied ≡ place → firing.after ≡ rows
    → stand_after stand firing ≡ record { place = place; fuel = stand.fuel - 1; rows = rows }
stands_after stand firing place rows leads changes =
    let placed : stand_after stand firing ≡ record { place = place; fuel = stand.fuel - 1; rows = firing.after } =
    ap (λ (other : ℕ). let there : Stand = record { place = other; fuel = stand.fuel - 1; rows = firing.after } in there) leads in
    placed ∙ ap (λ (other : RowLists). let there : Stand = record { place = place; fuel = stand.fuel - 1; rows = other } in there) changes

-- ---- firings and texts

-- the line of a firing comes behind those of the firings before it
text_more : (document : DocumentLists) (written line : List ℕ) (firings : List Firing) (firing : Firing)
    → written ≡ flat_map (firing_line document) firings → line ≡ firing_line document firing
    → written ++ line ≡ flat_map (firing_line document) (firings ++ firing ∷ [])
text_more document written line firings firing before is =
    ap (λ front. front ++ line) before
    ∙ ap (λ last. flat_map (firing_line document) firings ++ last) (is ∙ sym (append-nil (firing_line document firing)))
    ∙ sym (flat_map-append (firing_line document) firings (firing ∷ []))

-- the first rule's box is the one at which the run stands
is_fired : (codes : List OpCode) (document : DocumentLists) (rule : RuleLists) (others : List RuleLists) (left : ℕ) (now next : World) (fired : Fired) (firing : Firing)
    → document.rules ≡ rule ∷ others → 0 < left → IsFiring codes document rule now next fired firing
    → IsFired (signature_of document.schema) codes (default_schedule document.rules) (at_first left (rows_in now)) firing
is_fired codes document rule others left now next fired firing rules fuel fires = record {
  box = ap (λ (list : List RuleLists). slice_get (default_schedule list) 0) rules ∙ ap (λ (other : RuleLists). Some (runs.rule other)) (sym fires.of_rule);
  fuel = fuel;
  place = fires.at_place;
  before = fires.from_rows;
  fires = fires.fires;
}

-- a run from where a firing leads is one from where the firings before it began
leads_on : (codes : List OpCode) (document : DocumentLists) (rule : RuleLists) (others : List RuleLists) (fuel left : ℕ) (rows : RowLists) (now next : World) (written : List ℕ)
    → (firings : List Firing) (fired : Fired) (firing : Firing)
    → document.rules ≡ rule ∷ others → 0 < left → HasBegun codes document fuel left rows (rows_in now) written firings → IsFiring codes document rule now next fired firing
    → (more : List Firing) (last : Stand) (end : End)
    → Leads (signature_of document.schema) codes (default_schedule document.rules) (stand_after (at_first left (rows_in now)) firing) more last end
    → Leads (signature_of document.schema) codes (default_schedule document.rules) (at_first fuel rows) ((firings ++ firing ∷ []) ++ more) last end
leads_on codes document rule others fuel left rows now next written firings fired firing rules some begun fires more last end leads =
    subst (λ (all : List Firing). Leads (signature_of document.schema) codes (default_schedule document.rules) (at_first fuel rows) all last end)
    (sym (append_assoc firings (firing ∷ []) more))
    (begun.leads (firing ∷ more) last end (is_fired codes document rule others left now next fired firing rules some fires, leads))

-- ---- how a run goes on and ends

-- a run that has not fired
pub begun_at : (codes : List OpCode) (document : DocumentLists) (fuel : ℕ) (rows : RowLists) → HasBegun codes document fuel fuel rows rows [] []
begun_at codes document fuel rows = record { text = refl; leads = λ more last end leads. leads }

-- a run that fired and applied a match goes on with one fuel less
pub begun_more : (codes : List OpCode) (document : DocumentLists) (rule : RuleLists) (others : List RuleLists) (fuel left : ℕ) (rows : RowLists) (now next : World) (written : List ℕ)
    → (firings : List Firing) (fired : Fired) (firing : Firing)
    → document.rules ≡ rule ∷ others → 0 < left → HasBegun codes document fuel left rows (rows_in now) written firings → IsFiring codes document rule now next fired firing
    → fired.applied ≡ true
    → HasBegun codes document fuel (left - 1) rows (rows_in next) (written ++ fired.line.items) (firings ++ firing ∷ [])
begun_more codes document rule others fuel left rows now next written firings fired firing rules some begun fires applied = record {
  text = text_more document written fired.line.items firings firing begun.text fires.line;
  leads = λ more last end leads.
      let place : place_after firing.applied ≡ 0 = applied_place firing.applied (fires.applies ∙ applied) in
      let stand : stand_after (at_first left (rows_in now)) firing ≡ at_first (left - 1) (rows_in next) =
      stands_after (at_first left (rows_in now)) firing 0 (rows_in next) place fires.to_rows in
      leads_on codes document rule others fuel left rows now next written firings fired firing rules some begun fires more last end
      (subst (λ (from : Stand). Leads (signature_of document.schema) codes (default_schedule document.rules) from more last end) (sym stand) leads);
}

-- a run that fired and applied nothing ends at the exit
pub run_ended : (codes : List OpCode) (document : DocumentLists) (rule : RuleLists) (others : List RuleLists) (fuel left : ℕ) (rows : RowLists) (now next : World) (written : List ℕ)
    → (firings : List Firing) (fired : Fired) (firing : Firing) (ran : Ran)
    → document.rules ≡ rule ∷ others → 0 < left → HasBegun codes document fuel left rows (rows_in now) written firings → IsFiring codes document rule now next fired firing
    → fired.applied ≡ false → ran.text.items ≡ written ++ fired.line.items → ran.end ≡ Done → ran.fuel ≡ left - 1
    → HasRun codes document fuel rows ran next (firings ++ firing ∷ []) (record { place = 1; fuel = left - 1; rows = rows_in next })
run_ended codes document rule others fuel left rows now next written firings fired firing ran rules some begun fires failed text end left_is =
    let last : Stand = record { place = 1; fuel = left - 1; rows = rows_in next } in
    let place : place_after firing.applied ≡ 1 = failed_place firing.applied (fires.applies ∙ failed) in
    let stand : stand_after (at_first left (rows_in now)) firing ≡ last = stands_after (at_first left (rows_in now)) firing 1 (rows_in next) place fires.to_rows in
    let exit : slice_get (default_schedule document.rules) 1 ≡ Some runs.exit = ap (λ (list : List RuleLists). slice_get (default_schedule list) 1) rules in
    let ends : Leads (signature_of document.schema) codes (default_schedule document.rules) (stand_after (at_first left (rows_in now)) firing) [] last Done =
    (sym stand, subst (λ (from : Stand). slice_get (default_schedule document.rules) from.place ≡ Some runs.exit) (sym stand) exit) in
    let leads : Leads (signature_of document.schema) codes (default_schedule document.rules) (at_first fuel rows) (firings ++ firing ∷ []) last Done =
    subst (λ (all : List Firing). Leads (signature_of document.schema) codes (default_schedule document.rules) (at_first fuel rows) all last Done)
    (append-nil (firings ++ firing ∷ []))
    (leads_on codes document rule others fuel left rows now next written firings fired firing rules some begun fires [] last Done ends) in
    record {
      text = text ∙ text_more document written fired.line.items firings firing begun.text fires.line;
      leads = subst (λ (other : End). Leads (signature_of document.schema) codes (default_schedule document.rules) (at_first fuel rows) (firings ++ firing ∷ []) last other) (sym end) leads;
      fuel_left = sym left_is;
      last_rows = refl;
      ends_in = fires.world;
    }

-- a run without fuel ends at the rule's box
pub run_spent : (codes : List OpCode) (document : DocumentLists) (rule : RuleLists) (others : List RuleLists) (fuel : ℕ) (rows : RowLists) (now : World) (written : List ℕ)
    → (firings : List Firing) (ran : Ran)
    → document.rules ≡ rule ∷ others → HasBegun codes document fuel 0 rows (rows_in now) written firings → IsWorld document now
    → ran.text.items ≡ written → ran.end ≡ Spent → ran.fuel ≡ 0
    → HasRun codes document fuel rows ran now firings (at_first 0 (rows_in now))
run_spent codes document rule others fuel rows now written firings ran rules begun world text end left_is =
    let last : Stand = at_first 0 (rows_in now) in
    let box : slice_get (default_schedule document.rules) 0 ≡ Some (runs.rule rule) = ap (λ (list : List RuleLists). slice_get (default_schedule list) 0) rules in
    let leads : Leads (signature_of document.schema) codes (default_schedule document.rules) (at_first fuel rows) (firings ++ []) last Spent =
    begun.leads [] last Spent (refl, ((rule, box), refl)) in
    let whole : Leads (signature_of document.schema) codes (default_schedule document.rules) (at_first fuel rows) firings last Spent =
    subst (λ (all : List Firing). Leads (signature_of document.schema) codes (default_schedule document.rules) (at_first fuel rows) all last Spent) (append-nil firings) leads in
    record {
      text = text ∙ begun.text;
      leads = subst (λ (other : End). Leads (signature_of document.schema) codes (default_schedule document.rules) (at_first fuel rows) firings last other) (sym end) whole;
      fuel_left = sym left_is;
      last_rows = refl;
      ends_in = world;
    }

-- a list without a first item is empty
pub none_first : {X : Type 0} (xs : List X) → slice_get xs 0 ≡ None → xs ≡ []
none_first [] none = refl
none_first (x ∷ xs) none = let never : ⊥ = cc in absurd never

-- without rules the first box is the exit, so the run is done at once
pub run_without_rules : (codes : List OpCode) (document : DocumentLists) (fuel : ℕ) (ran : Ran) (now : World) → document.rules ≡ [] → ran.text.items ≡ []
    → ran.end ≡ Done → ran.fuel ≡ fuel → IsWorld document now
    → HasRun codes document fuel (rows_in now) ran now [] (at_first fuel (rows_in now))
run_without_rules codes document fuel ran now none text ended left world = record {
  text = text;
  leads = rw (none, ended) (refl, refl);
  fuel_left = sym left;
  last_rows = refl;
  ends_in = world;
}
