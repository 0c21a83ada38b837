-- What the calls of a run give, as contracts see it.
use Rattle.std.specs.Prelude.{◌≡◌, ℕ, List, ◌++◌, map}
use Rattle.std.specs.List.{flat_map}
use Rattle.std.specs.Option.{is_some}
use Rattle.rw_schema.specs.Presentation.{signature_of}
use Rattle.rw_schema.specs.RowLists.{RowLists}
use Rattle.rw_columns.specs.Kept.{lists_of_columns}
use Rattle.rw_terms.specs.declared.code.OpCode.{OpCode}
use Rattle.rw_rule.specs.RuleLists.{RuleLists}
use Rattle.rw_document.specs.Models.{DocumentLists}
use Rattle.rw_print.specs.declared.last.End.{End}
use Rattle.rw_app.specs.declared.firing.Fired.{Fired}
use Rattle.rw_app.specs.declared.runner.Ran.{Ran}
use Rattle.rw_app.specs.declared.world.World.{World}
use Rattle.rw_app.specs.Kept.{lists_in}
use Rattle.rw_app.specs.Runs.{Firing, Fires, Leads, Stand, default_schedule}
use Rattle.rw_app.specs.RunTexts.{firing_line}

-- the lists of the state's instance
abbrev pub rows_in : World → RowLists
rows_in world = lists_of_columns world.columns

-- the state is an instance over the document's schema, and each kept list is the fresh one
pub record IsWorld (document : DocumentLists) (world : World) : Type 0 where
  pub over : world.columns.signature ≡ signature_of document.schema
  pub fresh : map (λ list. list.items) world.lists.items ≡ lists_in document (rows_in world)

-- the rule's box, the first of the schedule, fires in the one state; this is the line of the firing, and the other state is
-- that after it
pub record IsFiring (codes : List OpCode) (document : DocumentLists) (rule : RuleLists) (before after : World) (fired : Fired) (firing : Firing) : Type 0 where
  pub fires : Fires (signature_of document.schema) codes firing
  pub at_place : firing.place ≡ 0
  pub of_rule : firing.rule ≡ rule
  pub from_rows : firing.before ≡ rows_in before
  pub to_rows : firing.after ≡ rows_in after
  pub applies : is_some firing.applied ≡ fired.applied
  pub line : fired.line.items ≡ firing_line document firing
  pub world : IsWorld document after

-- the run stands at the schedule's first box
abbrev pub at_first : ℕ → RowLists → Stand
at_first fuel rows = record { place = 0; fuel = fuel; rows = rows }

-- the firings lead from the first box to the end, these are their lines, and this is the state then
pub record HasRun (codes : List OpCode) (document : DocumentLists) (fuel : ℕ) (rows : RowLists) (ran : Ran) (world : World) (firings : List Firing) (last : Stand) : Type 0 where
  pub text : ran.text.items ≡ flat_map (firing_line document) firings
  pub leads : Leads (signature_of document.schema) codes (default_schedule document.rules) (at_first fuel rows) firings last ran.end
  pub fuel_left : last.fuel ≡ ran.fuel
  pub last_rows : last.rows ≡ rows_in world
  pub ends_in : IsWorld document world

-- the firings so far lead to a state from which each run goes on: this is what a run knows that has not ended
pub record HasBegun (codes : List OpCode) (document : DocumentLists) (fuel left : ℕ) (rows now : RowLists) (written : List ℕ) (firings : List Firing) : Type 0 where
  pub text : written ≡ flat_map (firing_line document) firings
  pub leads : (more : List Firing) (last : Stand) (end : End)
      → Leads (signature_of document.schema) codes (default_schedule document.rules) (at_first left now) more last end
      → Leads (signature_of document.schema) codes (default_schedule document.rules) (at_first fuel rows) (firings ++ more) last end
