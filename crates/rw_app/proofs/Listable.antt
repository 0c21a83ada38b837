-- The goals of a sound document can be listed, and it can be run.
use Rattle.std.proofs.Common.{◌≡◌, ℕ, Bool, true, ◌&&◌, List, [], ◌∷◌, None, refl, slice_index_or}
use Rattle.std.proofs.lemmas.Bool.{and_parts}
use Rattle.rw_rule.specs.PlainRules.{has_no_conditions, is_dpo}
use Rattle.rw_rule.specs.RuleLists.{ConditionLists, RuleLists}
use Rattle.rw_rule.specs.declared.kind.RuleKind.{RuleKind}
use Rattle.rw_rule.specs.declared.kind.RuleKind.TheVariants.{Dpo, Spo, Sqpo}
use Rattle.rw_schema.specs.Presentation.{signature_of}
use Rattle.rw_schema.specs.Signature.{IsCategory}
use Rattle.rw_table.specs.TableFaults.{table_fault}
use Rattle.rw_document.specs.Models.{DocumentLists, IsSound}
use Rattle.rw_app.specs.Kept.{HasGoals}
use Rattle.rw_app.specs.Runs.{CanRun}

-- a list that passes the test has no conditions
none_there : (conditions : List ConditionLists) → has_no_conditions conditions ≡ true → conditions ≡ []
none_there [] passed = refl
none_there (condition ∷ conditions) passed = cc

-- a double-pushout kind is that
dpo_is : (kind : RuleKind) → is_dpo kind ≡ true → kind ≡ Dpo
dpo_is Dpo is = refl
dpo_is Spo is = cc
dpo_is Sqpo is = cc

-- the rule is a double pushout without conditions, as tests tell it
abbrev pub IsBuilt : RuleLists → Type 0
IsBuilt rule = (is_dpo rule.kind && has_no_conditions rule.goal.conditions) ≡ true

-- such a rule is a double pushout without conditions
pub built_rule : (rule : RuleLists) → IsBuilt rule → (rule.kind ≡ Dpo) × (rule.goal.conditions ≡ [])
built_rule rule built =
    let both = and_parts (is_dpo rule.kind) (has_no_conditions rule.goal.conditions) built in
    (dpo_is rule.kind both.0, none_there rule.goal.conditions both.1)

-- the goals of a sound document can be listed
pub goals_of_sound : (ops : ℕ) (document : DocumentLists) → IsSound ops document → HasGoals document
goals_of_sound ops document sound = record {
  table = sound.table;
  rules = λ k d within. record {
    over = (sound.rules k d within).parts.goal;
    unconditional = (built_rule (slice_index_or document.rules k d) (sound.built k d within)).1;
  };
  watches = λ k d within. record { over = sound.watches k d within; unconditional = sound.free k d within };
  few_rules = sound.few_rules;
  few_watches = sound.few_watches;
}

-- a sound document, whose table is an instance of the category that its schema presents, can be run
pub sound_can_run : (ops : ℕ) (document : DocumentLists) → IsSound ops document → IsCategory (signature_of document.schema)
    → table_fault (signature_of document.schema) document.table.rows ≡ None → CanRun ops document
sound_can_run ops document sound category instance = record {
  category = category;
  instance = instance;
  rules = sound.rules;
  kinds = λ k d within. (built_rule (slice_index_or document.rules k d) (sound.built k d within)).0;
}
