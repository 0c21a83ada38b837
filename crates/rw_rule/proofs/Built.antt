-- What holds of the lists of a rule as they are built.
use Rattle.std.proofs.Common.{◌≡◌, ◌∙◌, ℕ, Bool, true, None, List, [], ◌∷◌, map, length, replicate, refl, ap}
use Rattle.std.proofs.lemmas.List.{length-map}
use Rattle.std.proofs.lemmas.Simd.{splat_is_map}
use Rattle.rw_schema.specs.Signature.{Signature}
use Rattle.rw_rule.specs.declared.kind.RuleKind.{RuleKind}
use Rattle.rw_rule.specs.declared.kind.RuleKind.TheVariants.{Dpo, Spo, Sqpo}
use Rattle.rw_rule.specs.RuleFaults.{AreOver, HasFault, IsRuleOver, built, is_sqpo, monic_of}
use Rattle.rw_rule.specs.RuleLists.{RuleLists}

-- in a sesqui-pushout rule all objects are monic
pub filled_monic : (kind : RuleKind) (monic : List Bool) (objects : ℕ) → is_sqpo kind ≡ true → length monic ≡ objects → replicate objects true ≡ monic_of kind monic
filled_monic Dpo monic objects sqpo long = cc
filled_monic Spo monic objects sqpo long = cc
filled_monic Sqpo monic objects sqpo long = splat_is_map monic objects true long

-- each object has one entry in the list of monic objects still
length_monic : (kind : RuleKind) (monic : List Bool) → length (monic_of kind monic) ≡ length monic
length_monic Dpo monic = refl
length_monic Spo monic = refl
length_monic Sqpo monic = length-map monic (λ listed. true)

-- objects that are all monic stay so
all_stay : (monic : List Bool) → map (λ listed. true) (map (λ listed. true) monic) ≡ map (λ listed. true) monic
all_stay [] = refl
all_stay (listed ∷ monic) = ap (λ rest. true ∷ rest) (all_stay monic)

-- the list of monic objects is that of a rule of the kind
monic_stays : (kind : RuleKind) (monic : List Bool) → monic_of kind (monic_of kind monic) ≡ monic_of kind monic
monic_stays Dpo monic = refl
monic_stays Spo monic = refl
monic_stays Sqpo monic = all_stay monic

-- lists without a fault are built to a rule
pub built_over : (C : Signature) (ops : ℕ) (rule : RuleLists) → AreOver C rule → HasFault C ops rule None → IsRuleOver C ops (built rule)
built_over C ops rule over sound = record {
  parts = record {
    goal = record {
      left = over.goal.left;
      monic = length_monic rule.kind rule.goal.monic ∙ over.goal.monic;
      conditions = over.goal.conditions;
    };
    keep = over.keep;
    right = over.right;
    keep_free = over.keep_free;
    right_free = over.right_free;
    attributes = over.attributes;
  };
  sound = sound;
  monic = monic_stays rule.kind rule.goal.monic;
}
