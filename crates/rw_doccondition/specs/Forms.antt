-- What is written of conditions.
use Rattle.std.specs.Prelude.{ℕ, Bool, codes, List, [], ◌∷◌, Option, None, option_and_then, option_map, if◌then◌else◌}
use Rattle.serde_json.specs.Data.{Data}
use Rattle.serde_json.specs.Find.{as_bool, get}
use Rattle.rw_doc.specs.Json.{has_only}
use Rattle.rw_doc.specs.Numbers.{as_number_lists}
use Rattle.rw_docpattern.specs.Forms.{PatternForm, form_with, pattern_keys}
use Rattle.rw_docpattern.specs.Objects.{texts_or_none}

abbrev pub condition_keys : List (List ℕ)
condition_keys = codes "map" ∷ codes "monic" ∷ codes "pattern" ∷ codes "positive" ∷ []

-- the members of a condition
pub record ConditionMembers : Type 0 where
  pub positive : Data
  pub pattern : Data
  pub map : Data
  pub monic : Option Data

-- an object with no other keys
abbrev pub condition_members : Data → Option ConditionMembers
condition_members value =
    if has_only condition_keys value
    then option_and_then (λ positive. option_and_then (λ pattern. option_map (λ map. record { positive = positive; pattern = pattern; map = map; monic = get (codes "monic") value })
    (get (codes "map") value)) (get (codes "pattern") value)) (get (codes "positive") value)
    else None

-- whether it is positive, what is written of the pattern, the lists of images, and the names of monic objects
pub record ConditionForm : Type 0 where
  pub positive : Bool
  pub pattern : PatternForm
  pub images : List (List ℕ)
  pub monic : List (List ℕ)

abbrev pub condition_form : ConditionMembers → Option ConditionForm
condition_form members = option_and_then (λ positive. option_and_then (λ pattern. option_and_then (λ images.
    option_map (λ monic. record { positive = positive; pattern = pattern; images = images; monic = monic })
    (texts_or_none members.monic)) (as_number_lists members.map)) (form_with pattern_keys members.pattern)) (as_bool members.positive)

-- the form of the condition that the value is
abbrev pub form_of_condition : Data → Option ConditionForm
form_of_condition value = option_and_then condition_form (condition_members value)
