-- The first pieces of rules: their own keys, names, kinds and monic objects.
use Rattle.std.specs.Prelude.{ℕ, Bool, not, ◌&&◌, nat_le, length, codes, List, [], ◌∷◌, Option, Some, None, option_and_then, option_map, Result, Ok, if◌then◌else◌}
use Rattle.std.specs.List.{list_any}
use Rattle.std.specs.Str.{bytes_eq}
use Rattle.serde_json.specs.Data.{Data}
use Rattle.serde_json.specs.Find.{as_str, get}
use Rattle.rw_schema.specs.SchemaFaults.{is_name}
use Rattle.rw_rule.specs.declared.kind.RuleKind.{RuleKind}
use Rattle.rw_rule.specs.declared.kind.RuleKind.TheVariants as kinds
use Rattle.rw_doc.specs.declared.fault.DocFault.{DocFault}
use Rattle.rw_doc.specs.Chain.{and_then, some_or, checked}
use Rattle.rw_doc.specs.Json.{as_list, has_only}
use Rattle.rw_doc.specs.declared.piece.Piece.{Piece}
use Rattle.rw_docpattern.specs.Objects.{read_monic, texts_or_none}
use Rattle.rw_doc.specs.Pieces.{fault_in}

abbrev pub rule_keys : List (List ℕ)
rule_keys = codes "conditions" ∷ codes "keep" ∷ codes "kind" ∷ codes "l" ∷ codes "left" ∷ codes "monic" ∷ codes "name" ∷ codes "r" ∷ codes "right" ∷ []

-- the members of a rule
pub record RuleMembers : Type 0 where
  pub name : Data
  pub kind : Data
  pub left : Data
  pub keep : Data
  pub right : Data
  pub l : Data
  pub r : Data
  pub monic : Option Data
  pub conditions : Option Data

-- the members that a rule must have are there
abbrev pub rule_members_in : Data → Option RuleMembers
rule_members_in value = option_and_then (λ name. option_and_then (λ kind. option_and_then (λ left. option_and_then (λ keep. option_and_then (λ right.
    option_and_then (λ l. option_map (λ r. record {
      name = name;
      kind = kind;
      left = left;
      keep = keep;
      right = right;
      l = l;
      r = r;
      monic = get (codes "monic") value;
      conditions = get (codes "conditions") value;
    }) (get (codes "r") value)) (get (codes "l") value)) (get (codes "right") value)) (get (codes "keep") value)) (get (codes "left") value))
    (get (codes "kind") value)) (get (codes "name") value)

-- an object with no other keys
abbrev pub rule_members : Data → Option RuleMembers
rule_members value = if has_only rule_keys value then rule_members_in value else None

-- the kind with the name
abbrev pub kind_named : List ℕ → Option RuleKind
kind_named name =
    if bytes_eq name (codes "dpo") then Some kinds.Dpo
    else if bytes_eq name (codes "spo") then Some kinds.Spo
    else if bytes_eq name (codes "sqpo") then Some kinds.Sqpo
    else None

-- how many conditions are written
abbrev pub conditions_or_none : Option Data → Option ℕ
conditions_or_none None = Some 0
conditions_or_none (Some value) = option_map length (as_list value)

-- the name, the kind, the names of monic objects, and how many conditions there are
pub record HeadForm : Type 0 where
  pub name : List ℕ
  pub kind : RuleKind
  pub monic : List (List ℕ)
  pub conditions : ℕ

abbrev pub head_form : RuleMembers → Option HeadForm
head_form members = option_and_then (λ name. option_and_then (λ kind. option_and_then (λ monic.
    option_map (λ conditions. record { name = name; kind = kind; monic = monic; conditions = conditions }) (conditions_or_none members.conditions))
    (texts_or_none members.monic)) (option_and_then kind_named (as_str members.kind))) (as_str members.name)

-- the name, the kind, and of each object whether it is monic
pub record RuleHead : Type 0 where
  pub name : List ℕ
  pub kind : RuleKind
  pub monic : List Bool

-- a rule's own piece, where these names are taken: codes 2, 4, 5 and 6
abbrev pub read_rule_head : List (List ℕ) → List (List ℕ) → Piece → RuleMembers → Result RuleHead DocFault
read_rule_head objects taken piece members = and_then (some_or (fault_in piece 2) (head_form members)) (λ form.
    checked (fault_in piece 4) (is_name form.name && nat_le form.conditions 16)
    (checked (fault_in piece 5) (not (list_any (bytes_eq form.name) taken))
    (and_then (read_monic objects piece form.monic) (λ monic.
    Ok (record { name = form.name; kind = form.kind; monic = monic })))))
