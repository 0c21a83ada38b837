-- The rules of a document, or the first fault. The pieces of a rule are read in this order: its own keys, the left, the kept
-- and the right pattern, and the maps to the left and to the right.
use Rattle.std.specs.Prelude.{ℕ, Bool, ◌||◌, is_none, is_some, length, map, List, [], Option, Result, Ok}
use Rattle.serde_json.specs.Data.{Data}
use Rattle.rw_schema.specs.declared.section.Section.TheVariants as sections
use Rattle.rw_schema.specs.Presentation.{Presentation, signature_of}
use Rattle.rw_pattern.specs.PatternLists.{PatternLists}
use Rattle.rw_terms.specs.OpTables.{OpEntry}
use Rattle.rw_rule.specs.declared.kind.RuleKind.{RuleKind}
use Rattle.rw_rule.specs.Images.{is_injective}
use Rattle.rw_rule.specs.RuleFaults.{is_sqpo}
use Rattle.rw_rule.specs.RuleLists.{RuleLists}
use Rattle.rw_rule.specs.Sets.{value_missing}
use Rattle.rw_doc.specs.declared.fault.DocFault.{DocFault}
use Rattle.rw_doc.specs.Chain.{and_then, each_after, some_or, checked}
use Rattle.rw_doc.specs.Schemas.{read_list_or_none}
use Rattle.rw_doc.specs.declared.piece.Piece.{Piece}
use Rattle.rw_docpattern.specs.Maps.{read_map}
use Rattle.rw_docpattern.specs.Patterns.{PatternRead, read_bare_pattern, read_pattern}
use Rattle.rw_doc.specs.Pieces.{fault_in}
use Rattle.rw_docpattern.specs.Sets.{RightRead, read_right}
use Rattle.rw_docrule.specs.Heads.{RuleHead, RuleMembers, read_rule_head, rule_members}

-- a piece of a rule
abbrev pub rule_piece : ℕ → ℕ → Piece
rule_piece rule piece = record { section = sections.Rules; first = rule; second = piece }

-- a rule, and whether conditions are written, which are not read yet
pub record RuleRead : Type 0 where
  pub rule : RuleLists
  pub has_conditions : Bool

-- the three patterns of a rule
pub record Sides : Type 0 where
  pub left : PatternRead
  pub keep : PatternLists
  pub right : RightRead

abbrev pub read_sides : Presentation → List OpEntry → ℕ → RuleMembers → Result Sides DocFault
read_sides schema ops place members = and_then (read_pattern schema (rule_piece place 1) members.left) (λ left.
    and_then (read_bare_pattern schema (rule_piece place 2) members.keep) (λ keep.
    and_then (read_right schema ops (rule_piece place 3) left members.right) (λ right.
    Ok (record { left = left; keep = keep; right = right }))))

-- the map to the left, which is injective but in a sesqui-pushout rule: code 12 besides those of a map
abbrev pub read_l : Presentation → ℕ → RuleKind → Sides → RuleMembers → Result (List (List ℕ)) DocFault
read_l schema place kind sides members =
    and_then (read_map (signature_of schema) (rule_piece place 4) sides.keep sides.left.pattern members.l) (λ images.
    checked (fault_in (rule_piece place 4) 12) (is_sqpo kind || is_injective sides.keep images) (Ok images))

-- the map to the right: codes 2, 8 and 11
abbrev pub read_r : Presentation → ℕ → Sides → RuleMembers → Result (List (List ℕ)) DocFault
read_r schema place sides members = read_map (signature_of schema) (rule_piece place 5) sides.keep sides.right.pattern members.r

-- the two maps of a rule
pub record Maps : Type 0 where
  pub l : List (List ℕ)
  pub r : List (List ℕ)

abbrev pub read_maps : Presentation → ℕ → RuleKind → Sides → RuleMembers → Result Maps DocFault
read_maps schema place kind sides members = and_then (read_l schema place kind sides members) (λ l.
    and_then (read_r schema place sides members) (λ r. Ok (record { l = l; r = r })))

-- the patterns and the maps of a rule
pub record Body : Type 0 where
  pub sides : Sides
  pub maps : Maps

abbrev pub read_body : Presentation → List OpEntry → ℕ → RuleKind → RuleMembers → Result Body DocFault
read_body schema ops place kind members = and_then (read_sides schema ops place members) (λ sides.
    and_then (read_maps schema place kind sides members) (λ maps. Ok (record { sides = sides; maps = maps })))

-- the lists of a rule
abbrev pub rule_with : RuleHead → Body → RuleLists
rule_with head body = record {
  name = head.name;
  kind = head.kind;
  goal = record { left = body.sides.left.pattern; monic = head.monic; conditions = []; kinds = body.sides.left.kinds };
  keep = body.sides.keep;
  right = body.sides.right.pattern;
  sets = body.sides.right.sets;
  l = body.maps.l;
  r = body.maps.r;
}

-- the rule, where each attribute of each new part is set: code 14 of the map to the right
abbrev pub with_values : Presentation → ℕ → RuleMembers → RuleLists → Result RuleRead DocFault
with_values schema place members rule =
    checked (fault_in (rule_piece place 5) 14) (is_none (value_missing (signature_of schema) rule)) (Ok (record { rule = rule; has_conditions = is_some members.conditions }))

abbrev pub read_pieces : Presentation → List OpEntry → List (List ℕ) → ℕ → RuleMembers → Result RuleRead DocFault
read_pieces schema ops taken place members =
    and_then (read_rule_head schema.objects taken (rule_piece place 0) members) (λ head.
    and_then (read_body schema ops place head.kind members) (λ body.
    with_values schema place members (rule_with head body)))

-- the names of rules
abbrev pub names_of_rules : List RuleRead → List (List ℕ)
names_of_rules rules = map (λ (read : RuleRead). read.rule.name) rules

-- the rule at the place, where these names are taken
abbrev pub read_rule_where : Presentation → List OpEntry → List (List ℕ) → ℕ → Data → Result RuleRead DocFault
read_rule_where schema ops taken place value = and_then (some_or (fault_in (rule_piece place 0) 2) (rule_members value)) (read_pieces schema ops taken place)

-- the rule behind these
abbrev pub read_rule : Presentation → List OpEntry → List RuleRead → Data → Result RuleRead DocFault
read_rule schema ops before value = read_rule_where schema ops (names_of_rules before) (length before) value

-- the rules that are written, at most 256
abbrev pub read_rules : Presentation → List OpEntry → Option Data → Result (List RuleRead) DocFault
read_rules schema ops value = and_then (read_list_or_none sections.Rules 256 value) (each_after (read_rule schema ops) [])
