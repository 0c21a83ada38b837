-- What a step reads of a rule: its patterns, its maps and the places of its sets, and what it has of an object and of an
-- arrow.
use Rattle.std.specs.Prelude.{◌≡◌, ◌<◌, ◌≤◌, ℕ, true, length, slice_get, slice_index, Some, None}
use Rattle.std.specs.List.{list_all}
use Rattle.rw_schema.specs.declared.signature.ArrowEnds.{ArrowEnds}
use Rattle.rw_schema.specs.RowLists.{list_at}
use Rattle.rw_schema.specs.Signature.{Signature}
use Rattle.rw_pattern.specs.MapFaults.{image_of, map_fault}
use Rattle.rw_pattern.specs.declared.cell.PatternCell.{PatternCell}
use Rattle.rw_pattern.specs.PatternLists.{PatternLists, holder, size_of}
use Rattle.rw_rule.specs.RuleFaults.{AreOver}
use Rattle.rw_rule.specs.RuleLists.{RuleLists}
use Rattle.rw_rule.specs.Sets.{is_on_part}

-- the part and the attribute of the entry are there
abbrev pub IsOnCell : PatternLists → PatternCell → Type 0
IsOnCell pattern entry = (entry.part < size_of pattern (holder pattern entry.attr.0)) × (entry.attr.0 < length pattern.holders)

-- the patterns are over the signature, both maps are maps of patterns, and each set is on a part of the right pattern
pub record IsSpanOver (C : Signature) (rule : RuleLists) : Type 0 where
  pub parts : AreOver C rule
  pub l : map_fault C rule.keep rule.goal.left rule.l ≡ None
  pub r : map_fault C rule.keep rule.right rule.r ≡ None
  pub sets : list_all (is_on_part rule.right) rule.sets ≡ true

-- the patterns have sizes for the object and the maps have images, in L those of l
pub record HasObject (rule : RuleLists) (object : ℕ) : Type 0 where
  pub left : object < length rule.goal.left.sizes
  pub right : object < length rule.right.sizes
  pub l : object < length rule.l
  pub r : object < length rule.r
  pub few : size_of rule.right object ≤ 64
  pub beside : length (list_at rule.l object) ≡ length (list_at rule.r object)
  pub within : (part : ℕ) → part < length (list_at rule.l object) → image_of rule.l object part < size_of rule.goal.left object

-- the arrow leads between objects of the rule, and so do the images of its row in R
pub record HasArrow (C : Signature) (rule : RuleLists) (arrow : ℕ) (ends : ArrowEnds) : Type 0 where
  pub is : slice_get C.arrows arrow ≡ Some ends
  pub source_known : ends.source.0 < C.objects
  pub target_known : ends.target.0 < C.objects
  pub source : HasObject rule ends.source.0
  pub target : HasObject rule ends.target.0
  pub row : arrow < length rule.right.rows
  pub long : length (list_at rule.right.rows arrow) ≡ size_of rule.right ends.source.0
  pub within : (part : ℕ) → part < size_of rule.right ends.source.0 → slice_index (list_at rule.right.rows arrow) part < size_of rule.right ends.target.0
