-- The patterns of a rule, and its maps as natural maps between the instances that they are.
use Rattle.std.proofs.Common.{◌≡◌, ℕ, ◌<◌, true, [], length}
use Rattle.rw_schema.specs.Signature.{Signature}
use Rattle.rw_spec.specs.Natural.{IsNatural}
use Rattle.rw_pattern.specs.MapFaults.{image_of, has_map_shape}
use Rattle.rw_pattern.specs.PatternLists.{instance_of_pattern}
use Rattle.rw_pattern.proofs.Maps.{is_map, natural_from_map}
use Rattle.rw_pattern.proofs.Shapes.{IsPattern, is_pattern}
use Rattle.rw_rule.specs.RuleLists.{RuleLists}
use Rattle.rw_redex.specs.RuleParts.{IsSpanOver}

-- the left pattern is one over the signature
pub left_is : (C : Signature) (rule : RuleLists) → IsSpanOver C rule → IsPattern C rule.goal.left
left_is C rule over = is_pattern C rule.goal.left (rule.goal.kinds, over.parts.goal.left)

-- the kept pattern is one over the signature
pub keep_is : (C : Signature) (rule : RuleLists) → IsSpanOver C rule → IsPattern C rule.keep
keep_is C rule over = is_pattern C rule.keep ([], over.parts.keep)

-- the right pattern is one over the signature
pub right_is : (C : Signature) (rule : RuleLists) → IsSpanOver C rule → IsPattern C rule.right
right_is C rule over = is_pattern C rule.right ([], over.parts.right)

-- the kept pattern has a size for each object
pub keep_known : (C : Signature) (rule : RuleLists) (object : ℕ) → IsSpanOver C rule → object < C.objects → object < length rule.keep.sizes
keep_known C rule object over known = rw (keep_is C rule over).sizes_long known

-- the map to the left pattern is natural
pub left_natural : (C : Signature) (rule : RuleLists) → IsSpanOver C rule
    → IsNatural C (instance_of_pattern rule.keep) (instance_of_pattern rule.goal.left) (image_of rule.l)
left_natural C rule over = natural_from_map C rule.keep rule.goal.left rule.l (keep_is C rule over) over.l

-- the map to the right pattern is natural
pub right_natural : (C : Signature) (rule : RuleLists) → IsSpanOver C rule
    → IsNatural C (instance_of_pattern rule.keep) (instance_of_pattern rule.right) (image_of rule.r)
right_natural C rule over = natural_from_map C rule.keep rule.right rule.r (keep_is C rule over) over.r

-- each object has as many images in the left pattern as it has kept parts
pub left_shape : (C : Signature) (rule : RuleLists) → IsSpanOver C rule → has_map_shape rule.keep rule.l ≡ true
left_shape C rule over = (is_map C rule.keep rule.goal.left rule.l over.l).shape

-- each object has as many images in the right pattern as it has kept parts
pub right_shape : (C : Signature) (rule : RuleLists) → IsSpanOver C rule → has_map_shape rule.keep rule.r ≡ true
right_shape C rule over = (is_map C rule.keep rule.right rule.r over.r).shape
