-- Each attribute is one of an object of the rule.
use Rattle.std.proofs.Common.{◌≡◌, List, Some, map, slice_get, subst}
use Rattle.rw_schema.specs.declared.parts.AttrDef.{AttrDef}
use Rattle.rw_schema.specs.Presentation.{ends_of_attribute}
use Rattle.rw_glue.proofs.sides.right_rows.Goals as goal

pub set_lists-requires-clause-sizes : goal.set_lists-requires-clause-sizes
set_lists-requires-clause-sizes c place ends there =
    rw c.requires.sizes (c.requires.category.holders place ends
    (subst (λ (all : List AttrDef). slice_get (map ends_of_attribute all) place ≡ Some ends) c.attribute_list.ensures.value there))
