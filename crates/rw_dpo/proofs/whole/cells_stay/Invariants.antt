-- The lists of the attributes so far.
use Rattle.std.proofs.Common.{◌≡◌, map, take}
use Rattle.rw_schema.specs.declared.parts.AttrDef.{AttrDef}
use Rattle.rw_dpo.specs.Contexts.{all_stay}
use Rattle.rw_dpo.proofs.whole.cells_stay.Given as goal

abbrev pub invariant-loop-ends : goal.invariant-loop-ends
invariant-loop-ends l = map (λ list. list.items) l.lists.items ≡ map (λ (ends : AttrDef). all_stay l.pattern ends.object.0) (take l.ends-index l.schema.attributes)
