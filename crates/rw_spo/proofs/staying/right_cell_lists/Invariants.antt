-- The lists of the attributes so far.
use Rattle.std.proofs.Common.{◌≡◌, Some, map, take}
use Rattle.rw_schema.specs.declared.signature.AttrEnds.{AttrEnds}
use Rattle.rw_schema.specs.First.{map_in}
use Rattle.rw_schema.specs.Presentation.{signature_of}
use Rattle.rw_spo.specs.inner.Staying.{marks_staying}
use Rattle.rw_spo.proofs.staying.right_cell_lists.Given as goal

abbrev pub invariant-loop-number : goal.invariant-loop-number
invariant-loop-number l =
    map (λ list. list.items) l.lists.items ≡ map_in (λ c (ends : AttrEnds). marks_staying l.removed l.right (Some c) ends.object.0) 0 (take l.number (signature_of l.schema).attributes)
