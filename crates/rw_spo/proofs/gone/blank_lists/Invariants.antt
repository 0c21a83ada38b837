-- The lists of the attributes so far.
use Rattle.std.proofs.Common.{◌≡◌, Some, map, take}
use Rattle.rw_schema.specs.declared.signature.AttrEnds.{AttrEnds}
use Rattle.rw_schema.specs.First.{map_in}
use Rattle.rw_schema.specs.Presentation.{signature_of}
use Rattle.rw_spo.specs.inner.Staying.{names_alone}
use Rattle.rw_spo.proofs.gone.blank_lists.Given as goal

abbrev pub invariant-loop-number : goal.invariant-loop-number
invariant-loop-number g l =
    map (λ list. list.items) l.lists.items
    ≡ map_in (λ c (ends : AttrEnds). names_alone l.removed (g.P.Probe.instance l.probe) (Some c) ends.object.0) 0 (take l.number (signature_of l.schema).attributes)
