-- What is gathered goes alone, and of the elements so far all that goes alone is gathered.
use Rattle.std.proofs.Common.{◌≡◌, ◌<◌, ℕ, true, Some, Contains, slice_get}
use Rattle.rw_spo.specs.declared.element.Element.{Element}
use Rattle.rw_spo.specs.inner.Staying.{goes_alone, part_alone}
use Rattle.rw_spo.proofs.gone.gathered.Given as goal

abbrev pub invariant-loop-place : goal.invariant-loop-place
invariant-loop-place l =
    ((x : ℕ) → Contains l.names.items x → goes_alone l.removed l.attribute l.object x ≡ true)
    × ((k : ℕ) (element : Element) (x : ℕ) → k < l.place → slice_get l.removed k ≡ Some element → part_alone l.removed l.attribute l.object element ≡ Some x → Contains l.names.items x)
