-- All objects are those so far, with those of the names that are left.
use Rattle.std.proofs.Common.{◌≡◌, ◌++◌, drop, option_map}
use Rattle.rw_doc.specs.Chain.{all_some}
use Rattle.rw_docpattern.specs.Objects as spec
use Rattle.rw_docpattern.proofs.objects.objects_named.Given as goal

abbrev pub invariant-loop-name : goal.invariant-loop-name
invariant-loop-name l =
    let named = spec.object_named l.schema.objects in
    all_some named l.names ≡ option_map (λ rest. l.objects.items ++ rest) (all_some named (drop l.name-index l.names))
