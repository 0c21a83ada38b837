-- The names of the parts so far that give up an atom.
use Rattle.std.proofs.Common.{◌≡◌, filter, map}
use Rattle.std.specs.List.{range_with_len}
use Rattle.rw_dpo.specs.Contexts.{name_of_kept}
use Rattle.rw_dpo.specs.inner.Blank.{gives_up_atom}
use Rattle.rw_dpo.proofs.blank.names_given_up.Given as goal

abbrev pub invariant-loop-part : goal.invariant-loop-part
invariant-loop-part g l =
    l.names.items ≡ map (name_of_kept l.rule l.tuple l.object.0) (filter (gives_up_atom l.rule l.tuple (g.P.Probe.instance l.probe) l.object.0 l.attribute.0) (range_with_len 0 l.part))
