-- The names in order are those of the host that go alone.
use Rattle.std.proofs.Common.{ℕ, false}
use Rattle.rw_dpo.proofs.Ordered.{ordered_are}
use Rattle.rw_spo.specs.declared.element.Element.{Element}
use Rattle.rw_spo.specs.inner.Staying.{goes_alone}
use Rattle.rw_spo.proofs.Gathered.{alone_at}
use Rattle.rw_spo.proofs.gone.names_alone.Goals as goal

pub returns : goal.returns
returns g c =
    let X = g.P.Probe.instance c.args._probe.now in
    let elements = c.args.removed.now in
    ordered_are c.in_ok-names.names.items c.put_in_order.new.names.items (X.names c.args.object) (goes_alone elements c.args.attribute c.args.object) (c.requires.site.ascend c.args.object)
    c.put_in_order.ensures
    (λ x there.
    let passes = (c.in_ok-names.ensures x).0 there in
    let own : Element = record { is_right = false; attribute = c.args.attribute; object = c.args.object; part = x } in
    ((c.requires.sound own (alone_at elements c.args.attribute c.args.object x passes).0).there, passes))
    (λ x has passes. (c.in_ok-names.ensures x).1 passes)
