-- The name of the next element is gathered if it goes alone.
use Rattle.std.proofs.Common.{◌∙◌, ◌<◌, ℕ, false, length, refl, sym, arith}
use Rattle.std.proofs.lemmas.Option.{slice_get_read}
use Rattle.rw_spo.specs.declared.element.Element.{Element}
use Rattle.rw_spo.proofs.Gathered.{alone_at, gathering_step}
use Rattle.rw_spo.proofs.gone.gathered.Goals as goal

pub loop-place-preserved : goal.loop-place-preserved
loop-place-preserved c =
    gathering_step c.args.removed.now c.args.attribute c.args.object c.loop-place.names.items c.push_some.new.names.items c.loop-place.place c.at.result c.part_alone-part.result
    c.loop-place.invariant c.at.ensures c.part_alone-part.ensures c.in_ok-push_some.ensures

pub returns : goal.returns
returns c = λ x.
    let elements = c.args.removed.now in
    let own : Element = record { is_right = false; attribute = c.args.attribute; object = c.args.object; part = x } in (
      c.loop-place.invariant.0 x,
      (λ passes.
          let found = alone_at elements c.args.attribute c.args.object x passes in
          let below : found.0.0 < c.loop-place.place = omega (arith, found.0.1, c.len-place-end.ensures.value, c.loop-place-test.false) in
          c.loop-place.invariant.1 found.0.0 own x below (slice_get_read elements (length elements) found.0.0 own refl found.0.1 (sym found.0.2)) found.1),
    )
