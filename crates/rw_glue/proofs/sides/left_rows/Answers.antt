-- Touched names are names of the host.
use Rattle.std.proofs.Common.{◌≡◌, ◌<◌, ℕ, [], Some, map, slice_get, subst}
use Rattle.std.proofs.lemmas.List.{length-map}
use Rattle.rw_schema.specs.Presentation.{signature_of}
use Rattle.rw_schema.specs.Signature.{Signature}
use Rattle.rw_columns.specs.inner.Filled.{AreAll}
use Rattle.rw_glue.specs.inner.Sides.{IsTouched}
use Rattle.rw_glue.proofs.Touched.{touched_there}
use Rattle.rw_glue.proofs.sides.left_rows.Goals as goal

pub held_lists-requires-clause-touched : goal.held_lists-requires-clause-touched
held_lists-requires-clause-touched g c place ends there =
    let C : Signature = signature_of c.args.schema.now in
    let known = subst (λ (D : Signature). slice_get D.attributes place ≡ Some ends) c.requires.schema there in
    let within : ends.object.0 < C.objects = c.requires.touch.1.category.holders place ends known in
    let touched = subst (λ (n : ℕ). AreAll [] (IsTouched c.args.images.now) n (map (λ list. list.items) c.in_ok-touched.touched.items)) c.objects.ensures.value c.in_ok-touched.ensures in
    rw (c.as_slice-2.ensures.value) (
      rw (← length-map c.in_ok-touched.touched.items (λ list. list.items), touched.count) within,
      touched_there C (g.P.Probe.instance c.args.probe.now) c.requires.touch.0 c.args.context.now c.args.images.now (map (λ list. list.items) c.in_ok-touched.touched.items)
          c.requires.touch.1 c.requires.images touched ends.object.0 within,
    )
