-- Images have no fault exactly where they are a map of patterns.
use Rattle.std.proofs.Common.{◌≡◌, ◌∙◌, false, None, Some, refl, sym}
use Rattle.std.proofs.lemmas.Bool.{both_ways}
use Rattle.rw_schema.specs.First.{first_in}
use Rattle.rw_schema.specs.Presentation.{signature_of}
use Rattle.rw_schema.specs.Signature.{Signature}
use Rattle.rw_pattern.specs.MapFaults.{has_map_shape, image_fault, map_fault, square_fault}
use Rattle.rw_pattern.proofs.Maps.{map_from_none, no_map_fault, shape_of_map, range_of_map, squares_of_map}
use Rattle.rw_pattern.proofs.Shapes.{is_pattern}
use Rattle.rw_pattern.proofs.check.check_map.Goals as goal

pub returns-in-None-clause-exact : goal.returns-in-None-clause-exact
returns-in-None-clause-exact c =
    let C : Signature = signature_of c.args.schema.now in
    let none : map_fault C c.args.from.now c.args.to.now c.args.images.now ≡ None =
    no_map_fault C c.args.from.now c.args.to.now c.args.images.now (sym c.is_map_shaped.ensures ∙ c.if-not-is_map_shaped.false)
    (sym c.first_stray.ensures ∙ c.in_default.is) (sym c.first_square.ensures ∙ c.in-None.is) in
    (λ yes. map_from_none C c.args.from.now c.args.to.now c.args.images.now (is_pattern C c.args.from.now c.requires.from) none, λ is. refl)

pub returns-then-not-is_map_shaped-clause-exact : goal.returns-then-not-is_map_shaped-clause-exact
returns-then-not-is_map_shaped-clause-exact c =
    let C : Signature = signature_of c.args.schema.now in
    let unshaped : has_map_shape c.args.from.now c.args.images.now ≡ false = sym c.is_map_shaped.ensures ∙ c.if-not-is_map_shaped.true in (
      λ yes. let no : ⊥ = cc in absurd no,
      λ is. absurd (both_ways (has_map_shape c.args.from.now c.args.images.now) unshaped (shape_of_map C c.args.from.now c.args.to.now c.args.images.now is)),
    )

pub returns-in-Some-clause-exact : goal.returns-in-Some-clause-exact
returns-in-Some-clause-exact c =
    let C : Signature = signature_of c.args.schema.now in
    let some : first_in (image_fault c.args.to.now c.args.images.now) 0 c.args.from.now.sizes ≡ Some c.in-Some.fault = sym c.first_stray.ensures ∙ c.in-Some.is in (
      λ yes. let no : ⊥ = cc in absurd no,
      λ is.
          let none = range_of_map C c.args.from.now c.args.to.now c.args.images.now (is_pattern C c.args.from.now c.requires.from) is in
          let no : ⊥ = cc in
          absurd no,
    )

pub returns-in-Some-first_square-clause-exact : goal.returns-in-Some-first_square-clause-exact
returns-in-Some-first_square-clause-exact c =
    let C : Signature = signature_of c.args.schema.now in
    let some : first_in (square_fault c.args.from.now c.args.to.now c.args.images.now) 0 C.arrows ≡ Some c.in-Some-first_square.fault =
    sym c.first_square.ensures ∙ c.in-Some-first_square.is in (
      λ yes. let no : ⊥ = cc in absurd no,
      λ is.
          let none = squares_of_map C c.args.from.now c.args.to.now c.args.images.now (is_pattern C c.args.from.now c.requires.from) is in
          let no : ⊥ = cc in
          absurd no,
    )
