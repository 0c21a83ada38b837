-- The lists have no fault exactly where they are a homomorphism.
use Rattle.std.proofs.Common.{◌≡◌, ◌∙◌, None, Some, refl, sym}
use Rattle.rw_schema.specs.Presentation.{signature_of}
use Rattle.rw_spec.specs.Tabled.{instance_of_table}
use Rattle.rw_map.specs.HomFaults.{hom_fault}
use Rattle.rw_map.proofs.Entries.{distinct_names}
use Rattle.rw_map.proofs.HomChecks.{hom_from_none, none_from_hom}
use Rattle.rw_map.proofs.hom.Hom.check.Goals as goal

pub returns-in-Some-clause-exact : goal.returns-in-Some-clause-exact
returns-in-Some-clause-exact c =
    let C = signature_of c.args.schema.now in
    let x = c.args.x.now in
    let X = instance_of_table x in
    let Y = instance_of_table c.args.y.now in
    let some : hom_fault C X Y c.args.map.now ≡ Some c.in-Some.fault = sym c.first_fault.ensures ∙ c.in-Some.is in (
      λ yes. let no : ⊥ = cc in absurd no,
      λ is.
          let none : hom_fault C X Y c.args.map.now ≡ None =
          none_from_hom C X Y c.args.map.now (λ object known. distinct_names x.signature x.rows object c.rows.ensures.sound) is in
          let no : ⊥ = cc in
          absurd no,
    )

pub returns-in-None-clause-exact : goal.returns-in-None-clause-exact
returns-in-None-clause-exact c =
    let C = signature_of c.args.schema.now in
    let X = instance_of_table c.args.x.now in
    let Y = instance_of_table c.args.y.now in
    let none : hom_fault C X Y c.args.map.now ≡ None = sym c.first_fault.ensures ∙ c.in-None.is in
    (λ yes. hom_from_none C X Y c.args.map.now none, λ is. refl)
