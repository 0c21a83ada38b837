-- The lists are within the limits, and the fault that is answered is their first.
use Rattle.std.proofs.Common.{◌≡◌, ◌∙◌, ℕ, Bool, List, Option, length, true, None, Some, sym, ap}
use Rattle.rw_schema.specs.declared.parts.ArrowDef.{ArrowDef}
use Rattle.rw_schema.specs.declared.parts.AttrDef.{AttrDef}
use Rattle.rw_schema.specs.declared.parts.Equation.{Equation}
use Rattle.rw_schema.specs.declared.section.Section.TheVariants.{Objects, Arrows, Attributes}
use Rattle.rw_schema.specs.declared.fault.SchemaFault.{SchemaFault}
use Rattle.rw_schema.specs.First.{or_else}
use Rattle.rw_schema.specs.Presentation.{Presentation}
use Rattle.rw_schema.specs.SchemaFaults.{is_within_limits, first_twice, first_unknown, first_homeless, first_nameless, first_apart, object_name, arrow_name, attribute_name}
use Rattle.rw_schema.proofs.Schemas.{counts_within, builds_fault, misplaced_first}
use Rattle.rw_schema.proofs.schema.Schema.build.Goals as goal

-- the lists are within the limits where the lists that were tested are they
met : (lists : Presentation) (objects : List (List ℕ)) (arrows : List ArrowDef) (attributes : List AttrDef) (equations : List Equation) (answer : Bool)
    → objects ≡ lists.objects → arrows ≡ lists.arrows → attributes ≡ lists.attributes → equations ≡ lists.equations
    → answer ≡ is_within_limits (record { objects = objects; arrows = arrows; attributes = attributes; equations = equations }) → answer ≡ true
    → is_within_limits lists ≡ true
met lists objects arrows attributes equations answer objects_are arrows_are attributes_are equations_are is passed =
    rw (← objects_are, ← arrows_are, ← attributes_are, ← equations_are, ← is) passed

-- the first misplaced thing of the lists where the lists that were searched are they
found : (lists : Presentation) (count : ℕ) (arrows : List ArrowDef) (attributes : List AttrDef) (equations : List Equation) (fault : Option SchemaFault)
    → count ≡ length lists.objects → arrows ≡ lists.arrows → attributes ≡ lists.attributes → equations ≡ lists.equations
    → fault ≡ or_else (first_unknown count arrows) (or_else (first_homeless count attributes) (or_else (first_nameless count (length arrows) equations) (first_apart arrows equations)))
    → fault ≡ or_else (first_unknown (length lists.objects) lists.arrows) (or_else (first_homeless (length lists.objects) lists.attributes)
    (or_else (first_nameless (length lists.objects) (length lists.arrows) lists.equations) (first_apart lists.arrows lists.equations)))
found lists count arrows attributes equations fault count_is arrows_are attributes_are equations_are is =
    rw (← count_is, ← arrows_are, ← attributes_are, ← equations_are) is

pub first_misplaced-requires-clause-arrows : goal.first_misplaced-requires-clause-arrows
first_misplaced-requires-clause-arrows c =
    let lists : Presentation = record { objects = c.args.parts.objects.items; arrows = c.args.parts.arrows.items; attributes = c.args.parts.attributes.items; equations = c.args.parts.equations.items } in
    let within : is_within_limits lists ≡ true = met lists c.as_slice.result.now c.as_slice-2.result.now c.as_slice-3.result.now c.as_slice-4.result.now c.are_within_limits.result
    c.as_slice.ensures.value c.as_slice-2.ensures.value c.as_slice-3.ensures.value c.as_slice-4.ensures.value c.are_within_limits.ensures c.if-not-are_within_limits.false in
    rw (c.as_slice-8.ensures.value) (counts_within lists within).0

pub first_misplaced-requires-clause-attributes : goal.first_misplaced-requires-clause-attributes
first_misplaced-requires-clause-attributes c =
    let lists : Presentation = record { objects = c.args.parts.objects.items; arrows = c.args.parts.arrows.items; attributes = c.args.parts.attributes.items; equations = c.args.parts.equations.items } in
    let within : is_within_limits lists ≡ true = met lists c.as_slice.result.now c.as_slice-2.result.now c.as_slice-3.result.now c.as_slice-4.result.now c.are_within_limits.result
    c.as_slice.ensures.value c.as_slice-2.ensures.value c.as_slice-3.ensures.value c.as_slice-4.ensures.value c.are_within_limits.ensures c.if-not-are_within_limits.false in
    rw (c.as_slice-9.ensures.value) (counts_within lists within).1

pub first_misplaced-requires-clause-equations : goal.first_misplaced-requires-clause-equations
first_misplaced-requires-clause-equations c =
    let lists : Presentation = record { objects = c.args.parts.objects.items; arrows = c.args.parts.arrows.items; attributes = c.args.parts.attributes.items; equations = c.args.parts.equations.items } in
    let within : is_within_limits lists ≡ true = met lists c.as_slice.result.now c.as_slice-2.result.now c.as_slice-3.result.now c.as_slice-4.result.now c.are_within_limits.result
    c.as_slice.ensures.value c.as_slice-2.ensures.value c.as_slice-3.ensures.value c.as_slice-4.ensures.value c.are_within_limits.ensures c.if-not-are_within_limits.false in
    rw (c.as_slice-10.ensures.value) (counts_within lists within).2

pub returns-in-Some : goal.returns-in-Some
returns-in-Some c =
    let lists : Presentation = record { objects = c.args.parts.objects.items; arrows = c.args.parts.arrows.items; attributes = c.args.parts.attributes.items; equations = c.args.parts.equations.items } in
    let within : is_within_limits lists ≡ true = met lists c.as_slice.result.now c.as_slice-2.result.now c.as_slice-3.result.now c.as_slice-4.result.now c.are_within_limits.result
    c.as_slice.ensures.value c.as_slice-2.ensures.value c.as_slice-3.ensures.value c.as_slice-4.ensures.value c.are_within_limits.ensures c.if-not-are_within_limits.false in
    let objects : first_twice object_name Objects lists.objects ≡ None = rw (← c.as_slice-5.ensures.value) c.in_ok-object_names.ensures.1 in
    let arrows : first_twice arrow_name Arrows lists.arrows ≡ None = rw (← c.as_slice-6.ensures.value) c.in_ok-arrow_names.ensures.1 in
    let attributes : first_twice attribute_name Attributes lists.attributes ≡ None = rw (← c.as_slice-7.ensures.value) c.in_ok-attribute_names.ensures.1 in
    let count : c.len.result ≡ length lists.objects = c.len.ensures ∙ sym c.as_slice-5.ensures.len ∙ ap length c.as_slice-5.ensures.value in
    let misplaced = found lists c.len.result c.as_slice-8.result.now c.as_slice-9.result.now c.as_slice-10.result.now (Some c.in-Some.fault)
    count c.as_slice-8.ensures.value c.as_slice-9.ensures.value c.as_slice-10.ensures.value (sym c.in-Some.is ∙ c.first_misplaced.ensures) in
    builds_fault lists c.in-Some.fault (misplaced_first lists (Some c.in-Some.fault) within objects arrows attributes misplaced)
