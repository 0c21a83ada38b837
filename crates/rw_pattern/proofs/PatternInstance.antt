-- A pattern is an instance.
use Rattle.std.proofs.Common.{◌≡◌, ℕ, ◌+◌, ◌<◌, true, Option, Some, None, List, length, slice_get, slice_index, ◌∙◌, zero-add, eqb-true}
use Rattle.std.specs.List.{range_with_len}
use Rattle.std.proofs.lemmas.List.FromFn.{length-range_with_len, get_or-range_with_len}
use Rattle.std.proofs.lemmas.Option.{slice_get-get_or}
use Rattle.rw_schema.specs.declared.atom.Kind as kinds
use Rattle.rw_schema.specs.declared.parts.Equation.{Equation}
use Rattle.rw_schema.specs.First.{first_in, fault_unless}
use Rattle.rw_schema.specs.RowLists.{list_at}
use Rattle.rw_schema.specs.Signature.{Signature, IsCategory}
use Rattle.rw_schema.proofs.Firsts.{first_none, passed_unless}
use Rattle.rw_spec.specs.Instance.{Instance, IsInstance, agrees_at, follow}
use Rattle.rw_pattern.specs.declared.fault.PatternFault.{PatternFault}
use Rattle.rw_pattern.specs.declared.fault.PatternFault.TheVariants as faults
use Rattle.rw_pattern.specs.PatternFaults.{failure_of, equation_fault, IsPatternOver}
use Rattle.rw_pattern.specs.PatternLists.{PatternLists, size_of, instance_of_pattern}
use Rattle.rw_pattern.proofs.Over.{row_length, image_within}
use Rattle.rw_pattern.proofs.PartNames.{part_below, has_part}

-- an equation without a fault holds at each part
equation_holds : (C : Signature) (pattern : PatternLists) (place : ℕ) (equation : Equation) (part : ℕ) → equation_fault C pattern ≡ None
    → slice_get C.equations place ≡ Some equation → part < size_of pattern equation.object.0 → agrees_at (instance_of_pattern pattern) equation part ≡ true
equation_holds C pattern place equation part none there below =
    let parts : List ℕ = range_with_len 0 (size_of pattern equation.object.0) in
    let holds : ℕ → ℕ → Option PatternFault =
    λ position part. fault_unless (agrees_at (instance_of_pattern pattern) equation part) (faults.Equation (0 + place) part) in
    let failure : first_in holds 0 parts ≡ None = first_none (failure_of pattern) 0 C.equations none place equation there in
    let within : part < length parts = rw (length-range_with_len 0 (size_of pattern equation.object.0)) below in
    let number : slice_index parts part ≡ part = get_or-range_with_len 0 (size_of pattern equation.object.0) part 0 below ∙ zero-add part in
    let part_is : slice_get parts part ≡ Some part = rw number at (slice_get-get_or parts part 0 within) in
    let here : holds (0 + part) part ≡ None = first_none holds 0 parts failure part part part_is in
    passed_unless (agrees_at (instance_of_pattern pattern) equation part) (faults.Equation (0 + place) part) here

-- the instance that a pattern is is one: images are parts, and the equations hold
pub pattern_instance : (C : Signature) (kinds : List kinds.Kind) (pattern : PatternLists) → IsCategory C → IsPatternOver C kinds pattern
    → IsInstance C (instance_of_pattern pattern)
pattern_instance C kinds pattern category over = record {
  values = λ arrow ends part arrow_is has.
      let row = list_at pattern.rows arrow in
      let short : part < length row = rw (row_length C kinds pattern arrow ends over arrow_is) (part_below pattern ends.source.0 part has) in
      has_part pattern ends.target.0 (slice_index row part)
      (image_within C kinds pattern arrow ends part (slice_index row part) over arrow_is (slice_get-get_or row part 0 short));
  atoms = λ attribute ends part atom attribute_is has holds. cc;
  equations = λ place equation part there has.
      let X : Instance = instance_of_pattern pattern in
      eqb-true (follow X equation.left part) (follow X equation.right part)
      (equation_holds C pattern place equation part over.equations there (part_below pattern equation.object.0 part has));
}
