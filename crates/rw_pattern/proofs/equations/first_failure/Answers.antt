-- The part at a place of the parts is that place.
use Rattle.std.proofs.Common.{◌≡◌, ◌∙◌, ℕ, ◌<◌, ◌≤◌, Option, length, get_or, sym, zero-add}
use Rattle.std.specs.List.{range_with_len}
use Rattle.std.proofs.lemmas.List.FromFn.{length-range_with_len, get_or-range_with_len}
use Rattle.rw_schema.specs.First.{fault_unless}
use Rattle.rw_schema.proofs.Firsts.{first_here, first_next, first_past, unless_false, unless_true}
use Rattle.rw_spec.specs.Instance.{agrees_at}
use Rattle.rw_pattern.specs.declared.fault.PatternFault.{PatternFault}
use Rattle.rw_pattern.specs.declared.fault.PatternFault.TheVariants.{Equation}
use Rattle.rw_pattern.specs.PatternLists.{size_of, instance_of_pattern}
use Rattle.rw_pattern.proofs.equations.first_failure.Goals as goal

-- the part at a place
part_is : (size part : ℕ) → part < size → part ≡ get_or (range_with_len 0 size) part part
part_is size part below = sym (get_or-range_with_len 0 size part part below ∙ zero-add part)

-- a part is within the list of the parts
part_within : (size part : ℕ) → part < size → part < length (range_with_len 0 size)
part_within size part below = rw (length-range_with_len 0 size) below

pub returns-then-not-agrees : goal.returns-then-not-agrees
returns-then-not-agrees c =
    let size : ℕ = size_of c.args.pattern.now c.args.equation.now.object.0 in
    let part : ℕ = c.loop-part.part in
    let below : part < size = rw (← c.size-part-end.ensures) c.loop-part-test.true in
    let fault : ℕ → ℕ → Option PatternFault = λ position part. fault_unless (agrees_at (instance_of_pattern c.args.pattern.now) c.args.equation.now part) (Equation c.args.place part) in
    sym (c.loop-part.invariant
    ∙ first_here fault part (range_with_len 0 size) part (Equation c.args.place part) (part_within size part below) (part_is size part below)
    (unless_false (agrees_at (instance_of_pattern c.args.pattern.now) c.args.equation.now part) (Equation c.args.place part) (sym c.agrees.ensures ∙ c.if-not-agrees.true)))

pub loop-part-preserved : goal.loop-part-preserved
loop-part-preserved c =
    let size : ℕ = size_of c.args.pattern.now c.args.equation.now.object.0 in
    let part : ℕ = c.loop-part.part in
    let below : part < size = rw (← c.size-part-end.ensures) c.loop-part-test.true in
    let fault : ℕ → ℕ → Option PatternFault = λ position part. fault_unless (agrees_at (instance_of_pattern c.args.pattern.now) c.args.equation.now part) (Equation c.args.place part) in
    c.loop-part.invariant
    ∙ first_next fault part (range_with_len 0 size) part (part_within size part below) (part_is size part below)
    (unless_true (agrees_at (instance_of_pattern c.args.pattern.now) c.args.equation.now part) (Equation c.args.place part) (sym c.agrees.ensures ∙ c.if-not-agrees.false))

pub returns : goal.returns
returns c =
    let size : ℕ = size_of c.args.pattern.now c.args.equation.now.object.0 in
    let part : ℕ = c.loop-part.part in
    let past : size ≤ part = rw (← c.size-part-end.ensures) c.loop-part-test.false in
    let fault : ℕ → ℕ → Option PatternFault = λ position part. fault_unless (agrees_at (instance_of_pattern c.args.pattern.now) c.args.equation.now part) (Equation c.args.place part) in
    sym (c.loop-part.invariant ∙ first_past fault part part (range_with_len 0 size) (rw (length-range_with_len 0 size) past))
