-- The parts of a pattern as the names of an instance.
use Rattle.std.proofs.Common.{◌≡◌, ℕ, ◌+◌, ◌<◌, sym, ◌∙◌, zero-add, arith}
use Rattle.std.proofs.lemmas.List.FromFn.{length-range_with_len, get_or-range_with_len}
use Rattle.rw_spec.specs.Instance.{Has}
use Rattle.rw_pattern.specs.PatternLists.{PatternLists, size_of, instance_of_pattern}

-- the parts of an object are the numbers below its size
pub part_below : (pattern : PatternLists) (object part : ℕ) → Has (instance_of_pattern pattern) object part → part < size_of pattern object
part_below pattern object part has =
    let size = size_of pattern object in
    let short : has.0 < size = rw (length-range_with_len 0 size) at has.1 in
    let same : 0 + has.0 ≡ part = sym (get_or-range_with_len 0 size has.0 part short) ∙ has.2 in
    omega arith

-- each number below an object's size is a part
pub has_part : (pattern : PatternLists) (object part : ℕ) → part < size_of pattern object → Has (instance_of_pattern pattern) object part
has_part pattern object part below =
    let size = size_of pattern object in
    (part, rw (length-range_with_len 0 size) below, get_or-range_with_len 0 size part part below ∙ zero-add part)
