-- The new parts of a rule, and the next names after they have taken theirs.
use Rattle.std.specs.Prelude.{◌+◌, ℕ, not, filter, length, List, slice_index}
use Rattle.std.specs.List.{range_with_len}
use Rattle.rw_rule.specs.Images.{is_image, parts_of}
use Rattle.rw_rule.specs.RuleLists.{RuleLists}

-- the new parts: those of the right pattern outside the image of r
abbrev pub new_parts : RuleLists → ℕ → List ℕ
new_parts rule object = filter (λ part. not (is_image rule.r object part)) (parts_of rule.right object)

-- how many new parts there are before a part
abbrev pub new_before : RuleLists → ℕ → ℕ → ℕ
new_before rule object part = length (filter (λ other. not (is_image rule.r object other)) (range_with_len 0 part))

-- the next name after the step: each new part has taken one
abbrev pub next_after : RuleLists → List ℕ → ℕ → ℕ
next_after rule next object = slice_index next object + length (new_parts rule object)
