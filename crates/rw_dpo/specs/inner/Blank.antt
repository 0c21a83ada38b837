-- The names at which kept parts give up an atom.
use Rattle.std.specs.Prelude.{◌==◌, ◌&&◌, ◌||◌, ℕ, Bool, not, List}
use Rattle.std.specs.List.{list_all}
use Rattle.std.specs.Option.{is_some}
use Rattle.rw_spec.specs.Instance.{Instance}
use Rattle.rw_pattern.specs.MapFaults.{image_of}
use Rattle.rw_rule.specs.Images.{parts_of}
use Rattle.rw_rule.specs.RuleLists.{RuleLists}
use Rattle.rw_rule.specs.Sets.{is_set}
use Rattle.rw_dpo.specs.Contexts.{name_of_kept}

-- the kept part has another name, or its cell is set
abbrev pub is_set_beside : RuleLists → List ℕ → ℕ → ℕ → ℕ → ℕ → Bool
is_set_beside rule tuple object c w part = not (name_of_kept rule tuple object part == w) || is_set rule.sets c (image_of rule.r object part)

-- each kept part with the name has its cell set
abbrev pub is_set_over : RuleLists → List ℕ → ℕ → ℕ → ℕ → Bool
is_set_over rule tuple object c w = list_all (is_set_beside rule tuple object c w) (parts_of rule.keep object)

-- each kept part with the name of this one has its cell set, and the host has an atom there
abbrev pub gives_up_atom : RuleLists → List ℕ → Instance → ℕ → ℕ → ℕ → Bool
gives_up_atom rule tuple X object c part =
    is_set_over rule tuple object c (name_of_kept rule tuple object part) && is_some (X.cell c (name_of_kept rule tuple object part))
