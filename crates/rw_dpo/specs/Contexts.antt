-- The lists of the context of a double pushout.
use Rattle.std.specs.Prelude.{◌≡◌, ◌&&◌, ℕ, Bool, true, not, filter, length, map, replicate, List, [], Option, Some}
use Rattle.std.specs.List.{range_with_len}
use Rattle.std.specs.Option.{is_some}
use Rattle.rw_schema.specs.declared.signature.AttrEnds.{AttrEnds}
use Rattle.rw_schema.specs.First.{map_in}
use Rattle.rw_schema.specs.Signature.{Signature}
use Rattle.rw_spec.specs.Instance.{Instance}
use Rattle.rw_pattern.specs.MapFaults.{image_of}
use Rattle.rw_pattern.specs.PatternLists.{PatternLists, map_of_tuple, size_of}
use Rattle.rw_rule.specs.Images.{parts_of}
use Rattle.rw_rule.specs.RuleLists.{RuleLists}
use Rattle.rw_complement.specs.Context.{is_blanked, is_removed}
use Rattle.rw_spec.specs.Redex.{Redex}
use Rattle.rw_delta.specs.ContextLists.{ContextLists}
use Rattle.rw_redex.specs.Instantiated.{redex_of}

-- the cell is made blank where the host has an atom
abbrev pub loses_atom : Redex → ℕ → ℕ → ℕ → Bool
loses_atom R object c w = not (is_removed R object w) && is_blanked R object c w && is_some (R.host.cell c w)

-- the name that the match gives to a kept part
abbrev pub name_of_kept : RuleLists → List ℕ → ℕ → ℕ → ℕ
name_of_kept rule tuple object part = map_of_tuple rule.goal.left tuple object (image_of rule.l object part)

-- the names of an object's kept parts
abbrev pub kept_names : RuleLists → List ℕ → ℕ → List (Option ℕ)
kept_names rule tuple object = map (λ part. Some (name_of_kept rule tuple object part)) (parts_of rule.keep object)

-- the names of an object that are removed
abbrev pub removed_names : RuleLists → List ℕ → Instance → ℕ → List ℕ
removed_names rule tuple X object = filter (is_removed (redex_of rule tuple X) object) (X.names object)

-- the names at which a cell of an attribute is made blank
abbrev pub blank_names : RuleLists → List ℕ → Instance → ℕ → AttrEnds → List ℕ
blank_names rule tuple X c ends = filter (loses_atom (redex_of rule tuple X) ends.object.0 c) (X.names ends.object.0)

-- of each part of an object that it stays
abbrev pub all_stay : PatternLists → ℕ → List Bool
all_stay pattern object = replicate (size_of pattern object) true

-- nothing is copied and no arrow leads elsewhere, all of the right side stays, and no next name is taken
pub record IsContextOf (C : Signature) (rule : RuleLists) (tuple : List ℕ) (X : Instance) (given : List ℕ) (context : ContextLists) : Type 0 where
  pub of_keep : context.of_keep ≡ map (kept_names rule tuple) (range_with_len 0 C.objects)
  pub removed : context.removed ≡ map (removed_names rule tuple X) (range_with_len 0 C.objects)
  pub copies : context.copies ≡ []
  pub blank : context.blank ≡ map_in (blank_names rule tuple X) 0 C.attributes
  pub right : context.right ≡ map (all_stay rule.right) (range_with_len 0 C.objects)
  pub right_cells : context.right_cells ≡ map (λ (ends : AttrEnds). all_stay rule.right ends.object.0) C.attributes
  pub rows : context.rows ≡ replicate (length C.arrows) []
  pub next : context.next ≡ given
