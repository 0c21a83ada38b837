-- The change that answers a gluing.
use Rattle.std.specs.Prelude.{◌||◌, ◌++◌, ℕ, Bool, not, filter, List, Option}
use Rattle.rw_schema.specs.declared.atom.Atom.{Atom}
use Rattle.rw_schema.specs.Signature.{Signature}
use Rattle.rw_spec.specs.Cocone.{Frame}
use Rattle.rw_spec.specs.Instance.{Instance}
use Rattle.rw_spec.specs.Natural.{Map}
use Rattle.rw_spec.specs.Redex.{Redex}
use Rattle.rw_columns.specs.Changes.{ChangeLists}
use Rattle.rw_delta.specs.ContextLists.{is_in}
use Rattle.rw_complement.specs.Context.{is_removed}
use Rattle.rw_glued.specs.Result.{Classing, next_after}
use Rattle.rw_local.specs.inner.ChangeTo.{change_to}
use Rattle.rw_local.specs.inner.Local.{is_least, local_cell, new_names, placed, renamed, wanted}

-- the names of the host that a redex removes
abbrev pub gone_names : Redex → ℕ → List ℕ
gone_names R object = filter (is_removed R object) (R.host.names object)

-- a name of the host goes: the context has it not, or it is merged away
abbrev pub goes : (ℕ → List ℕ) → Map → ℕ → ℕ → Bool
goes gone d object x = is_in (gone object) x || not (is_least d object x)

-- the names that go
abbrev pub removed_names : Instance → (ℕ → List ℕ) → Map → ℕ → List ℕ
removed_names X gone d object = filter (goes gone d object) (X.names object)

-- copies that are not merged away, and new parts
abbrev pub added_names : Frame → Map → Map → (ℕ → List ℕ) → ℕ → List ℕ
added_names F d s copies object = filter (is_least d object) (copies object) ++ new_names F s object

-- the change from the host to the result
abbrev pub glued_change : Signature → Instance → Frame → Map → Map → (ℕ → ℕ → Option Atom) → (ℕ → List ℕ) → (ℕ → List ℕ) → List ℕ → ChangeLists
glued_change C X F d s cell gone copies next_copied =
    change_to C X (wanted C F d s cell) (removed_names X gone d) (added_names F d s copies) (next_after C F next_copied)

-- the change that a local body answers
abbrev pub local_change : Signature → Instance → Frame → (ℕ → List ℕ) → Classing → Classing → (ℕ → List ℕ) → (ℕ → List ℕ) → List ℕ → ChangeLists
local_change C X F touched numbers firsts gone copies next_copied =
    glued_change C X F (renamed F next_copied touched numbers firsts) (placed F next_copied touched numbers firsts)
    (local_cell C F next_copied touched numbers firsts) gone copies next_copied
