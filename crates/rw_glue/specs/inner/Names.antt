-- The names of classes, in lists.
use Rattle.std.specs.Prelude.{◌≡◌, ◌<◌, ◌≤◌, ◌+◌, ◌-◌, ℕ, All, cond, drop, length, map, nat_lt, slice_index, List}
use Rattle.rw_schema.specs.RowLists.{list_at}
use Rattle.rw_pattern.specs.PatternLists.{size_of}
use Rattle.rw_rule.specs.RuleLists.{RuleLists}
use Rattle.rw_local.specs.inner.ChangeTo.{other_values}
use Rattle.rw_redex.specs.NewParts.{new_before}
use Rattle.rw_redex.specs.Obstructions.{most_names}
use Rattle.rw_redex.specs.RuleParts.{HasObject}

-- the name of the class that begins with a part: a touched name stays, a part of the right side takes a next name
abbrev pub name_of_first : RuleLists → ℕ → List ℕ → ℕ → ℕ → ℕ
name_of_first rule next touched object first =
    cond (nat_lt first (length touched)) (slice_index touched first) (next + new_before rule object (first - length touched))

-- the classes of an object can be named: each begins with a touched name or a part of the right side
pub record AreNameable (rule : RuleLists) (next : List ℕ) (touched firsts : List (List ℕ)) (object : ℕ) : Type 0 where
  pub has : HasObject rule object
  pub room : slice_index next object ≤ most_names
  pub begin : All (λ first. first < length (list_at touched object) + size_of rule.right object) (list_at firsts object)

-- the names of the classes of an object
abbrev pub AreClassNames : RuleLists → List ℕ → List (List ℕ) → List (List ℕ) → ℕ → List ℕ → Type 0
AreClassNames rule next touched firsts object names =
    names ≡ map (name_of_first rule (slice_index next object) (list_at touched object) object) (list_at firsts object)

-- the touched names that d gives another name, each with that name, where d gives each the name of its class
abbrev pub AreMovedBy : List ℕ → List ℕ → List ℕ → List (ℕ × ℕ) → Type 0
AreMovedBy touched numbers names moved = (d : ℕ → ℕ)
    → ((place : ℕ) → place < length touched → d (slice_index touched place) ≡ slice_index names (slice_index numbers place))
    → moved ≡ other_values (λ x. x) d touched

-- so of each object
abbrev pub AreMoved : List (List ℕ) → List (List ℕ) → List (List ℕ) → ℕ → List (ℕ × ℕ) → Type 0
AreMoved touched numbers names object moved = AreMovedBy (list_at touched object) (list_at numbers object) (list_at names object) moved

-- the names of the parts of the right side
abbrev pub ArePlaced : List (List ℕ) → List (List ℕ) → List (List ℕ) → ℕ → List ℕ → Type 0
ArePlaced touched numbers names object placed =
    placed ≡ map (slice_index (list_at names object)) (drop (length (list_at touched object)) (list_at numbers object))

-- the touched names of an object have classes, and the classes have names
pub record HaveNames (touched numbers names : List (List ℕ)) (object : ℕ) : Type 0 where
  pub each : length (list_at touched object) ≤ length (list_at numbers object)
  pub within : All (λ class. class < length (list_at names object)) (list_at numbers object)
