-- What a step keeps of the host before anything comes: how a context differs from the host.
use Rattle.std.specs.Prelude.{◌==◌, ℕ, Bool, not, cond, filter, List, Option, None}
use Rattle.std.specs.List.{list_any}
use Rattle.rw_schema.specs.RowLists.{list_at}
use Rattle.rw_schema.specs.Signature.{Signature}
use Rattle.rw_spec.specs.Instance.{Instance}

-- a further part of the context, over a part of the host, with where its arrows lead
pub record CopiedLists : Type 0 where
  pub object : ℕ
  pub origin : ℕ
  pub name : ℕ
  pub rows : List ℕ

pub record ContextLists : Type 0 where
  -- of each object and each of its kept parts the name, or none where the part is dropped
  pub of_keep : List (List (Option ℕ))
  -- of each object the names of the host that are not there
  pub removed : List (List ℕ)
  -- the further parts
  pub copies : List CopiedLists
  -- of each attribute the names whose cell is blank though the host's is not
  pub blank : List (List ℕ)
  -- of each object which right parts stay, and of each attribute which of their cells
  pub right : List (List Bool)
  pub right_cells : List (List Bool)
  -- of each arrow the names at which it leads elsewhere than in the host, and where
  pub rows : List (List (ℕ × ℕ))
  -- of each object the next name
  pub next : List ℕ

-- the number is in the list
abbrev pub is_in : List ℕ → ℕ → Bool
is_in numbers x = list_any (λ other. other == x) numbers

-- the instance that a context without copies and changed rows stands for
abbrev pub instance_of_context : Signature → Instance → ContextLists → Instance
instance_of_context C X context = record {
  names = λ object. filter (λ w. not (is_in (list_at context.removed object) w)) (X.names object);
  value = X.value;
  cell = λ c w. cond (is_in (list_at context.blank c) w) None (X.cell c w);
}
