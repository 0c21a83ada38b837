-- The change that leads from an instance to another one with some of its names and some new ones.
use Rattle.std.specs.Prelude.{◌≡◌, ◌==◌, ◌<◌, ◌≤◌, ◌++◌, ℕ, true, List, Option, length, map, slice_index, Contains}
use Rattle.std.specs.List.{range_with_len}
use Rattle.std.specs.Option.{option_eq}
use Rattle.rw_schema.specs.declared.atom.Atom.{Atom}
use Rattle.rw_schema.specs.Atoms.{is_same_atom}
use Rattle.rw_schema.specs.First.{map_in}
use Rattle.rw_schema.specs.Signature.{Signature}
use Rattle.rw_spec.specs.Ascending.{ascends}
use Rattle.rw_spec.specs.Instance.{Instance, Has, IsInstance}
use Rattle.rw_columns.specs.Changes.{ChangeLists, differences, staying}

-- of names those with another value than before, each with its new value
abbrev pub other_values : (ℕ → ℕ) → (ℕ → ℕ) → List ℕ → List (ℕ × ℕ)
other_values old new names = differences (λ one other. one == other) old new names

-- of names those with another cell than before, each with its new cell
abbrev pub other_cells : (ℕ → Option Atom) → (ℕ → Option Atom) → List ℕ → List (ℕ × Option Atom)
other_cells old new names = differences (option_eq is_same_atom) old new names

-- the change that leads from X to H, where some names of X go and others come
abbrev pub change_to : Signature → Instance → Instance → (ℕ → List ℕ) → (ℕ → List ℕ) → List ℕ → ChangeLists
change_to C X H removed added next = record {
  removed = map removed (range_with_len 0 C.objects);
  added = record {
    names = map added (range_with_len 0 C.objects);
    arrows = map_in (λ a ends. map (H.value a) (added ends.source.0)) 0 C.arrows;
    cells = map_in (λ c ends. map (H.cell c) (added ends.object.0)) 0 C.attributes;
    next = next;
  };
  rows = map_in (λ a ends. other_values (X.value a) (H.value a) (staying (removed ends.source.0) (X.names ends.source.0))) 0 C.arrows;
  cells = map_in (λ c ends. other_cells (X.cell c) (H.cell c) (staying (removed ends.object.0) (X.names ends.object.0))) 0 C.attributes;
}

-- H has the names of X without those that go, and then those that come; these are between the next names before and afterwards
pub record IsReached (C : Signature) (X H : Instance) (removed added : ℕ → List ℕ) (next next_after : List ℕ) : Type 0 where
  pub ascends_before : (object : ℕ) → object < C.objects → ascends (X.names object) ≡ true
  pub below_before : (object x : ℕ) → object < C.objects → Has X object x → x < slice_index next object
  pub ascends_removed : (object : ℕ) → object < C.objects → ascends (removed object) ≡ true
  pub ascends_added : (object : ℕ) → object < C.objects → ascends (added object) ≡ true
  pub removed_from : (object x : ℕ) → object < C.objects → Contains (removed object) x → Has X object x
  pub added_past : (object x : ℕ) → object < C.objects → Contains (added object) x → (slice_index next object ≤ x) × (x < slice_index next_after object)
  pub grown : (object : ℕ) → object < C.objects → slice_index next object ≤ slice_index next_after object
  pub counted : length next_after ≡ C.objects
  pub names : (object : ℕ) → object < C.objects → H.names object ≡ staying (removed object) (X.names object) ++ added object
  pub instance : IsInstance C H
