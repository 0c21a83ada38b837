-- What changes, in lists.
use Rattle.std.specs.Prelude.{◌≡◌, ◌⊎◌, ◌<◌, ◌≤◌, ◌+◌, ℕ, true, not, All, Contains, filter, length, map, slice_get, slice_index, slice_index_or, List, [], Option, None, Some, option_and_then}
use Rattle.std.specs.List.{flat_map}
use Rattle.rw_schema.specs.declared.atom.Atom.{Atom}
use Rattle.rw_schema.specs.declared.signature.ArrowEnds.{ArrowEnds}
use Rattle.rw_schema.specs.declared.signature.AttrEnds.{AttrEnds}
use Rattle.rw_schema.specs.RowLists.{RowLists, list_at}
use Rattle.rw_schema.specs.Signature.{Signature, holder_of, source_of}
use Rattle.rw_spec.specs.Ascending.{ascends}
use Rattle.rw_spec.specs.Ends.{target_of}
use Rattle.rw_spec.specs.Instance.{Instance, Has}
use Rattle.rw_classes.specs.Clashes.{both_cells}
use Rattle.rw_classes.specs.Merging.{cell_at}
use Rattle.rw_classes.specs.declared.merge.Merged.{Merged}
use Rattle.rw_classes.specs.declared.merge.Merged.TheVariants.{Firsts, Differ}
use Rattle.rw_columns.specs.Changes.{ChangeLists, beside, entry_names}
use Rattle.rw_columns.specs.Columned.{preimage_of}
use Rattle.rw_columns.specs.inner.Filled.{AreAll}
use Rattle.rw_delta.specs.ContextLists.{ContextLists, is_in}
use Rattle.rw_delta.specs.Deltas.{IsListOf}
use Rattle.rw_rule.specs.RuleLists.{RuleLists}
use Rattle.rw_local.specs.inner.ChangeTo.{other_cells, other_values}
use Rattle.rw_redex.specs.NewParts.{new_parts}
use Rattle.rw_redex.specs.Obstructions.{most_names}
use Rattle.rw_redex.specs.RuleParts.{HasObject}
use Rattle.rw_glue.specs.inner.Sides.{holder_at}

-- the names that the context has not, and those that get another name
abbrev pub AreRemoved : List (List ℕ) → List (List (ℕ × ℕ)) → ℕ → List ℕ → Type 0
AreRemoved gone moved object names = IsListOf (λ x. Contains (list_at gone object) x ⊎ Contains (entry_names (list_at moved object)) x) names

-- the new parts of an object have names
pub record IsPlacedAt (rule : RuleLists) (placed : List (List ℕ)) (object : ℕ) : Type 0 where
  pub has : HasObject rule object
  pub each : All (λ part. part < length (list_at placed object)) (new_parts rule object)

-- the names of the new parts of an object
abbrev pub AreNewNames : RuleLists → List (List ℕ) → ℕ → List ℕ → Type 0
AreNewNames rule placed object names = names ≡ map (slice_index (list_at placed object)) (new_parts rule object)

-- the next name of an object afterwards
abbrev pub IsNextAfter : RuleLists → List ℕ → ℕ → ℕ → Type 0
IsNextAfter rule next object name = name ≡ slice_index next object + length (new_parts rule object)

-- the objects at the ends of an arrow, among the ends of all arrows
abbrev pub source_at : List ArrowEnds → ℕ → ℕ
source_at arrows a = slice_index (map (λ ends. ends.source.0) arrows) a

abbrev pub target_at : List ArrowEnds → ℕ → ℕ
target_at arrows a = slice_index (map (λ ends. ends.target.0) arrows) a

-- an arrow leads from the new parts of its source to the names of their values
abbrev pub AreNewRows : List ArrowEnds → RuleLists → List (List ℕ) → ℕ → List ℕ → Type 0
AreNewRows arrows rule placed a row =
    row ≡ map (slice_index (list_at placed (target_at arrows a))) (map (slice_index (list_at rule.right.rows a)) (new_parts rule (source_at arrows a)))

-- the cells of the new parts of an attribute's object
abbrev pub AreNewCells : List AttrEnds → RuleLists → List (List (Option Atom)) → ℕ → List (Option Atom) → Type 0
AreNewCells attributes rule cells c list = list ≡ map (λ part. slice_index_or (list_at cells c) part None) (new_parts rule (holder_at attributes c))

-- the names that stay and that an arrow leads to a name
abbrev pub leads_out : Signature → Instance → ℕ → List ℕ → ℕ → List ℕ
leads_out C X a removed target = filter (λ x. not (is_in removed x)) (preimage_of C X a target)

-- the names that stay and that an arrow leads to one of some names
abbrev pub redirected : Signature → Instance → ℕ → List ℕ → List ℕ → List ℕ
redirected C X a removed targets = flat_map (leads_out C X a removed) targets

-- the names that stay and that an arrow leads to a name that gets another name, each with that name
pub record AreRedirected (C : Signature) (X : Instance) (a : ℕ) (removed : List ℕ) (moved row : List (ℕ × ℕ)) : Type 0 where
  pub some : List ℕ
  pub all : IsListOf (Contains (redirected C X a removed (entry_names moved))) some
  pub differ : row ≡ other_values (X.value a) (λ x. beside (X.value a x) moved (X.value a x)) some

-- so of each arrow
abbrev pub AreRowChanges : Signature → Instance → List (List ℕ) → List (List (ℕ × ℕ)) → ℕ → List (ℕ × ℕ) → Type 0
AreRowChanges C X removed moved a row = AreRedirected C X a (list_at removed (source_of C a)) (list_at moved (target_of C a)) row

-- of each class its first part that has an atom; nothing where classes clash
abbrev pub firsts_in : Merged → List (Option ℕ)
firsts_in (Firsts firsts) = firsts.items
firsts_in (Differ difference) = []

-- the cell that the part at a place gets: that of the first part of its class that has an atom
abbrev pub touched_cell : List (Option ℕ) → List ℕ → List (Option Atom) → ℕ → Option Atom
touched_cell firsts numbers cells place = option_and_then (cell_at cells) (slice_index_or firsts (slice_index numbers place) None)

-- the touched names of an object are names of the host, and each has a class
pub record CanCompare (X : Instance) (touched numbers : List (List ℕ)) (moved : List (List (ℕ × ℕ))) (object : ℕ) : Type 0 where
  pub touched_there : object < length touched
  pub numbers_there : object < length numbers
  pub moved_there : object < length moved
  pub names : All (Has X object) (list_at touched object)
  pub ascend : ascends (entry_names (list_at moved object)) ≡ true
  pub each : length (list_at touched object) ≤ length (list_at numbers object)

-- the touched names that stay
abbrev pub unmoved : List (ℕ × ℕ) → List ℕ → List ℕ
unmoved moved touched = filter (λ x. not (is_in (entry_names moved) x)) touched

-- the touched names that stay and get another cell, each with that cell, where `new` gives each the cell of its class
abbrev pub AreCellsBy : (ℕ → Option Atom) → List (Option ℕ) → List ℕ → List (Option Atom) → List ℕ → List (ℕ × ℕ) → List (ℕ × Option Atom) → Type 0
AreCellsBy old firsts numbers cells touched moved changes = (new : ℕ → Option Atom)
    → ((place : ℕ) → place < length touched → new (slice_index touched place) ≡ touched_cell firsts numbers cells place)
    → changes ≡ other_cells old new (unmoved moved touched)

-- so of each attribute
abbrev pub AreCellChanges : Signature → Instance → RowLists → RowLists → List (List ℕ) → List Merged → List (List (ℕ × ℕ)) → ℕ → List (ℕ × Option Atom) → Type 0
AreCellChanges C X left right numbers merged moved c changes =
    AreCellsBy (X.cell c) (list_at (map firsts_in merged) c) (list_at numbers (holder_of C c)) (both_cells left right c)
    (list_at left.names (holder_of C c)) (list_at moved (holder_of C c)) changes

-- an arrow can be followed from the new parts of its source
pub record CanFollow (rule : RuleLists) (placed : List (List ℕ)) (a : ℕ) (ends : ArrowEnds) : Type 0 where
  pub row : a < length rule.right.rows
  pub source : HasObject rule ends.source.0
  pub target : ends.target.0 < length placed
  pub parts : All (λ part. part < length (list_at rule.right.rows a)) (new_parts rule ends.source.0)
  pub values : All (λ part. part < length (list_at placed ends.target.0)) (list_at rule.right.rows a)

-- the names that come can be given rows and cells
pub record CanAdd (C : Signature) (rule : RuleLists) (next : List ℕ) (right : RowLists) (names : List (List ℕ)) : Type 0 where
  pub counted : length next ≡ C.objects
  pub lists : length names ≡ C.objects
  pub placed : (object : ℕ) → object < C.objects → IsPlacedAt rule names object
  pub room : (object : ℕ) → object < C.objects → slice_index next object + length (new_parts rule object) ≤ most_names
  pub rows : (a : ℕ) (ends : ArrowEnds) → slice_get C.arrows a ≡ Some ends → CanFollow rule names a ends
  pub cells : length C.attributes ≤ length right.cells
  pub holders : (c : ℕ) (ends : AttrEnds) → slice_get C.attributes c ≡ Some ends → All (λ part. part < length (list_at right.cells c)) (new_parts rule ends.object.0)

-- the names that come, with their rows, their cells and the next names afterwards
pub record AreAdded (C : Signature) (rule : RuleLists) (given : List ℕ) (right : RowLists) (placed : List (List ℕ)) (added : RowLists) : Type 0 where
  pub names : AreAll [] (AreNewNames rule placed) C.objects added.names
  pub rows : AreAll [] (AreNewRows C.arrows rule placed) (length C.arrows) added.arrows
  pub cells : AreAll [] (AreNewCells C.attributes rule right.cells) (length C.attributes) added.cells
  pub next : AreAll 0 (IsNextAfter rule given) C.objects added.next

-- a change can be made of the names that get other names and of the names of the right side
pub record CanChange (C : Signature) (X : Instance) (rule : RuleLists) (context : ContextLists) (left right : RowLists) (numbers : List (List ℕ)) (merged : List Merged)
    (renamed : List (List (ℕ × ℕ))) (placed : List (List ℕ)) : Type 0 where
  pub add : CanAdd C rule context.next right placed
  pub removed : length context.removed ≡ C.objects
  pub moved : length renamed ≡ C.objects
  pub each : length merged ≡ length C.attributes
  pub left_cells : length C.attributes ≤ length left.cells
  pub targets : (object : ℕ) → object < C.objects → All (Has X object) (entry_names (list_at renamed object)) × (ascends (entry_names (list_at renamed object)) ≡ true)
  pub holders : (c : ℕ) (ends : AttrEnds) → slice_get C.attributes c ≡ Some ends → CanCompare X left.names numbers renamed ends.object.0

-- and is made of them
pub record IsMadeOf (C : Signature) (X : Instance) (rule : RuleLists) (context : ContextLists) (left right : RowLists) (numbers : List (List ℕ)) (merged : List Merged)
    (moved : List (List (ℕ × ℕ))) (placed : List (List ℕ)) (change : ChangeLists) : Type 0 where
  pub removed : AreAll [] (AreRemoved context.removed moved) C.objects change.removed
  pub added : AreAdded C rule context.next right placed change.added
  pub rows : AreAll [] (AreRowChanges C X change.removed moved) (length C.arrows) change.rows
  pub cells : AreAll [] (AreCellChanges C X left right numbers merged moved) (length C.attributes) change.cells
