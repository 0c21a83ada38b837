-- How two instances of a schema differ, name by name.
use Rattle.std.specs.Prelude.{◌≡◌, ◌≢◌, ◌⊎◌, ◌<◌, ◌↔◌, ℕ, true, List, length, Contains}
use Rattle.rw_schema.specs.RowLists.{list_at}
use Rattle.rw_schema.specs.Signature.{Signature, source_of, holder_of}
use Rattle.rw_spec.specs.Ascending.{ascends}
use Rattle.rw_spec.specs.Instance.{Instance, Has}

-- the names of which something holds, in ascending order
pub record IsListOf (Holds : ℕ → Type 0) (names : List ℕ) : Type 0 where
  pub ascend : ascends names ≡ true
  pub members : (x : ℕ) → Contains names x ↔ Holds x

-- some arrow of the object leads the name elsewhere, or the name has another cell of some attribute
abbrev pub IsOtherwise : Signature → Instance → Instance → ℕ → ℕ → Type 0
IsOtherwise C X Y object x =
    ((a : ℕ) × (a < length C.arrows) × (source_of C a ≡ object) × (X.value a x ≢ Y.value a x))
    ⊎ ((c : ℕ) × (c < length C.attributes) × (holder_of C c ≡ object) × (X.cell c x ≢ Y.cell c x))

-- of each object the names that go, that come and that stay and are touched; those that go or are touched, and those that
-- come or are touched
pub record DeltaLists : Type 0 where
  pub removed : List (List ℕ)
  pub added : List (List ℕ)
  pub touched : List (List ℕ)
  pub before : List (List ℕ)
  pub after : List (List ℕ)

-- there is one list of each kind for each object
pub record HasObjects (objects : ℕ) (delta : DeltaLists) : Type 0 where
  pub removed : length delta.removed ≡ objects
  pub added : length delta.added ≡ objects
  pub touched : length delta.touched ≡ objects
  pub before : length delta.before ≡ objects
  pub after : length delta.after ≡ objects

-- the lists say by which names X and Y differ
pub record IsDelta (C : Signature) (X Y : Instance) (delta : DeltaLists) : Type 0 where
  pub objects : HasObjects C.objects delta
  -- names of X alone
  pub removed : (object : ℕ) → object < C.objects → IsListOf (λ x. Has X object x × (Has Y object x → ⊥)) (list_at delta.removed object)
  -- names of Y alone
  pub added : (object : ℕ) → object < C.objects → IsListOf (λ x. Has Y object x × (Has X object x → ⊥)) (list_at delta.added object)
  -- names of both, with another row or cell
  pub touched : (object : ℕ) → object < C.objects
      → IsListOf (λ x. Has X object x × Has Y object x × IsOtherwise C X Y object x) (list_at delta.touched object)
  -- names of X, and of Y, that are not as they are in the other
  pub before : (object : ℕ) → object < C.objects
      → IsListOf (λ x. Contains (list_at delta.removed object) x ⊎ Contains (list_at delta.touched object) x) (list_at delta.before object)
  pub after : (object : ℕ) → object < C.objects
      → IsListOf (λ x. Contains (list_at delta.added object) x ⊎ Contains (list_at delta.touched object) x) (list_at delta.after object)
