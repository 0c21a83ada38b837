-- There is one first clash: its place and its atoms are determined.
use Rattle.std.proofs.Common.{◌≡◌, ◌∙◌, ◌⊎◌, ℕ, ◌<◌, List, Option, Some, None, sym, ap, subst, inl, inr, arith}
use Rattle.std.proofs.lemmas.Bool.{cases_lt}
use Rattle.std.proofs.lemmas.Option.{same_Some}
use Rattle.rw_schema.specs.declared.atom.Atom.{Atom}
use Rattle.rw_schema.specs.RowLists.{list_at}
use Rattle.rw_schema.specs.Signature.{Signature, IsCategory}
use Rattle.rw_spec.specs.Cocone.{Frame}
use Rattle.rw_classes.specs.FirstClash.{AreClassesOf, IsClashAt, IsEarlierPlace, IsFirstClash}
use Rattle.rw_classes.specs.Merging.{IsClash}
use Rattle.rw_classes.specs.Places.{cell_of, count_at, joined_at}
use Rattle.rw_classes.proofs.OnlyClasses.{only_classes}

-- two clashes in one class
module _ (cells : ℕ → Option Atom) (numbers : List ℕ) (w first second first' second' : ℕ) (a b a' b' : Atom)
    (one : IsClash cells numbers w first second a b) (other : IsClash cells numbers w first' second' a' b')
  where
    -- no part before the first has an atom
    no_earlier : first' < first → ⊥
    no_earlier before =
        let none : cells first' ≡ None = one.none_before first' before other.first_class in
        let some : cells first' ≡ Some a' = other.first_atom in
        cc

    -- no part between the two differs from the first
    none_between : first ≡ first' → a ≡ a' → second < second' → ⊥
    none_between same atoms before =
        let order : first < second = one.order in
        let like : b ≡ a' = other.same_between second b (omega arith) before one.second_class one.second_atom in
        one.differ (atoms ∙ sym like)

-- two clashes in one class have the same two atoms
same_clash : (cells : ℕ → Option Atom) (numbers : List ℕ) (w first second first' second' : ℕ) (a b a' b' : Atom)
    → IsClash cells numbers w first second a b → IsClash cells numbers w first' second' a' b' → (a ≡ a') × (b ≡ b')
same_clash cells numbers w first second first' second' a b a' b' one other =
    let same : first ≡ first' =
    elim (cases_lt first first') [
      | inl before ↦ absurd (no_earlier cells numbers w first' second' first second a' b' a b other one before)
      | inr past ↦ elim (cases_lt first' first) [
        | inl before ↦ absurd (no_earlier cells numbers w first second first' second' a b a' b' one other before)
        | inr no_before ↦ omega arith
      ]
    ] in
    let atoms : a ≡ a' = same_Some a a' (sym one.first_atom ∙ ap cells same ∙ other.first_atom) in
    let same_second : second ≡ second' =
    elim (cases_lt second second') [
      | inl before ↦ absurd (none_between cells numbers w first second first' second' a b a' b' one other same atoms before)
      | inr past ↦ elim (cases_lt second' second) [
        | inl before ↦ absurd (none_between cells numbers w first' second' first second a' b' a b other one (sym same) (sym atoms) before)
        | inr no_before ↦ omega arith
      ]
    ] in
    (atoms, same_Some b b' (sym one.second_atom ∙ ap cells same_second ∙ other.second_atom))

-- two clashes at one place have the same two atoms
same_clash_at : (F : Frame) (numbers : List ℕ) (object c w : ℕ) (a b a' b' : Atom) → IsClashAt F numbers object c w a b → IsClashAt F numbers object c w a' b'
    → (a ≡ a') × (b ≡ b')
same_clash_at F numbers object c w a b a' b' (first, second, one) (first', second', other) =
    same_clash (cell_of F object c) numbers w first second first' second' a b a' b' one other

-- both are one place
pub record IsSamePlace (object w c object' w' c' : ℕ) : Type 0 where
  pub same_object : object ≡ object'
  pub same_class : w ≡ w'
  pub same_attribute : c ≡ c'

-- of two places one comes before the other, or they are one
pub place_cases : (object w c object' w' c' : ℕ)
    → IsEarlierPlace object w c object' w' c' ⊎ (IsEarlierPlace object' w' c' object w c ⊎ IsSamePlace object w c object' w' c')
place_cases object w c object' w' c' =
    elim (cases_lt object object') [
      | inl less ↦ inl (inl less)
      | inr past ↦ elim (cases_lt object' object) [
        | inl more ↦ inr (inl (inl more))
        | inr no_more ↦
            let objects : object ≡ object' = omega arith in
            elim (cases_lt w w') [
              | inl less ↦ inl (inr (objects, inl less))
              | inr past ↦ elim (cases_lt w' w) [
                | inl more ↦ inr (inl (inr (sym objects, inl more)))
                | inr no_more ↦
                    let classes : w ≡ w' = omega arith in
                    elim (cases_lt c c') [
                      | inl less ↦ inl (inr (objects, inr (classes, less)))
                      | inr past ↦ elim (cases_lt c' c) [
                        | inl more ↦ inr (inl (inr (sym objects, inr (sym classes, more))))
                        | inr no_more ↦ inr (inr (record { same_object = objects; same_class = classes; same_attribute = omega arith }))
                      ]
                    ]
              ]
            ]
      ]
    ]

-- two divisions of a frame's parts, and the first clash of each
module _ (C : Signature) (F : Frame) (category : IsCategory C) (numbers firsts others starts : List (List ℕ)) (object w c object' w' c' : ℕ) (a b a' b' : Atom)
    (divided : AreClassesOf C F numbers firsts) (divided' : AreClassesOf C F others starts)
    (one : IsFirstClash C F numbers object w c a b) (other : IsFirstClash C F others object' w' c' a' b')
  where
    -- the other clash is one of the first division
    other_clash : IsClashAt F (list_at numbers object') object' c' w' a' b'
    other_clash =
        let known : object' < C.objects = subst (λ (object : ℕ). object < C.objects) other.holder (category.holders c' other.ends other.there) in
        let same : list_at numbers object' ≡ list_at others object' =
        (only_classes (count_at F object') (joined_at F object') (list_at numbers object') (list_at firsts object') (list_at others object') (list_at starts object')
        (divided object' known) (divided' object' known)).0 in
        subst (λ classes. IsClashAt F classes object' c' w' a' b') (sym same) other.clash

    -- it does not come before the first one
    not_earlier : IsEarlierPlace object' w' c' object w c → ⊥
    not_earlier before = one.least object' w' c' other.ends a' b' other.there other.holder other_clash before

    -- at one place both have the same atoms
    same_atoms : IsSamePlace object w c object' w' c' → (a ≡ a') × (b ≡ b')
    same_atoms same =
        same_clash_at F (list_at numbers object) object c w a b a' b' one.clash
        (subst (λ (object : ℕ). IsClashAt F (list_at numbers object) object c w a' b') (sym same.same_object)
        (subst (λ (w : ℕ). IsClashAt F (list_at numbers object') object' c w a' b') (sym same.same_class)
        (subst (λ (c : ℕ). IsClashAt F (list_at numbers object') object' c w' a' b') (sym same.same_attribute) other_clash)))

-- two first clashes of one frame have the same place and the same atoms
pub only_first_clash : (C : Signature) (F : Frame) → IsCategory C → (numbers firsts others starts : List (List ℕ)) (object w c object' w' c' : ℕ) (a b a' b' : Atom)
    → AreClassesOf C F numbers firsts → AreClassesOf C F others starts
    → IsFirstClash C F numbers object w c a b → IsFirstClash C F others object' w' c' a' b'
    → IsSamePlace object w c object' w' c' × (a ≡ a') × (b ≡ b')
only_first_clash C F category numbers firsts others starts object w c object' w' c' a b a' b' divided divided' one other =
    elim (place_cases object w c object' w' c') [
      | inl before ↦
          absurd (not_earlier C F category others starts numbers firsts object' w' c' object w c a' b' a b divided' divided other one before)
      | inr rest ↦ elim rest [
        | inl after ↦
            absurd (not_earlier C F category numbers firsts others starts object w c object' w' c' a b a' b' divided divided' one other after)
        | inr same ↦
            let atoms : (a ≡ a') × (b ≡ b') =
            same_atoms C F category numbers firsts others starts object w c object' w' c' a b a' b' divided divided' one other same in
            (same, atoms.0, atoms.1)
      ]
    ]
