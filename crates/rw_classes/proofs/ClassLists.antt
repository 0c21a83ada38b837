-- Lists of classes, one object after the other.
use Rattle.std.proofs.Common.{◌≡◌, ◌∙◌, ℕ, zero, suc, ◌+◌, ◌<◌, ◌≤◌, List, [], ◌∷◌, ◌++◌, length, map, get_or, ap, inl, inr, arith, below_more}
use Rattle.std.specs.List.{All}
use Rattle.std.proofs.lemmas.Bool.{cases_lt}
use Rattle.std.proofs.lemmas.List.Elements.{All-nil, All-cons, All-head, All-tail, All-from_get_or}
use Rattle.std.proofs.lemmas.List.{length-map, map_push, get_or_append_left, get_or_push}
use Rattle.rw_schema.specs.RowLists.{RowLists, list_at}
use Rattle.rw_classes.specs.Classes.{AreNumbered, AreClasses}
use Rattle.rw_classes.specs.ClassLists.{number_lists, first_lists, part_count, joined_by, AreClassesBy}
use Rattle.rw_classes.specs.declared.classes.Classes.{Classes}

-- an earlier list stays where one more is put behind
listed_before : {X : Type 0} (lists : X → List ℕ) (xs : List X) (x : X) (k : ℕ) → k < length xs → list_at (map lists (xs ++ x ∷ [])) k ≡ list_at (map lists xs) k
listed_before lists xs x k before =
    ap (λ all. list_at all k) (map_push lists xs x) ∙ get_or_append_left (map lists xs) (lists x ∷ []) [] k (rw (length-map xs lists) before)

-- the list that is put behind stands last
listed_last : {X : Type 0} (lists : X → List ℕ) (xs : List X) (x : X) (k : ℕ) → length xs ≡ k → list_at (map lists (xs ++ x ∷ [])) k ≡ lists x
listed_last lists xs x k last =
    ap (λ all. list_at all k) (map_push lists xs x) ∙ get_or_push (map lists xs) (lists x) [] k (length-map xs lists ∙ last)

-- the classes of one object more
pub classes_more : (left right : RowLists) (f g : List (List ℕ)) (classes : List Classes) (new : Classes) (place : ℕ) → length classes ≡ place
    → AreClassesBy place left right f g (number_lists classes) (first_lists classes)
    → AreClasses (part_count left right place) (joined_by left right f g place) new.numbers.items new.firsts.items
    → AreClassesBy (place + 1) left right f g (number_lists (classes ++ new ∷ [])) (first_lists (classes ++ new ∷ []))
classes_more left right f g classes new place last so_far here =
    let all : List Classes = classes ++ new ∷ [] in
    below_more (λ object. AreClasses (part_count left right object) (joined_by left right f g object) (list_at (number_lists all) object) (list_at (first_lists all) object))
    place
    (λ object before.
    let within : object < length classes = omega arith in
    rw (listed_before (λ (each : Classes). each.numbers.items) classes new object within, listed_before (λ (each : Classes). each.firsts.items) classes new object within)
    (so_far object before))
    (rw (listed_last (λ (each : Classes). each.numbers.items) classes new place last, listed_last (λ (each : Classes). each.firsts.items) classes new place last)
    here)

-- each class's first part is at least its number
first_at_least : (n : ℕ) (numbers firsts : List ℕ) → AreNumbered n numbers firsts → (k : ℕ) → k < length firsts → k ≤ get_or firsts k 0
first_at_least n numbers firsts numbered zero within = omega arith
first_at_least n numbers firsts numbered (suc k) within =
    let before : k ≤ get_or firsts k 0 = first_at_least n numbers firsts numbered k (omega arith) in
    let up : get_or firsts k 0 < get_or firsts (suc k) 0 = numbered.ascend k (suc k) (omega arith) within in
    omega arith

-- there are at most as many classes as parts
pub classes_at_most : (n : ℕ) (numbers firsts : List ℕ) → AreNumbered n numbers firsts → length firsts ≤ n
classes_at_most n numbers firsts numbered =
    elim (cases_lt n (length firsts)) [
      | inl more ↦
          let least : n ≤ get_or firsts n 0 = first_at_least n numbers firsts numbered n more in
          let below : get_or firsts n 0 < n = numbered.below n more in
          absurd (omega arith)
      | inr enough ↦ enough
    ]

-- what holds of what f gives of each item holds of each item
all_unmapped : {X Y : Type 0} (P : Y → Type 0) (f : X → Y) (xs : List X) → All P (map f xs) → All (λ x. P (f x)) xs
all_unmapped P f [] all = All-nil (λ x. P (f x))
all_unmapped P f (x ∷ xs) all = All-cons (λ x. P (f x)) x xs (All-head P (f x) (map f xs) all) (all_unmapped P f xs (All-tail P (f x) (map f xs) all))

-- where no object has too many parts none has too many classes
pub classes_few : (bound : ℕ) (classes : List Classes) → ((object : ℕ) → object < length classes → length (list_at (first_lists classes) object) < bound)
    → All (λ each. length each.firsts.items < bound) classes
classes_few bound classes few =
    all_unmapped (λ firsts. length firsts < bound) (λ (each : Classes). each.firsts.items) classes
    (All-from_get_or (λ firsts. length firsts < bound) (first_lists classes) []
    (λ object within. few object (rw (length-map classes (λ (each : Classes). each.firsts.items)) at within)))
