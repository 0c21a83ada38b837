-- Where a name stands among entries.
use Rattle.std.proofs.Common.{◌≡◌, ◌==◌, ◌∙◌, ℕ, ◌<◌, ◌≤◌, true, List, Result, Ok, Err, position, length, get_or, ap, subst, arith}
use Rattle.std.proofs.lemmas.List.{length-map, get_or-map}
use Rattle.std.specs.List.Sorted.{IsBinarySearchResult, IsSearchInRange}
use Rattle.std.specs.Ordering.{nat_cmp, ordering_index}
use Rattle.std.specs.declared.cmp.Ordering.{Ordering}
use Rattle.std.specs.declared.cmp.Ordering.TheVariants.{Less, Equal, Greater}
use Rattle.std.specs.Result.{result_ok}
use Rattle.rw_spec.specs.Ascending.{ascends}
use Rattle.rw_table.proofs.Places.{place_searched}
use Rattle.rw_columns.specs.Changes.{entry_names}
use Rattle.rw_columns.proofs.Columned.{there_at}

module _ {A : Type 0} (entries : List (ℕ × A)) (name : ℕ) where
  -- the name of an entry
  name_at : (k d : ℕ) (e : ℕ × A) → k < length entries → get_or (entry_names entries) k d ≡ (get_or entries k e).0
  name_at k d e within = get_or-map (λ (entry : ℕ × A). entry.0) entries k e d within

  -- how an entry compares is how its name does
  compared_at : (order : Ordering) (k d : ℕ) → k < length entries → ((e : ℕ × A) → nat_cmp (get_or entries k e).0 name ≡ order)
      → nat_cmp (get_or (entry_names entries) k d) name ≡ order
  compared_at order k d within is =
      let e : ℕ × A = (there_at entries k within).0 in
      ap (λ (x : ℕ). nat_cmp x name) (name_at k d e within) ∙ is e

  -- a search of entries by name is a search of their names
  names_searched : (answer : Result ℕ ℕ) → IsSearchInRange answer (length entries) → IsBinarySearchResult (λ entry. nat_cmp entry.0 name) entries answer
      → IsBinarySearchResult (λ other. nat_cmp other name) (entry_names entries) answer
  names_searched (Ok k) within is = λ d. compared_at Equal k d within is
  names_searched (Err k) within is = λ rises.
      let long : length (entry_names entries) ≡ length entries = length-map entries (λ (entry : ℕ × A). entry.0) in
      let parted = is (λ i j e before inside.
      let rank = λ (x : ℕ). ordering_index (nat_cmp x name) in
      subst (λ (x : ℕ). rank x ≤ rank (get_or entries j e).0) (name_at i 0 e (omega (arith, before, inside)))
      (subst (λ (x : ℕ). rank (get_or (entry_names entries) i 0) ≤ rank x) (name_at j 0 e inside) (rises i j 0 before (omega (arith, long, inside))))) in (
        λ i d low high. compared_at Less i d (omega (arith, high, within)) (λ e. parted.0 i e low high),
        λ i d low high. compared_at Greater i d (omega (arith, high, long)) (λ e. parted.1 i e low (omega (arith, high, long))),
      )

  -- so it finds the place of the name
  pub entry_searched : (answer : Result ℕ ℕ) → ascends (entry_names entries) ≡ true → IsSearchInRange answer (length entries)
      → IsBinarySearchResult (λ entry. nat_cmp entry.0 name) entries answer → result_ok answer ≡ position (λ other. other == name) (entry_names entries)
  entry_searched answer up within is = place_searched (entry_names entries) name answer up (names_searched answer within is)
