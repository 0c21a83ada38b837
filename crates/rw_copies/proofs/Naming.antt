-- The names of the parts over one object.
use Rattle.std.proofs.Common.{◌≡◌, ◌≢◌, ◌∙◌, ◌⊎◌, ◌<◌, ◌≤◌, ◌+◌, ◌-◌, ◌==◌, ℕ, zero, suc, inl, inr, true, List, [], ◌∷◌, ◌++◌, Contains, Some, length, map, filter, take, drop, slice_get, slice_index, refl, sym, ap, subst, arith, zero-add, length-append}
use Rattle.std.specs.List.{list_all, flat_map, range_with_len}
use Rattle.std.proofs.lemmas.Bool.{cases_Bool, cases_eq, cases_lt, eq-eqb, ne_eqb}
use Rattle.std.proofs.lemmas.List.{length-map}
use Rattle.std.proofs.lemmas.List.FromFn.{length-range_with_len}
use Rattle.std.proofs.lemmas.List.Elements.{Contains-append_left, Contains-append_right, Contains-append_cases}
use Rattle.std.proofs.lemmas.Option.{slice_get_within}
use Rattle.rw_schema.specs.declared.signature.ArrowEnds.{ArrowEnds}
use Rattle.rw_schema.specs.First.{map_in}
use Rattle.rw_schema.specs.Signature.{Signature, IsCategory}
use Rattle.rw_schema.proofs.Lists.{length_map_in}
use Rattle.rw_schema.proofs.Paths.{item_at}
use Rattle.rw_spec.specs.Distinct.{AreDistinct}
use Rattle.rw_spec.specs.Instance.{Instance, Has, look}
use Rattle.rw_spec.specs.Natural.{Map}
use Rattle.rw_spec.proofs.Look.{look_contains}
use Rattle.rw_spec.proofs.Sequences.{contains_here, contains_later, contains_none, contains_map, contained_in_map, contains_flat_map, contained_in_flat_map}
use Rattle.rw_spec.specs.Redex.{Redex}
use Rattle.rw_copies.specs.Copying.{IsInjectiveMatch}
use Rattle.rw_copies.specs.Made.{Made, Kept, Copied, made_host, made_at, AreMade}
use Rattle.rw_copies.specs.CopyLists.{is_matched, choices, agrees_on, copy_rows, made_over, made_parts, first_parts, more_parts, named_parts, part_names}
use Rattle.rw_spec.specs.Tuples.{tuples}
use Rattle.rw_spec.proofs.EachOnce.{EachOnce, once_from_distinct, once_append}
use Rattle.rw_copies.proofs.Distinctness.{once_flat_map}
use Rattle.rw_copies.proofs.Listed.{tells_host, once_over, over_matched, over_outside, made_cases, choices_at, choices_here, choices_other, item_here, made_parts_made, made_rearranged}
use Rattle.rw_copies.proofs.Precedence.{Precedes, AllAscending, precedes_less, precedes_append, precedes_filter, precedes_map, precedes_flat_map, precedes_tuples, parallel, first_there, second_there}
use Rattle.rw_spec.specs.Ascending.{ascends}
use Rattle.rw_spec.proofs.Ascending.{ascends_append, ascends_behind, ascends_distinct, ascends_filter, ascends_rest, first_below}
use Rattle.rw_spec.proofs.Ranges.{range_ascends, range_bounds, range_contains}

-- the first item, and the others
of_first : {X : Type 0} (xs : List X) (x : X) → Contains (take 1 xs) x → Contains xs x
of_first [] x there = there
of_first (y ∷ xs) x (zero, within, there) = (zero, omega arith, there)
of_first (y ∷ xs) x (suc k, within, there) = absurd (omega arith)

of_rest : {X : Type 0} (xs : List X) (x : X) → Contains (drop 1 xs) x → Contains xs x
of_rest [] x there = there
of_rest (y ∷ xs) x there = contains_later y xs x there

first_or_rest : {X : Type 0} (xs : List X) (x : X) → Contains xs x → Contains (take 1 xs) x ⊎ Contains (drop 1 xs) x
first_or_rest [] x there = inl there
first_or_rest (y ∷ xs) x (zero, within, there) = inl (zero, omega arith, there)
first_or_rest (y ∷ xs) x (suc k, within, there) = inr (k, omega arith, there)

first_exists : {X : Type 0} (xs : List X) (x : X) → Contains xs x → (y : X) × Contains (take 1 xs) y
first_exists [] x there = absurd (contains_none x there)
first_exists (y ∷ xs) x there = (y, contains_here y [])

first_once : {X : Type 0} (xs : List X) → EachOnce (take 1 xs)
first_once [] = tt
first_once (y ∷ xs) = ((λ there. contains_none y there), tt)

rest_once : {X : Type 0} (xs : List X) → EachOnce xs → EachOnce (drop 1 xs)
rest_once [] once = tt
rest_once (y ∷ xs) once = once.1

first_apart : {X : Type 0} (xs : List X) (x : X) → EachOnce xs → Contains (take 1 xs) x → Contains (drop 1 xs) x → ⊥
first_apart [] x once first rest = contains_none x first
first_apart {X} (y ∷ xs) x once (zero, within, there) rest = once.0 (subst (λ (z : X). Contains xs z) (sym there) rest)
first_apart (y ∷ xs) x once (suc k, within, there) rest = omega arith

first_precedes : {X : Type 0} (xs : List X) (a b : X) → Contains (take 1 xs) a → Contains (drop 1 xs) b → Precedes xs a b
first_precedes [] a b first rest = contains_none a first
first_precedes (y ∷ xs) a b (zero, within, there) rest = inl (there, rest)
first_precedes (y ∷ xs) a b (suc k, within, there) rest = absurd (omega arith)

rest_precedes : {X : Type 0} (xs : List X) (a b : X) → Precedes (drop 1 xs) a b → Precedes xs a b
rest_precedes [] a b precedes = precedes
rest_precedes (y ∷ xs) a b precedes = inr precedes

first_alone : {X : Type 0} (xs : List X) (a b : X) → Precedes (take 1 xs) a b → ⊥
first_alone [] a b precedes = precedes
first_alone (y ∷ xs) a b (inl here) = contains_none b here.1
first_alone (y ∷ xs) a b (inr later) = later

-- the hosts of first items ascend
firsts_ascend : {Y : Type 0} (f : ℕ → List Y) (h : Y → ℕ) (names : List ℕ) → ascends names ≡ true → ((x : ℕ) (y : Y) → Contains (f x) y → h y ≡ x)
    → ascends (map h (flat_map (λ g. take 1 (f g)) names)) ≡ true
firsts_ascend f h [] up tells = refl
firsts_ascend {Y} f h (name ∷ names) up tells =
    front (f name) (λ y there. tells name y there) (firsts_ascend f h names (ascends_rest name names up) tells) (λ y there.
    let found = contained_in_map h (flat_map (λ g. take 1 (f g)) names) y there in
    let from = contained_in_flat_map (λ g. take 1 (f g)) names found.0 found.1 in
    let host : from.0 ≡ y = sym (tells from.0 found.0 (of_first (f from.0) found.0 from.2)) ∙ found.2 in
    subst (λ (n : ℕ). name < n) host (first_below name names from.0 up from.1))
  where
    front : (ys : List Y) → ((y : Y) → Contains ys y → h y ≡ name) → ascends (map h (flat_map (λ g. take 1 (f g)) names)) ≡ true
        → ((y : ℕ) → Contains (map h (flat_map (λ g. take 1 (f g)) names)) y → name < y) → ascends (map h (take 1 ys ++ flat_map (λ g. take 1 (f g)) names)) ≡ true
    front [] own rest above = rest
    front (y ∷ ys) own rest above =
        ascends_behind (h y) (map h (flat_map (λ g. take 1 (f g)) names)) (λ z there. let less = above z there in let same = own y (contains_here y ys) in omega arith) rest

-- what stands beside a name, in lists joined end to end
look_front : {A : Type 0} (none : A) (xs ys : List ℕ) (es fs : List A) (v : ℕ) → length es ≡ length xs → Contains xs v → look none (xs ++ ys) (es ++ fs) v ≡ look none xs es v
look_front none [] ys es fs v beside there = absurd (contains_none v there)
look_front none (x ∷ xs) ys [] fs v beside there = absurd (omega arith)
look_front none (x ∷ xs) ys (e ∷ es) fs v beside (zero, within, there) = rw (eq-eqb x v there) refl
look_front none (x ∷ xs) ys (e ∷ es) fs v beside (suc k, within, there) =
    elim (cases_eq x v) [
      | inl same ↦ rw (eq-eqb x v same) refl
      | inr other ↦ rw (ne_eqb x v other) (look_front none xs ys es fs v (omega arith) (k, omega arith, there))
    ]

look_back : {A : Type 0} (none : A) (xs ys : List ℕ) (es fs : List A) (v : ℕ) → length es ≡ length xs → (Contains xs v → ⊥) → look none (xs ++ ys) (es ++ fs) v ≡ look none ys fs v
look_back none [] ys [] fs v beside missing = refl
look_back none [] ys (e ∷ es) fs v beside missing = absurd (omega arith)
look_back none (x ∷ xs) ys [] fs v beside missing = absurd (omega arith)
look_back none (x ∷ xs) ys (e ∷ es) fs v beside missing =
    rw (ne_eqb x v (λ same. missing (zero, omega arith, same))) (look_back none xs ys es fs v (omega arith) (λ there. missing (contains_later x xs v there)))

-- beside a host stands what is over it
look_host : {A : Type 0} (none : A) (h : A → ℕ) (es : List A) (v : ℕ) → Contains (map h es) v → h (look none (map h es) es v) ≡ v
look_host none h [] v there = absurd (contains_none v there)
look_host none h (e ∷ es) v (zero, within, there) = rw (eq-eqb (h e) v there) there
look_host none h (e ∷ es) v (suc k, within, there) =
    elim (cases_eq (h e) v) [
      | inl same ↦ rw (eq-eqb (h e) v same) same
      | inr other ↦ rw (ne_eqb (h e) v other) (look_host none h es v (k, omega arith, there))
    ]

module _ (C : Signature) (category : IsCategory C) (R : Redex) (match : IsInjectiveMatch C R) (D : Instance) (e : Map) (object : ℕ) (below : object < C.objects)
    (hosts : ascends (R.host.names object) ≡ true) (keeps : ascends (R.keep.names object) ≡ true)
    (parts : (a : ℕ) (ends : ArrowEnds) → slice_get C.arrows a ≡ Some ends → ends.source.0 ≡ object → ascends (D.names ends.target.0) ≡ true)
    (next : ℕ) (under : (g : ℕ) → Has R.host object g → g < next) where
  abbrev over : ℕ → List Made
  over g = made_over C R D e object g

  abbrev firsts : List Made
  firsts = first_parts C R D e object

  abbrev others : List Made
  others = more_parts C R D e object

  abbrev first_names : List ℕ
  first_names = map (made_host R object) firsts

  abbrev other_names : List ℕ
  other_names = range_with_len next (length others)

  abbrev all : List Made
  all = named_parts C R D e object

  abbrev names : List ℕ
  names = part_names C R D e object next

  tells : (g : ℕ) (m : Made) → Contains (over g) m → made_host R object m ≡ g
  tells g m there = tells_host C category R match D e object below g m there

  tells_first : (g : ℕ) (m : Made) → Contains (take 1 (over g)) m → made_host R object m ≡ g
  tells_first g m there = tells g m (of_first (over g) m there)

  tells_rest : (g : ℕ) (m : Made) → Contains (drop 1 (over g)) m → made_host R object m ≡ g
  tells_rest g m there = tells g m (of_rest (over g) m there)

  hosts_distinct : AreDistinct (R.host.names object)
  hosts_distinct = ascends_distinct (R.host.names object) hosts

  keeps_distinct : AreDistinct (R.keep.names object)
  keeps_distinct = ascends_distinct (R.keep.names object) keeps

  parts_distinct : (a : ℕ) (ends : ArrowEnds) → slice_get C.arrows a ≡ Some ends → ends.source.0 ≡ object → AreDistinct (D.names ends.target.0)
  parts_distinct a ends there leaves = ascends_distinct (D.names ends.target.0) (parts a ends there leaves)

  -- the same parts in another order
  all_back : (m : Made) → Contains all m → (g : ℕ) × Has R.host object g × Contains (over g) m
  all_back m there =
      elim (Contains-append_cases firsts others m there) [
        | inl first ↦ let found = contained_in_flat_map (λ g. take 1 (over g)) (R.host.names object) m first in (found.0, found.1, of_first (over found.0) m found.2)
        | inr rest ↦ let found = contained_in_flat_map (λ g. drop 1 (over g)) (R.host.names object) m rest in (found.0, found.1, of_rest (over found.0) m found.2)
      ]

  all_there : (g : ℕ) (m : Made) → Has R.host object g → Contains (over g) m → Contains all m
  all_there g m has there =
      elim (first_or_rest (over g) m there) [
        | inl first ↦ Contains-append_left firsts others m (contains_flat_map (λ g. take 1 (over g)) (R.host.names object) g m has first)
        | inr rest ↦ Contains-append_right firsts others m (contains_flat_map (λ g. drop 1 (over g)) (R.host.names object) g m has rest)
      ]

  each_once : (g : ℕ) → EachOnce (over g)
  each_once g = once_over C category R match D e object below hosts_distinct keeps_distinct parts_distinct g

  all_once : EachOnce all
  all_once =
      once_append firsts others
      (once_flat_map (λ g. take 1 (over g)) (made_host R object) (R.host.names object) (once_from_distinct (R.host.names object) hosts_distinct) (λ g. first_once (over g)) tells_first)
      (once_flat_map (λ g. drop 1 (over g)) (made_host R object) (R.host.names object) (once_from_distinct (R.host.names object) hosts_distinct) (λ g. rest_once (over g) (each_once g)) tells_rest)
      (λ m first rest.
      let one = contained_in_flat_map (λ g. take 1 (over g)) (R.host.names object) m first in
      let two = contained_in_flat_map (λ g. drop 1 (over g)) (R.host.names object) m rest in
      let same : two.0 ≡ one.0 = sym (tells_rest two.0 m two.2) ∙ tells_first one.0 m one.2 in
      first_apart (over one.0) m (each_once one.0) one.2 (subst (λ (g : ℕ). Contains (drop 1 (over g)) m) same two.2))

  pub named_made : AreMade C R D e object all
  named_made =
      made_rearranged C R D e object (made_parts C R D e object) all (made_parts_made C category R match D e object below hosts_distinct keeps_distinct parts_distinct)
      (λ m there. let found = contained_in_flat_map over (R.host.names object) m there in all_there found.0 m found.1 found.2)
      (λ m there. let found = all_back m there in contains_flat_map over (R.host.names object) found.0 m found.1 found.2)
      all_once

  -- the names ascend
  first_under : (v : ℕ) → Contains first_names v → v < next
  first_under v there =
      let found = contained_in_map (made_host R object) firsts v there in
      let from = contained_in_flat_map (λ g. take 1 (over g)) (R.host.names object) found.0 found.1 in
      let same : from.0 ≡ v = sym (tells_first from.0 found.0 from.2) ∙ found.2 in
      subst (λ (g : ℕ). g < next) same (under from.0 from.1)

  pub names_ascend : ascends names ≡ true
  names_ascend =
      ascends_append first_names other_names (firsts_ascend over (made_host R object) (R.host.names object) hosts tells) (range_ascends next (length others))
      (λ x y first other. let low = first_under x first in let high = range_bounds next (length others) y other in omega arith)

  first_beside : length firsts ≡ length first_names
  first_beside = sym (length-map firsts (made_host R object))

  other_beside : length others ≡ length other_names
  other_beside = sym (length-range_with_len next (length others))

  pub all_beside : length all ≡ length names
  all_beside = omega (arith, length-append firsts others, length-append first_names other_names, first_beside, other_beside)

  -- an old name is its host's, and a new one is one of the others
  old_name : (v : ℕ) → Contains names v → v < next → Contains first_names v
  old_name v there old =
      elim (Contains-append_cases first_names other_names v there) [ inl first ↦ first | inr other ↦ let high = range_bounds next (length others) v other in absurd (omega arith) ]

  new_name : (v : ℕ) → Contains names v → next ≤ v → Contains other_names v
  new_name v there new =
      elim (Contains-append_cases first_names other_names v there) [ inl first ↦ let low = first_under v first in absurd (omega arith) | inr other ↦ other ]

  at_old : (v : ℕ) → Contains first_names v → made_at names all v ≡ look (Kept 0) first_names firsts v
  at_old v there = look_front (Kept 0) first_names other_names firsts others v first_beside there

  at_new : (v : ℕ) → next ≤ v → made_at names all v ≡ look (Kept 0) other_names others v
  at_new v new = look_back (Kept 0) first_names other_names firsts others v first_beside (λ first. let low = first_under v first in omega arith)

  pub old_is_host : (v : ℕ) → Contains names v → v < next → made_host R object (made_at names all v) ≡ v
  old_is_host v there old = let first = old_name v there old in ap (made_host R object) (at_old v first) ∙ look_host (Kept 0) (made_host R object) firsts v first

  pub names_below : (v : ℕ) → Contains names v → v < next + length others
  names_below v there =
      elim (cases_lt v next) [ inl old ↦ omega arith | inr new ↦ let high = range_bounds next (length others) v (new_name v there (omega arith)) in high.1 ]

  pub names_all : (v : ℕ) → next ≤ v → v < next + length others → Contains names v
  names_all v new low = Contains-append_right first_names other_names v (subst (λ (n : ℕ). Contains other_names n) (omega arith) (range_contains next (length others) (v - next) (omega arith)))

  pub first_has : (v : ℕ) → Contains names v → Contains names (made_host R object (made_at names all v))
  first_has v there =
      let made : Made = made_at names all v in
      let found = all_back made (look_contains (Kept 0) names all v all_beside there) in
      let head = first_exists (over found.0) made found.2 in
      let same : made_host R object head.0 ≡ made_host R object made = tells_first found.0 head.0 head.1 ∙ sym (tells found.0 made found.2) in
      Contains-append_left first_names other_names (made_host R object made)
      (subst (λ (g : ℕ). Contains first_names g) same
      (contains_map (made_host R object) firsts head.0 (contains_flat_map (λ g. take 1 (over g)) (R.host.names object) found.0 head.0 found.1 head.1)))

  -- new names ascend with their hosts
  pub new_ascend : (v w : ℕ) → Contains names v → Contains names w → next ≤ v → v < w → made_host R object (made_at names all v) ≤ made_host R object (made_at names all w)
  new_ascend v w v_there w_there new less =
      let order = parallel (Kept 0) other_names others (range_ascends next (length others)) other_beside v w (new_name v v_there new) (new_name w w_there (omega arith)) less in
      let moved : Precedes others (made_at names all v) (made_at names all w) =
      subst (λ (m : Made). Precedes others m (made_at names all w)) (sym (at_new v new)) (subst (λ (m : Made). Precedes others (look (Kept 0) other_names others v) m) (sym (at_new w (omega arith))) order) in
      elim (precedes_flat_map (λ g. drop 1 (over g)) (made_host R object) (R.host.names object) tells_rest (made_at names all v) (made_at names all w) moved) [
        | inl same ↦ let one = same.0 in omega arith
        | inr before ↦ let lower = precedes_less (R.host.names object) hosts (made_host R object (made_at names all v)) (made_host R object (made_at names all w)) before in omega arith
      ]

  -- over one host part the names are in the order of what is made
  fiber_order : (v w : ℕ) → Contains names v → Contains names w → v < w → made_host R object (made_at names all v) ≡ made_host R object (made_at names all w)
      → Precedes (over (made_host R object (made_at names all v))) (made_at names all v) (made_at names all w)
  fiber_order v w v_there w_there less same =
      let a : Made = made_at names all v in
      let b : Made = made_at names all w in
      let g : ℕ = made_host R object a in
      elim (precedes_append firsts others a b (parallel (Kept 0) names all names_ascend all_beside v w v_there w_there less)) [
        | inl both ↦
            elim (precedes_flat_map (λ g. take 1 (over g)) (made_host R object) (R.host.names object) tells_first a b both) [
              | inl inside ↦ absurd (first_alone (over g) a b inside.1)
              | inr before ↦ let lower = precedes_less (R.host.names object) hosts g (made_host R object b) before in absurd (omega arith)
            ]
        | inr (inl across) ↦
            let one = contained_in_flat_map (λ g. take 1 (over g)) (R.host.names object) a across.0 in
            let two = contained_in_flat_map (λ g. drop 1 (over g)) (R.host.names object) b across.1 in
            first_precedes (over g) a b
            (subst (λ (n : ℕ). Contains (take 1 (over n)) a) (sym (tells_first one.0 a one.2)) one.2)
            (subst (λ (n : ℕ). Contains (drop 1 (over n)) b) (sym (tells_rest two.0 b two.2) ∙ sym same) two.2)
        | inr (inr both) ↦
            elim (precedes_flat_map (λ g. drop 1 (over g)) (made_host R object) (R.host.names object) tells_rest a b both) [
              | inl inside ↦ rest_precedes (over g) a b inside.1
              | inr before ↦ let lower = precedes_less (R.host.names object) hosts g (made_host R object b) before in absurd (omega arith)
            ]
      ]

  -- kept parts over one host part are in their order
  pub kept_order : (v w y z : ℕ) → Contains names v → Contains names w → made_at names all v ≡ Kept y → made_at names all w ≡ Kept z
      → made_host R object (made_at names all v) ≡ made_host R object (made_at names all w) → v < w → y < z
  kept_order v w y z v_there w_there v_is w_is same less =
      let g : ℕ = made_host R object (made_at names all v) in
      let order = fiber_order v w v_there w_there less same in
      let there = first_there (over g) (made_at names all v) (made_at names all w) order in
      elim (made_cases C category R match D e object below g (made_at names all v) there) [
        | inr (row, is, fails, in_rows) ↦ let never : Copied g row ≡ Kept y = is ∙ v_is in let no' : ⊥ = cc in absurd no'
        | inl (x, is, has, at_host) ↦
            elim (cases_Bool (is_matched R object g)) [
              | inr fails ↦
                  let moved : Precedes (map (Copied g) (copy_rows C R D e object g)) (made_at names all v) (made_at names all w) =
                  subst (λ (xs : List Made). Precedes xs (made_at names all v) (made_at names all w)) (over_outside C category R match D e object below g fails) order in
                  let found = precedes_map (Copied g) (copy_rows C R D e object g) (made_at names all v) (made_at names all w) moved in
                  let never : Copied g found.0 ≡ Kept y = found.2 ∙ v_is in
                  let no' : ⊥ = cc in absurd no'
              | inl matched ↦
                  let moved : Precedes (map Kept (filter (λ z. R.m object (R.l object z) == g) (R.keep.names object))) (made_at names all v) (made_at names all w) =
                  subst (λ (xs : List Made). Precedes xs (made_at names all v) (made_at names all w)) (over_matched C category R match D e object below g matched) order in
                  let found = precedes_map Kept (filter (λ z. R.m object (R.l object z) == g) (R.keep.names object)) (made_at names all v) (made_at names all w) moved in
                  let first : Kept found.0 ≡ Kept y = found.2 ∙ v_is in
                  let second : Kept found.1 ≡ Kept z = found.3 ∙ w_is in
                  let first_is : found.0 ≡ y = cc in
                  let second_is : found.1 ≡ z = cc in
                  let lower = precedes_less (R.keep.names object) keeps found.0 found.1 (precedes_filter (λ z. R.m object (R.l object z) == g) (R.keep.names object) found.0 found.1 found.4) in
                  omega arith
            ]
      ]

  -- the choices of a row ascend
  choices_ascend : (g i : ℕ) (arrows : List ArrowEnds) → ((n : ℕ) (ends : ArrowEnds) → slice_get arrows n ≡ Some ends → slice_get C.arrows (i + n) ≡ Some ends) → AllAscending (map_in (choices R D e object g) i arrows)
  choices_ascend g i [] there = tt
  choices_ascend g i (ends ∷ arrows) there = (
    elim (cases_eq ends.source.0 object) [
      | inl leaves ↦
          rw (choices_here C category R match D e object below g i ends leaves)
          (ascends_filter (λ v. e ends.target.0 v == R.host.value i g) (D.names ends.target.0) (parts (i + 0) ends (there 0 ends refl) leaves))
      | inr other ↦ rw (choices_other C category R match D e object below g i ends other) refl
    ],
    choices_ascend g (i + 1) arrows (λ n other is.
        let same : (i + 1) + n ≡ i + suc n = omega arith in
        subst (λ (m : ℕ). slice_get C.arrows m ≡ Some other) (sym same) (there (suc n) other is)),
  )

  -- copies of one host part are in the order of the first arrow that tells them apart
  pub copy_order : (v w a : ℕ) (ends : ArrowEnds) (g : ℕ) (row other : List ℕ) → Contains names v → Contains names w → made_at names all v ≡ Copied g row → made_at names all w ≡ Copied g other
      → v < w → slice_get C.arrows a ≡ Some ends → ends.source.0 ≡ object → slice_index row a ≢ slice_index other a
      → ((b : ℕ) (its : ArrowEnds) → b < a → slice_get C.arrows b ≡ Some its → its.source.0 ≡ object → slice_index row b ≡ slice_index other b)
      → slice_index row a < slice_index other a
  copy_order v w a ends g row other v_there w_there v_is w_is less there leaves differ before =
      let lists : List (List ℕ) = map_in (choices R D e object g) 0 C.arrows in
      let v_host : made_host R object (made_at names all v) ≡ g = ap (made_host R object) v_is in
      let order : Precedes (over g) (Copied g row) (Copied g other) =
      subst (λ (m : Made). Precedes (over g) m (Copied g other)) v_is (subst (λ (m : Made). Precedes (over g) (made_at names all v) m) w_is
      (subst (λ (n : ℕ). Precedes (over n) (made_at names all v) (made_at names all w)) v_host
      (fiber_order v w v_there w_there less (v_host ∙ sym (ap (made_host R object) w_is))))) in
      elim (made_cases C category R match D e object below g (Copied g row) (first_there (over g) (Copied g row) (Copied g other) order)) [
        | inl (z, is, has, at_host) ↦ let no' : ⊥ = cc in absurd no'
        | inr (r, is, fails, in_rows) ↦
            let moved : Precedes (map (Copied g) (copy_rows C R D e object g)) (Copied g row) (Copied g other) =
            subst (λ (xs : List Made). Precedes xs (Copied g row) (Copied g other)) (over_outside C category R match D e object below g fails) order in
            let found = precedes_map (Copied g) (copy_rows C R D e object g) (Copied g row) (Copied g other) moved in
            let first : found.0 ≡ row = let is_row : Copied g found.0 ≡ Copied g row = found.2 in cc in
            let second : found.1 ≡ other = let is_other : Copied g found.1 ≡ Copied g other = found.3 in cc in
            let rows : Precedes (copy_rows C R D e object g) row other =
            subst (λ (r : List ℕ). Precedes (copy_rows C R D e object g) r other) first (subst (λ (r : List ℕ). Precedes (copy_rows C R D e object g) found.0 r) second found.4) in
            let in_tuples : Precedes (tuples lists) row other = precedes_filter (λ row. list_all (agrees_on D object row) C.equations) (tuples lists) row other rows in
            let row_in = first_there (tuples lists) row other in_tuples in
            let other_in = second_there (tuples lists) row other in_tuples in
            let within : a < length lists = omega (arith, slice_get_within C.arrows a ends there, length_map_in (choices R D e object g) 0 C.arrows) in
            let step = precedes_tuples lists (choices_ascend g 0 C.arrows (λ n its is. subst (λ (m : ℕ). slice_get C.arrows m ≡ Some its) (sym (zero-add n)) is)) row other in_tuples a within
            (λ b earlier.
            let arrow = item_at C.arrows b (omega (arith, slice_get_within C.arrows a ends there)) in
            let its : ArrowEnds = arrow.0 in
            elim (cases_eq its.source.0 object) [
              | inl starts ↦ before b its earlier arrow.1 starts
              | inr away ↦
                  let one = subst (λ (xs : List ℕ). Contains xs (slice_index row b)) (choices_other C category R match D e object below g b its away) (item_here C category R match D e object below g row row_in b its arrow.1) in
                  let two = subst (λ (xs : List ℕ). Contains xs (slice_index other b)) (choices_other C category R match D e object below g b its away) (item_here C category R match D e object below g other other_in b its arrow.1) in
                  sym (only (slice_index row b) one) ∙ only (slice_index other b) two
            ]) differ in
            let here : Precedes (filter (λ v. e ends.target.0 v == R.host.value a g) (D.names ends.target.0)) (slice_index row a) (slice_index other a) =
            subst (λ (xs : List ℕ). Precedes xs (slice_index row a) (slice_index other a))
            (choices_at C category R match D e object below g a ends there ∙ choices_here C category R match D e object below g a ends leaves) step in
            precedes_less (D.names ends.target.0) (parts a ends there leaves) (slice_index row a) (slice_index other a)
            (precedes_filter (λ v. e ends.target.0 v == R.host.value a g) (D.names ends.target.0) (slice_index row a) (slice_index other a) here)
      ]
    where
      only : (x : ℕ) → Contains (0 ∷ []) x → 0 ≡ x
      only x (zero, within, there) = there
      only x (suc k, within, there) = absurd (omega arith)
