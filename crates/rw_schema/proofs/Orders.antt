-- Orders of objects in which arrows point backwards: how they grow, that they are all there is where no arrows lead round a cycle, and the cycle where they stop.
use Rattle.std.proofs.Common.{◌≡◌, ◌==◌, ℕ, zero, suc, ◌+◌, ◌<◌, ◌≤◌, Bool, true, false, ◌||◌, not, nat_lt, Some, List, [], ◌∷◌, ◌++◌, map, take, length, get_or, slice_get, option_map, refl, sym, ap, ◌∙◌, subst, arith, eqb, ◌⊎◌, inl, inr, zero-add, length-append}
use Rattle.std.specs.Cmp.{nat_eq_equiv}
use Rattle.std.specs.List.{list_any, list_all, range_with_len, position_or_len, IsDistinct, AllByRecursion}
use Rattle.std.proofs.lemmas.Bool.{eqb-true, eq-eqb, ne_eqb, cases_lt, cases_Bool, or_cases, or_parts, or_left, or_right, cases_order, and_parts, and_cases, not-true, not-false, true_from_ne_false, both_ways, ltb-true}
use Rattle.std.proofs.lemmas.List.{length-map, map-append, take-append-le}
use Rattle.std.proofs.Math.Seq.{take-append_seam}
use Rattle.std.proofs.lemmas.List.Elements.{Contains-get_or}
use Rattle.std.proofs.lemmas.List.Folds.{list_any-append}
use Rattle.std.proofs.lemmas.List.FromFn.{length-range_with_len, get_or-range_with_len}
use Rattle.std.proofs.lemmas.Map.Keys.{IsDistinct-push, IsDistinct-from_apart, IsDistinct-cons, apart_from_distinct}
use Rattle.std.proofs.lemmas.Map.Made.{length-le_from_is_member}
use Rattle.std.proofs.lemmas.Map.Steps.{length-le_from_distinct_below}
use Rattle.std.proofs.lemmas.Option.{slice_get_within, get_or_from_slice_get, slice_get-map}
use Rattle.rw_schema.specs.declared.ids.ArrowId.{ArrowId}
use Rattle.rw_schema.specs.declared.ids.ObjectId.{ObjectId}
use Rattle.rw_schema.specs.declared.parts.ArrowDef.{ArrowDef}
use Rattle.rw_schema.specs.declared.signature.ArrowEnds.{ArrowEnds}
use Rattle.rw_schema.specs.Presentation.{ends_of_arrow}
use Rattle.rw_schema.specs.SchemaFaults.{has_ends}
use Rattle.rw_schema.specs.Signature.{Signature, IsPath}
use Rattle.rw_schema.specs.Topological.{HasCycle, IsTopological}
use Rattle.rw_schema.specs.inner.Topological.{is_placed, is_back, is_ready, is_next}
use Rattle.rw_schema.proofs.Lists.{list_all_at, list_any_map, slice_get_mapped}

-- the number of an object
abbrev pub number_of : ObjectId → ℕ
number_of object = object.0

-- distinct objects, where each arrow of one leads to one before it
pub record IsBegun (objects : ℕ) (arrows : List ArrowDef) (placed : List ObjectId) : Type 0 where
  pub distinct : IsDistinct eqb (map number_of placed)
  pub known : (q : ℕ) → is_placed placed q ≡ true → q < objects
  pub back : (k : ℕ) (object : ObjectId) → slice_get placed k ≡ Some object → is_ready arrows (take k placed) object.0 ≡ true

-- an object is placed where its number is among the numbers
placed_is : (placed : List ObjectId) (q : ℕ) → list_any (eqb q) (map number_of placed) ≡ is_placed placed q
placed_is placed q = list_any_map (eqb q) number_of placed

-- what stands in a list with one more item stood there, or is that item
slice_get_pushed : {X : Type 0} (xs : List X) (y : X) (k : ℕ) (x : X) → slice_get (xs ++ y ∷ []) k ≡ Some x
    → (slice_get xs k ≡ Some x) ⊎ ((k ≡ length xs) × (y ≡ x))
slice_get_pushed [] y zero x there = inr (refl, cc)
slice_get_pushed [] y (suc k) x there = cc
slice_get_pushed (z ∷ xs) y zero x there = inl there
slice_get_pushed (z ∷ xs) y (suc k) x there =
    elim (slice_get_pushed xs y k x there) [
      | inl before ↦ inl before
      | inr last ↦ inr (ap (λ n. suc n) last.0, last.1)
    ]

-- no object is placed at first
pub begun_empty : (objects : ℕ) (arrows : List ArrowDef) → IsBegun objects arrows []
unfolding IsDistinct
begun_empty objects arrows = record {
  distinct = tt;
  known = λ q there. cc;
  back = λ k object there. cc;
}

-- the next object is placed
pub begun_more : (objects : ℕ) (arrows : List ArrowDef) (placed : List ObjectId) (object : ObjectId) → IsBegun objects arrows placed
    → object.0 < objects → is_next arrows placed object.0 ≡ true → IsBegun objects arrows (placed ++ object ∷ [])
begun_more objects arrows placed object begun within next =
    let parts = and_parts (not (is_placed placed object.0)) (is_ready arrows placed object.0) next in
    let fresh : list_any (eqb object.0) (map number_of placed) ≡ false = placed_is placed object.0 ∙ not-true (is_placed placed object.0) parts.0 in
    record {
      distinct = rw (map-append number_of placed (object ∷ [])) (IsDistinct-push nat_eq_equiv (map number_of placed) object.0 begun.distinct fresh);
      known = λ q there.
          let either : (is_placed placed q || is_placed (object ∷ []) q) ≡ true =
          sym (list_any-append (λ (other : ObjectId). q == other.0) placed (object ∷ [])) ∙ there in
          elim (or_cases (is_placed placed q) (is_placed (object ∷ []) q) either) [
            | inl before ↦ begun.known q before
            | inr here ↦ elim (or_cases (eqb q object.0) false here) [
              | inl same ↦ rw (eqb-true q object.0 same) within
              | inr never ↦ cc
            ]
          ];
      back = λ k other there.
          elim (slice_get_pushed placed object k other there) [
            | inl before ↦
                let inside : k ≤ length placed = let less : k < length placed = slice_get_within placed k other before in omega (arith, less) in
                rw (take-append-le k placed (object ∷ []) inside) (begun.back k other before)
            | inr last ↦ rw (last.0, take-append_seam placed (object ∷ []), ← last.1) parts.1
          ];
    }

-- the first place at which a list passes a test
found_first : {X : Type 0} (p : X → Bool) (xs : List X) → list_any p xs ≡ true → (x : X) × (slice_get xs (position_or_len p xs) ≡ Some x) × (p x ≡ true)
found_first p [] found = cc
found_first p (x ∷ xs) found =
    elim (cases_Bool (p x)) [
      | inl here ↦ (x, rw here refl, here)
      | inr other ↦
          let later = found_first p xs (rw other at found) in
          let next : suc (position_or_len p xs) ≡ position_or_len p (x ∷ xs) = rw other (omega arith) in
          (later.0, subst (λ n. slice_get (x ∷ xs) n ≡ Some later.0) next later.1, later.2)
    ]

-- where the first items of a list pass a test, the first place that passes is among them
first_among : {X : Type 0} (p : X → Bool) (xs : List X) (k : ℕ) → list_any p (take k xs) ≡ true → position_or_len p xs < k
first_among p [] zero found = cc
first_among p [] (suc k) found = cc
first_among p (x ∷ xs) zero found = cc
first_among p (x ∷ xs) (suc k) found =
    elim (cases_Bool (p x)) [
      | inl here ↦ rw here (omega arith)
      | inr other ↦
          let later : position_or_len p xs < k = first_among p xs k (rw other at found) in
          rw other (omega (arith, later))
    ]

-- an item that fails a test that not all pass
failing : {X : Type 0} (p : X → Bool) (xs : List X) → list_all p xs ≡ false → (k : ℕ) × (x : X) × (slice_get xs k ≡ Some x) × (p x ≡ false)
failing p [] fails = cc
failing p (x ∷ xs) fails =
    elim (and_cases (p x) (list_all p xs) fails) [
      | inl here ↦ (0, x, refl, here)
      | inr later ↦ let found = failing p xs later in (suc found.0, found.1, found.2, found.3)
    ]

-- all numbers below a limit pass a test, or one fails it
all_or_one : (p : ℕ → Bool) (n : ℕ) → ((q : ℕ) → q < n → p q ≡ true) ⊎ ((q : ℕ) × (q < n) × (p q ≡ false))
all_or_one p zero = inl (λ q below. absurd (omega (arith, below)))
all_or_one p (suc n) =
    elim (all_or_one p n) [
      | inl all ↦ elim (cases_Bool (p n)) [
        | inl last ↦ inl (λ q below. elim (cases_lt q n) [
          | inl before ↦ all q before
          | inr past ↦ let same : q ≡ n = omega (arith, below, past) in rw same last
        ])
        | inr fails ↦ inr (n, omega arith, fails)
      ]
      | inr one ↦ inr (one.0, (let below : one.0 < n = one.1 in omega (arith, below)), one.2)
    ]

-- a number in a range is below its end
below_range : (a n q : ℕ) → list_any (eqb q) (range_with_len a n) ≡ true → q < a + n
below_range a zero q there = cc
below_range a (suc n) q there =
    elim (or_cases (eqb q a) (list_any (eqb q) (range_with_len (a + 1) n)) there) [
      | inl here ↦ let same : q ≡ a = eqb-true q a here in omega (arith, same)
      | inr later ↦ let below : q < (a + 1) + n = below_range (a + 1) n q later in omega (arith, below)
    ]

-- where all objects below a limit are placed, at least so many are
many_placed : (placed : List ObjectId) (n : ℕ) → ((q : ℕ) → q < n → is_placed placed q ≡ true) → n ≤ length placed
many_placed placed n all =
    let range = range_with_len 0 n in
    let apart : IsDistinct eqb range = IsDistinct-from_apart eqb range (λ i j d before within.
    let inside : j < n = rw (length-range_with_len 0 n) at within in
    let first : get_or range i d ≡ 0 + i = get_or-range_with_len 0 n i d (omega (arith, before, inside)) in
    let second : get_or range j d ≡ 0 + j = get_or-range_with_len 0 n j d inside in
    ne_eqb (get_or range i d) (get_or range j d) (λ same. omega (arith, before, first, second, same))) in
    let among : (q : ℕ) → list_any (eqb q) range ≡ true → list_any (eqb q) (map number_of placed) ≡ true =
    λ q there. placed_is placed q ∙ all q (let below : q < 0 + n = below_range 0 n q there in omega (arith, below)) in
    let fewer : length range ≤ length (map number_of placed) = length-le_from_is_member nat_eq_equiv range (map number_of placed) apart among in
    let long : length range ≡ n = length-range_with_len 0 n in
    let same : length (map number_of placed) ≡ length placed = length-map placed number_of in
    omega (arith, fewer, long, same)

-- as many objects as there are: each is placed
pub all_placed : (objects : ℕ) (arrows : List ArrowDef) (placed : List ObjectId) (q : ℕ) → IsBegun objects arrows placed
    → length placed ≡ objects → q < objects → is_placed placed q ≡ true
all_placed objects arrows placed q begun long within =
    true_from_ne_false (is_placed placed q) (λ fails.
    let numbers = map number_of placed in
    let fresh : list_any (eqb q) numbers ≡ false = placed_is placed q ∙ fails in
    let more : IsDistinct eqb (numbers ++ q ∷ []) = IsDistinct-push nat_eq_equiv numbers q begun.distinct fresh in
    let below : (r : ℕ) → list_any (eqb r) (numbers ++ q ∷ []) ≡ true → r < objects = λ r there.
    elim (or_cases (list_any (eqb r) numbers) (list_any (eqb r) (q ∷ [])) (sym (list_any-append (eqb r) numbers (q ∷ [])) ∙ there)) [
      | inl before ↦ begun.known r (sym (placed_is placed r) ∙ before)
      | inr here ↦ elim (or_cases (eqb r q) false here) [
        | inl same ↦ rw (eqb-true r q same) within
        | inr never ↦ cc
      ]
    ] in
    let few : length (numbers ++ q ∷ []) ≤ objects = length-le_from_distinct_below (numbers ++ q ∷ []) objects more below in
    let longer : length (numbers ++ q ∷ []) ≡ length numbers + 1 = length-append numbers (q ∷ []) in
    let same : length numbers ≡ length placed = length-map placed number_of in
    omega (arith, few, longer, same, long))

-- the place of an object
abbrev place_in : List ObjectId → ℕ → ℕ
place_in placed q = position_or_len (λ (other : ObjectId). q == other.0) placed

-- a placed object stands at its place
stands : (placed : List ObjectId) (q : ℕ) → is_placed placed q ≡ true → slice_get placed (place_in placed q) ≡ Some (record { 0 = q })
stands placed q there =
    let found = found_first (λ (other : ObjectId). q == other.0) placed there in
    let same : q ≡ found.0.0 = eqb-true q found.0.0 found.2 in
    found.1 ∙ ap (λ (n : ℕ). let object : ObjectId = record { 0 = n } in Some object) (sym same)

-- an arrow of a placed object leads to an object at an earlier place
falls : (objects : ℕ) (arrows : List ArrowDef) (placed : List ObjectId) (k : ℕ) (arrow : ArrowDef) → IsBegun objects arrows placed
    → slice_get arrows k ≡ Some arrow → is_placed placed arrow.source.0 ≡ true → place_in placed arrow.target.0 < place_in placed arrow.source.0
falls objects arrows placed k arrow begun is there =
    let place = place_in placed arrow.source.0 in
    let ready : is_ready arrows (take place placed) arrow.source.0 ≡ true = begun.back place (record { 0 = arrow.source.0 }) (stands placed arrow.source.0 there) in
    let back : is_back (take place placed) arrow.source.0 arrow ≡ true = list_all_at (is_back (take place placed) arrow.source.0) arrows k arrow ready is in
    first_among (λ (other : ObjectId). arrow.target.0 == other.0) placed place
    (elim (or_cases (not (arrow.source.0 == arrow.source.0)) (is_placed (take place placed) arrow.target.0) back) [
      | inl other ↦ absurd (both_ways (arrow.source.0 == arrow.source.0) (not-true (arrow.source.0 == arrow.source.0) other) (eq-eqb arrow.source.0 arrow.source.0 refl))
      | inr earlier ↦ earlier
    ])

-- the ends of an arrow are objects
known_ends : (objects : ℕ) (arrows : List ArrowDef) (k : ℕ) (arrow : ArrowDef) → list_all (has_ends objects) arrows ≡ true
    → slice_get arrows k ≡ Some arrow → (arrow.source.0 < objects) × (arrow.target.0 < objects)
known_ends objects arrows k arrow ends is =
    let parts = and_parts (nat_lt arrow.source.0 objects) (nat_lt arrow.target.0 objects) (list_all_at (has_ends objects) arrows k arrow ends is) in
    (ltb-true arrow.source.0 objects parts.0, ltb-true arrow.target.0 objects parts.1)

-- a path leads to an object that stands as many places earlier at least as it has arrows
path_falls : (C : Signature) (objects : ℕ) (arrows : List ArrowDef) (placed : List ObjectId) → C.arrows ≡ map ends_of_arrow arrows
    → list_all (has_ends objects) arrows ≡ true → IsBegun objects arrows placed → ((q : ℕ) → q < objects → is_placed placed q ≡ true)
    → (from : ℕ) (path : List ArrowId) (to : ℕ) → IsPath C from path to → place_in placed to + length path ≤ place_in placed from
path_falls C objects arrows placed are ends begun all from [] to leads = rw (leads) (omega arith)
path_falls C objects arrows placed are ends begun all from (step ∷ path) to leads =
    let there : slice_get (map ends_of_arrow arrows) step.0 ≡ Some leads.0 = rw (← are) leads.1 in
    let found = slice_get_mapped ends_of_arrow arrows step.0 leads.0 there in
    let arrow : ArrowDef = found.0 in
    let known = known_ends objects arrows step.0 arrow ends found.1 in
    let first : place_in placed arrow.target.0 < place_in placed arrow.source.0 =
    falls objects arrows placed step.0 arrow begun found.1 (all arrow.source.0 known.0) in
    let leaves : arrow.source.0 ≡ from = ap (λ (e : ArrowEnds). e.source.0) found.2 ∙ leads.2 in
    let enters : arrow.target.0 ≡ leads.0.target.0 = ap (λ (e : ArrowEnds). e.target.0) found.2 in
    let start : place_in placed arrow.source.0 ≡ place_in placed from = ap (place_in placed) leaves in
    let middle : place_in placed arrow.target.0 ≡ place_in placed leads.0.target.0 = ap (place_in placed) enters in
    let rest : place_in placed to + length path ≤ place_in placed leads.0.target.0 =
    path_falls C objects arrows placed are ends begun all leads.0.target.0 path to leads.3 in
    omega (arith, first, start, middle, rest)

-- an object that stands in the list is placed
placed_at : (placed : List ObjectId) (k : ℕ) (object : ObjectId) → slice_get placed k ≡ Some object → is_placed placed object.0 ≡ true
placed_at [] k object there = cc
placed_at (other ∷ placed) zero object there =
    let same : other ≡ object = cc in
    or_left (object.0 == other.0) (is_placed placed object.0) (eq-eqb object.0 other.0 (ap number_of (sym same)))
placed_at (other ∷ placed) (suc k) object there = or_right (object.0 == other.0) (is_placed placed object.0) (placed_at placed k object there)

-- the number of an object stands among the numbers where the object stands
number_at_place : (placed : List ObjectId) (k : ℕ) (object : ObjectId) → slice_get placed k ≡ Some object → get_or (map number_of placed) k 0 ≡ object.0
number_at_place placed k object there =
    get_or_from_slice_get (map number_of placed) k object.0 0 (slice_get-map number_of placed k ∙ ap (option_map number_of) there)

-- of two places with one object the first is not before the second
not_twice : (placed : List ObjectId) (i j : ℕ) (object : ObjectId) → IsDistinct eqb (map number_of placed)
    → slice_get placed i ≡ Some object → slice_get placed j ≡ Some object → i < j → ⊥
not_twice placed i j object distinct first second before =
    let within : j < length (map number_of placed) = rw (length-map placed number_of) (slice_get_within placed j object second) in
    let apart : eqb (get_or (map number_of placed) i 0) (get_or (map number_of placed) j 0) ≡ false =
    apart_from_distinct eqb (map number_of placed) i j 0 distinct before within in
    both_ways (eqb (get_or (map number_of placed) i 0) (get_or (map number_of placed) j 0)) apart
    (eq-eqb (get_or (map number_of placed) i 0) (get_or (map number_of placed) j 0)
    (number_at_place placed i object first ∙ sym (number_at_place placed j object second)))

-- each object stands once
placed_once : (placed : List ObjectId) → IsDistinct eqb (map number_of placed) → (i j : ℕ) (object : ObjectId)
    → slice_get placed i ≡ Some object → slice_get placed j ≡ Some object → i ≡ j
placed_once placed distinct i j object first second =
    elim (cases_order i j) [
      | inl same ↦ same
      | inr other ↦ elim other [
        | inl before ↦ absurd (not_twice placed i j object distinct first second before)
        | inr after ↦ absurd (not_twice placed j i object distinct second first after)
      ]
    ]

-- where all objects are placed, they are in order, and there is no cycle
pub ordered : (C : Signature) (objects : ℕ) (arrows : List ArrowDef) (placed : List ObjectId) → C.objects ≡ objects → C.arrows ≡ map ends_of_arrow arrows
    → list_all (has_ends objects) arrows ≡ true → IsBegun objects arrows placed → length placed ≡ objects → IsTopological C placed × ¬ HasCycle C
ordered C objects arrows placed many are ends begun long =
    let all : (q : ℕ) → q < objects → is_placed placed q ≡ true = λ q within. all_placed objects arrows placed q begun long within in (
      record {
        all = λ q within.
            let object : ObjectId = record { 0 = q } in
            let there : slice_get placed (place_in placed q) ≡ Some object = stands placed q (all q (rw (← many) within)) in
            rw (← get_or_from_slice_get placed (place_in placed q) object object there)
            (Contains-get_or placed (place_in placed q) object (slice_get_within placed (place_in placed q) object there));
        long = long ∙ sym many;
        known = λ k object there. rw many (begun.known object.0 (placed_at placed k object there));
        once = placed_once placed begun.distinct;
        targets_first = λ a pair is.
            let found = slice_get_mapped ends_of_arrow arrows a pair (rw (← are) is) in
            let arrow : ArrowDef = found.0 in
            let known = known_ends objects arrows a arrow ends found.1 in
            rw (← found.2) (record {
              first_place = place_in placed arrow.target.0;
              second_place = place_in placed arrow.source.0;
              first_is = stands placed arrow.target.0 (all arrow.target.0 known.1);
              second_is = stands placed arrow.source.0 (all arrow.source.0 known.0);
              before = falls objects arrows placed a arrow begun found.1 (all arrow.source.0 known.0);
            });
      },
      λ cycle.
          let low : place_in placed cycle.object + length cycle.path ≤ place_in placed cycle.object =
          path_falls C objects arrows placed are ends begun all cycle.object cycle.path cycle.object cycle.leads in
          let long : 0 < length cycle.path = cycle.long in
          omega (arith, low, long),
    )

-- one path behind another
path_append : (C : Signature) (from : ℕ) (path : List ArrowId) (middle : ℕ) (more : List ArrowId) (to : ℕ)
    → IsPath C from path middle → IsPath C middle more to → IsPath C from (path ++ more) to
path_append C from [] middle more to leads on = rw leads on
path_append C from (step ∷ path) middle more to leads on =
    (leads.0, leads.1, leads.2, path_append C leads.0.target.0 path middle more to leads.3 on)

-- a path that is not empty
record IsWay (C : Signature) (from to : ℕ) : Type 0 where
  path : List ArrowId
  long : 0 < length path
  leads : IsPath C from path to

-- one such path behind another
way_on : (C : Signature) (from middle to : ℕ) → IsWay C from middle → IsWay C middle to → IsWay C from to
way_on C from middle to way on = record {
  path = way.path ++ on.path;
  long = let sum : length (way.path ++ on.path) ≡ length way.path + length on.path = length-append way.path on.path in
      let first : 0 < length way.path = way.long in
      omega (arith, sum, first);
  leads = path_append C from way.path middle on.path to way.leads on.leads;
}

-- the object is known and is not placed
record IsStuck (objects : ℕ) (placed : List ObjectId) (q : ℕ) : Type 0 where
  within : q < objects
  fails : is_placed placed q ≡ false

-- where no object can be placed next, an arrow leads from one that is not placed to another
stuck_next : (C : Signature) (objects : ℕ) (arrows : List ArrowDef) (placed : List ObjectId) → C.arrows ≡ map ends_of_arrow arrows
    → list_all (has_ends objects) arrows ≡ true → ((q : ℕ) → q < objects → is_next arrows placed q ≡ false)
    → (q : ℕ) → IsStuck objects placed q → (r : ℕ) × IsStuck objects placed r × IsWay C q r
stuck_next C objects arrows placed are ends none q stuck =
    let unready : is_ready arrows placed q ≡ false =
    elim (and_cases (not (is_placed placed q)) (is_ready arrows placed q) (none q stuck.within)) [
      | inl there ↦ absurd (both_ways (is_placed placed q) stuck.fails (not-false (is_placed placed q) there))
      | inr fails ↦ fails
    ] in
    let found = failing (is_back placed q) arrows unready in
    let k : ℕ = found.0 in
    let arrow : ArrowDef = found.1 in
    let is : slice_get arrows k ≡ Some arrow = found.2 in
    let parts = or_parts (not (q == arrow.source.0)) (is_placed placed arrow.target.0) found.3 in
    let leaves : q ≡ arrow.source.0 = eqb-true q arrow.source.0 (not-false (q == arrow.source.0) parts.0) in
    let known = known_ends objects arrows k arrow ends is in
    let there : slice_get C.arrows k ≡ Some (ends_of_arrow arrow) = rw (are, slice_get-map ends_of_arrow arrows k, is) refl in (
      arrow.target.0,
      record { within = known.1; fails = parts.1 },
      record {
        path = record { 0 = k } ∷ [];
        long = omega arith;
        leads = (ends_of_arrow arrow, there, sym leaves, refl);
      },
    )

-- a walk over distinct objects that goes on comes to one of them again
walk : (C : Signature) (objects : ℕ) (placed : List ObjectId)
    → ((q : ℕ) → IsStuck objects placed q → (r : ℕ) × IsStuck objects placed r × IsWay C q r)
    → (fuel : ℕ) (passed : List ℕ) (q : ℕ) → length passed + fuel ≡ objects + 1 → IsDistinct eqb passed
    → ((p : ℕ) → list_any (eqb p) passed ≡ true → p < objects)
    → ((p : ℕ) → list_any (eqb p) passed ≡ true → IsWay C p q)
    → IsStuck objects placed q → HasCycle C
walk C objects placed next zero passed q many distinct known ways stuck =
    let few : length passed ≤ objects = length-le_from_distinct_below passed objects distinct known in
    absurd (omega (arith, few, many))
walk C objects placed next (suc fuel) passed q many distinct known ways stuck =
    elim (cases_Bool (list_any (eqb q) passed)) [
      | inl again ↦ let way = ways q again in record { object = q; path = way.path; long = way.long; leads = way.leads }
      | inr fresh ↦
          let step = next q stuck in
          let r : ℕ = step.0 in
          let on : IsWay C q r = step.2 in
          walk C objects placed next fuel (q ∷ passed) r (omega (arith, many))
          (IsDistinct-cons eqb q passed (none_equal q passed fresh) distinct)
          (λ p there. elim (or_cases (eqb p q) (list_any (eqb p) passed) there) [
            | inl same ↦ rw (eqb-true p q same) stuck.within
            | inr before ↦ known p before
          ])
          (λ p there. elim (or_cases (eqb p q) (list_any (eqb p) passed) there) [
            | inl same ↦ rw (eqb-true p q same) on
            | inr before ↦ way_on C p q r (ways p before) on
          ])
          step.1
    ]
  where
    none_equal : (x : ℕ) (xs : List ℕ) → list_any (eqb x) xs ≡ false → AllByRecursion (λ y. eqb x y ≡ false) xs
    none_equal x [] fails = tt
    none_equal x (y ∷ xs) fails =
        let parts = or_parts (eqb x y) (list_any (eqb x) xs) fails in
        (parts.0, none_equal x xs parts.1)

-- where no object can be placed next and fewer are placed than there are, there is a cycle
pub stopped : (C : Signature) (objects : ℕ) (arrows : List ArrowDef) (placed : List ObjectId) → C.arrows ≡ map ends_of_arrow arrows
    → list_all (has_ends objects) arrows ≡ true → length placed < objects
    → ((q : ℕ) → q < objects → is_next arrows placed q ≡ false) → HasCycle C
unfolding IsDistinct
stopped C objects arrows placed are ends few none =
    elim (all_or_one (is_placed placed) objects) [
      | inl all ↦ let many : objects ≤ length placed = many_placed placed objects all in absurd (omega (arith, many, few))
      | inr one ↦
          walk C objects placed (stuck_next C objects arrows placed are ends none) (objects + 1) [] one.0 (zero-add (objects + 1)) tt
          (λ p there. cc) (λ p there. cc) (record { within = one.1; fails = one.2 })
    ]
