-- The tuples with a changed name are those that the index has under one.
use Rattle.std.proofs.Common.{◌≡◌, ℕ, zero, suc, ◌<◌, Bool, List, [], ◌∷◌, Contains, length, get_or, sym, ◌∙◌, subst, inl, inr, arith}
use Rattle.std.specs.Prelude.{◌⊎◌, ◌↔◌}
use Rattle.rw_schema.specs.declared.ids.ObjectId.{ObjectId}
use Rattle.rw_schema.specs.Signature.{Signature}
use Rattle.rw_spec.specs.Instance.{Instance}
use Rattle.rw_spec.proofs.Sequences.{contains_here, contains_later, contains_none, contains_filter, contained_in_filter, contains_flat_map, contained_in_flat_map}
use Rattle.rw_pattern.specs.Matches.{candidates, is_match, matches}
use Rattle.rw_pattern.specs.PatternLists.{PatternLists, objects_of}
use Rattle.rw_spec.specs.Tuples.{tuples}
use Rattle.rw_pattern.proofs.Naturality.{length_candidates}
use Rattle.rw_pattern.proofs.Places.{length_objects_of}
use Rattle.rw_spec.proofs.Tuples.{is_tuple}
use Rattle.rw_kept.specs.Changed.{goes_through, matches_through}
use Rattle.rw_kept.specs.Index.{keys_by_place, index_keys}
use Rattle.rw_kept.proofs.Sought.{name_found, found_name}

-- an item stands first or among the others
contains_cases : {X : Type 0} (y : X) (xs : List X) (x : X) → Contains (y ∷ xs) x → (y ≡ x) ⊎ Contains xs x
contains_cases y xs x (zero, within, there) = inl there
contains_cases y xs x (suc k, within, there) = inr (k, omega arith, there)

-- a place whose object and name these are
pub record StandsAt (objects : List ObjectId) (names : List ℕ) (object name : ℕ) : Type 0 where
  pub place : ℕ
  pub in_objects : place < length objects
  pub in_names : place < length names
  pub object_is : (d : ObjectId) → (get_or objects place d).0 ≡ object
  pub name_is : get_or names place 0 ≡ name

-- the key of a place
pub key_there : (objects : List ObjectId) (names tuple : List ℕ) (k : ℕ) (d : ObjectId) → k < length objects → k < length names
    → Contains (keys_by_place objects names tuple) ((get_or objects k d).0 ∷ get_or names k 0 ∷ tuple)
key_there [] names tuple k d within here = absurd (omega arith)
key_there (object ∷ objects) [] tuple k d within here = absurd (omega arith)
key_there (object ∷ objects) (name ∷ names) tuple zero d within here = contains_here (object.0 ∷ name ∷ tuple) (keys_by_place objects names tuple)
key_there (object ∷ objects) (name ∷ names) tuple (suc k) d within here =
    contains_later (object.0 ∷ name ∷ tuple) (keys_by_place objects names tuple) ((get_or objects k d).0 ∷ get_or names k 0 ∷ tuple)
    (key_there objects names tuple k d (omega arith) (omega arith))

-- the place of a key
pub there_key : (objects : List ObjectId) (names tuple : List ℕ) (object name : ℕ) (other : List ℕ) → Contains (keys_by_place objects names tuple) (object ∷ name ∷ other)
    → (tuple ≡ other) × StandsAt objects names object name
there_key [] names tuple object name other there = absurd (contains_none (object ∷ name ∷ other) there)
there_key (o ∷ objects) [] tuple object name other there = absurd (contains_none (object ∷ name ∷ other) there)
there_key (o ∷ objects) (n ∷ names) tuple object name other there =
    elim (contains_cases (o.0 ∷ n ∷ tuple) (keys_by_place objects names tuple) (object ∷ name ∷ other) there) [
      | inl same ↦
          let object_same : o.0 ≡ object = cc in
          let name_same : n ≡ name = cc in
          let tuple_same : tuple ≡ other = cc in
          (tuple_same, record { place = zero; in_objects = omega arith; in_names = omega arith; object_is = λ d. object_same; name_is = name_same })
      | inr later ↦
          let rest : (tuple ≡ other) × StandsAt objects names object name = there_key objects names tuple object name other later in
          let at : StandsAt objects names object name = rest.1 in
          (rest.0, record { place = suc at.place; in_objects = omega (arith, at.in_objects); in_names = omega (arith, at.in_names); object_is = at.object_is; name_is = at.name_is })
    ]

-- the matches with a changed name are those that the index has under one
pub through_index : (C : Signature) (pattern : PatternLists) (monic : List Bool) (X : Instance) (changed : ℕ → List ℕ) (tuple : List ℕ)
    → Contains (matches_through C pattern monic X changed) tuple
    ↔ ((object : ℕ) × (name : ℕ) × Contains (changed object) name × Contains (index_keys pattern (matches C pattern monic X)) (object ∷ name ∷ tuple))
through_index C pattern monic X changed tuple =
    let all : List (List ℕ) = matches C pattern monic X in
    let objects : List ObjectId = objects_of pattern in
    let any : ObjectId = record { 0 = 0 } in (
      λ through.
          let kept = contained_in_filter (goes_through changed pattern) all tuple through in
          let found = found_name changed objects tuple any kept.1 in (
            (get_or objects found.0 any).0,
            get_or tuple found.0 0,
            found.3,
            contains_flat_map (λ tuple. keys_by_place objects tuple tuple) all tuple ((get_or objects found.0 any).0 ∷ get_or tuple found.0 0 ∷ tuple) kept.0
                (key_there objects tuple tuple found.0 any found.1 found.2),
          ),
      λ indexed.
          let from = contained_in_flat_map (λ tuple. keys_by_place objects tuple tuple) all (indexed.0 ∷ indexed.1 ∷ tuple) indexed.3 in
          let key = there_key objects from.0 from.0 indexed.0 indexed.1 tuple from.2 in
          let at : StandsAt objects from.0 indexed.0 indexed.1 = key.1 in
          let kept = contained_in_filter (is_match C pattern monic X) (tuples (candidates pattern X)) from.0 from.1 in
          let long : length from.0 ≡ length objects = (is_tuple (candidates pattern X) from.0 kept.0).long ∙ length_candidates pattern X ∙ sym (length_objects_of pattern) in
          let there : Contains (changed (get_or objects at.place any).0) (get_or from.0 at.place 0) =
          subst (λ (object : ℕ). Contains (changed object) (get_or from.0 at.place 0)) (sym (at.object_is any))
          (subst (Contains (changed indexed.0)) (sym at.name_is) indexed.2) in
          subst (Contains (matches_through C pattern monic X changed)) key.0
          (contains_filter (goes_through changed pattern) all from.0 from.1 (name_found changed objects from.0 at.place any long at.in_objects there)),
    )
