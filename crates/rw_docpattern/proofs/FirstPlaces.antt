-- The variables that are met, entry by entry.
use Rattle.std.proofs.Common.{◌≡◌, ◌∙◌, ◌<◌, ◌≤◌, ◌+◌, ◌||◌, ℕ, Bool, true, false, not, inl, inr, Option, Some, None, is_some, unwrap_or, List, [], ◌∷◌, ◌++◌, length, map, take, get_or, if◌then◌else◌, refl, sym, ap, arith, length-append}
use Rattle.std.specs.List.{list_any}
use Rattle.std.specs.Str.{bytes_eq}
use Rattle.std.proofs.lemmas.Bool.{cases_Bool}
use Rattle.std.proofs.lemmas.List.{append-nil, map-append, take_more}
use Rattle.std.proofs.lemmas.List.Folds.{list_any-append}
use Rattle.std.proofs.lemmas.Slice.Eq.{bytes_eq-Decides}
use Rattle.rw_schema.specs.declared.atom.Kind.{Kind}
use Rattle.rw_schema.specs.declared.parts.AttrDef.{AttrDef}
use Rattle.rw_schema.specs.First.{flat_map_in}
use Rattle.rw_spec.proofs.Sequences.{flat_map_in_more}
use Rattle.rw_docpattern.specs.declared.entry.Entry.{Entry}
use Rattle.rw_docpattern.specs.Numbering.{name_of, new_name}
use Rattle.rw_docpattern.specs.Variables.{first_at, has_variable, is_name_of, is_new, kind_at, variable_name}

-- the first entry of each variable that stands before a place
abbrev pub firsts_before : List Entry → ℕ → List Entry
firsts_before entries place = flat_map_in (first_at entries) 0 (take place entries)

-- the names and the kinds are those of the variables that stand before the place
pub record Met (attributes : List AttrDef) (entries : List Entry) (place : ℕ) (names : List (List ℕ)) (kinds : List Kind) : Type 0 where
  pub names_are : names ≡ map name_of (firsts_before entries place)
  pub kinds_are : kinds ≡ map (kind_at attributes) (firsts_before entries place)
  pub known : (name : List ℕ) → list_any (has_variable name) (take place entries) ≡ list_any (bytes_eq name) names
  pub few : length names ≤ place

-- no entry was met yet
pub met_none : (attributes : List AttrDef) (entries : List Entry) → Met attributes entries 0 [] []
met_none attributes entries = record { names_are = refl; kinds_are = refl; known = λ name. refl; few = omega arith }

-- a variable is new where its name is
new_named : (before : List Entry) (names : List (List ℕ)) (found : Option (List ℕ))
    → ((name : List ℕ) → list_any (has_variable name) before ≡ list_any (bytes_eq name) names) → is_new before found ≡ is_some (new_name names found)
new_named before names None known = refl
new_named before names (Some name) known =
    rw (known name) (elim (list_any (bytes_eq name) names) as (λ b. not b ≡ is_some (if b then None else Some name)) [ true ↦ refl | false ↦ refl ])

-- a variable without a new name was met
found_none : (met : Bool) (name : List ℕ) → (if met then None else Some name) ≡ None → met ≡ true
found_none true name none = refl
found_none false name none = cc

-- a new name was not met
found_new : (met : Bool) (other name : List ℕ) → (if met then None else Some other) ≡ Some name → other ≡ name
found_new true other name new = cc
found_new false other name new = cc

-- a new name is that of the variable
found_is : (names : List (List ℕ)) (found : Option (List ℕ)) (name : List ℕ) → new_name names found ≡ Some name → found ≡ Some name
found_is names None name new = cc
found_is names (Some other) name new = ap Some (found_new (list_any (bytes_eq other) names) other name new)

-- an entry without a new name adds none
known_same : (names : List (List ℕ)) (found : Option (List ℕ)) (name : List ℕ) → new_name names found ≡ None
    → (list_any (bytes_eq name) names || (is_name_of name found || false)) ≡ list_any (bytes_eq name) names
known_same names None name none = elim (list_any (bytes_eq name) names) as (λ b. (b || false) ≡ b) [ true ↦ refl | false ↦ refl ]
known_same names (Some other) name none =
    let met : list_any (bytes_eq other) names ≡ true = found_none (list_any (bytes_eq other) names) other none in
    elim (cases_Bool (bytes_eq name other)) [
      | inl same ↦
          let is : name ≡ other = (bytes_eq-Decides name other).0 same in
          let found : list_any (bytes_eq name) names ≡ true = rw is met in
          rw found refl
      | inr differs ↦ rw differs (elim (list_any (bytes_eq name) names) as (λ b. (b || false) ≡ b) [ true ↦ refl | false ↦ refl ])
    ]

-- an entry with a new name adds it
known_new : (names : List (List ℕ)) (name other : List ℕ)
    → (list_any (bytes_eq name) names || (bytes_eq name other || false)) ≡ list_any (bytes_eq name) (names ++ other ∷ [])
known_new names name other = sym (list_any-append (bytes_eq name) names (other ∷ []))

-- one entry more
entries_more : (entries : List Entry) (place : ℕ) (entry : Entry) → place < length entries → entry ≡ get_or entries place entry
    → take (place + 1) entries ≡ take place entries ++ entry ∷ []
entries_more entries place entry within is =
    take_more entries place entry within ∙ ap (λ x. take place entries ++ x ∷ []) (sym is)

-- one entry more, of which it is known whether its variable is new
firsts_more : (entries : List Entry) (place : ℕ) (entry : Entry) → place < length entries → entry ≡ get_or entries place entry
    → (new : Bool) → is_new (take place entries) (variable_name entry.term) ≡ new
    → firsts_before entries (place + 1) ≡ firsts_before entries place ++ (if new then entry ∷ [] else [])
firsts_more entries place entry within is new is_so =
    flat_map_in_more (first_at entries) entries place entry within
    ∙ ap (λ x. firsts_before entries place ++ first_at entries place x) (sym is)
    ∙ ap (λ b. firsts_before entries place ++ (if b then entry ∷ [] else [])) is_so

-- whether a name stands before the next place
known_more : (entries : List Entry) (place : ℕ) (names : List (List ℕ)) (entry : Entry) (name : List ℕ) → place < length entries
    → entry ≡ get_or entries place entry → list_any (has_variable name) (take place entries) ≡ list_any (bytes_eq name) names
    → list_any (has_variable name) (take (place + 1) entries) ≡ (list_any (bytes_eq name) names || (is_name_of name (variable_name entry.term) || false))
known_more entries place names entry name within is known =
    ap (list_any (has_variable name)) (entries_more entries place entry within is)
    ∙ list_any-append (has_variable name) (take place entries) (entry ∷ [])
    ∙ ap (λ b. b || (is_name_of name (variable_name entry.term) || false)) known

-- an entry whose variable was met changes nothing
pub met_same : (attributes : List AttrDef) (entries : List Entry) (place : ℕ) (names : List (List ℕ)) (kinds : List Kind) (entry : Entry)
    → Met attributes entries place names kinds → place < length entries → entry ≡ get_or entries place entry → new_name names (variable_name entry.term) ≡ None
    → Met attributes entries (place + 1) names kinds
met_same attributes entries place names kinds entry met within is none =
    let old : is_new (take place entries) (variable_name entry.term) ≡ false =
    new_named (take place entries) names (variable_name entry.term) met.known ∙ ap is_some none in
    let same : firsts_before entries (place + 1) ≡ firsts_before entries place =
    firsts_more entries place entry within is false old ∙ append-nil (firsts_before entries place) in
    record {
      names_are = rw same met.names_are;
      kinds_are = rw same met.kinds_are;
      known = λ name. known_more entries place names entry name within is (met.known name) ∙ known_same names (variable_name entry.term) name none;
      few = omega (arith, met.few);
    }

-- an entry with a new name puts it, and the kind of its attribute, behind the others
pub met_more : (attributes : List AttrDef) (entries : List Entry) (place : ℕ) (names : List (List ℕ)) (kinds : List Kind) (entry : Entry) (new : List ℕ)
    → Met attributes entries place names kinds → place < length entries → entry ≡ get_or entries place entry → new_name names (variable_name entry.term) ≡ Some new
    → Met attributes entries (place + 1) (names ++ new ∷ []) (kinds ++ kind_at attributes entry ∷ [])
met_more attributes entries place names kinds entry new met within is new_is =
    let before : List Entry = firsts_before entries place in
    let named : variable_name entry.term ≡ Some new = found_is names (variable_name entry.term) new new_is in
    let first : is_new (take place entries) (variable_name entry.term) ≡ true =
    new_named (take place entries) names (variable_name entry.term) met.known ∙ ap is_some new_is in
    let more : firsts_before entries (place + 1) ≡ before ++ entry ∷ [] = firsts_more entries place entry within is true first in
    let long : length (names ++ new ∷ []) ≡ length names + 1 = length-append names (new ∷ []) in
    record {
      names_are = ap (λ list. list ++ new ∷ []) met.names_are ∙ ap (λ found. map name_of before ++ unwrap_or found [] ∷ []) (sym named)
          ∙ sym (map-append name_of before (entry ∷ [])) ∙ ap (map name_of) (sym more);
      kinds_are = ap (λ list. list ++ kind_at attributes entry ∷ []) met.kinds_are ∙ sym (map-append (kind_at attributes) before (entry ∷ [])) ∙ ap (map (kind_at attributes)) (sym more);
      known = λ name. known_more entries place names entry name within is (met.known name)
          ∙ ap (λ found. list_any (bytes_eq name) names || (is_name_of name found || false)) named ∙ known_new names name new;
      few = omega (arith, met.few, long);
    }
