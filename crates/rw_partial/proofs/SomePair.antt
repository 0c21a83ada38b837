-- There is a largest fitting pair: what has to go is what follows from deleted parts and set cells.
use Rattle.std.proofs.Common.{◌≡◌, ◌∙◌, ◌<◌, ◌==◌, ◌&&◌, ◌++◌, ℕ, zero, suc, Bool, true, false, not, filter, map, List, [], ◌∷◌, Contains, Some, slice_get, inl, inr, refl, sym, ap, subst, arith, eqb-true, zero-add}
use Rattle.std.specs.List.{flat_map, list_any, range_with_len}
use Rattle.std.proofs.lemmas.Bool.{and_from, and_parts, eq-eqb}
use Rattle.std.proofs.lemmas.List.Elements.{Contains-append_cases, Contains-append_left, Contains-append_right}
use Rattle.rw_schema.specs.declared.signature.ArrowEnds.{ArrowEnds}
use Rattle.rw_schema.specs.declared.signature.AttrEnds.{AttrEnds}
use Rattle.rw_schema.specs.First.{flat_map_in}
use Rattle.rw_schema.specs.Signature.{Signature, IsCategory}
use Rattle.rw_spec.specs.Instance.{Has}
use Rattle.rw_spec.proofs.Ranges.{range_below, range_has}
use Rattle.rw_spec.proofs.Sequences.{contained_in_filter, contained_in_flat_map, contained_in_flat_map_in_0, contained_in_map, contains_filter, contains_flat_map, contains_flat_map_in, contains_here, contains_later, contains_map}
use Rattle.rw_complement.proofs.Tests.{none_of, some_at}
use Rattle.rw_partial.specs.Removal.{IsClosed, IsExcluded, left_of, NoCell, NoPart, NoRightCell, NoRightPart}
use Rattle.rw_partial.specs.SinglePushout.{Applied, IsApplied, IsLargestPair}
use Rattle.rw_partial.specs.SubInstance.{Elements}
use Rattle.rw_partial.proofs.Closure.{IsClosure, closure, first_or_later, reaches}
use Rattle.rw_partial.proofs.Largest.{deleted_goes, host_cell_goes, host_part_goes, largest_from_removal, right_cell_goes, right_part_goes, right_source_goes, set_cell_goes, source_goes}
use Rattle.rw_partial.proofs.Partial.{same_test}

-- an element of the host or of the right side: of sort 0 a part of the host, 1 a part of the right side, 2 a cell of the host, 3 one
-- of the right side; of an object or an attribute, at a name
record Element : Type 0 where
  pub sort : ℕ
  pub at : ℕ
  pub name : ℕ

-- a part of the host
abbrev host_part : ℕ → ℕ → Element
host_part object x = record { sort = 0; at = object; name = x }

-- a part of the right side
abbrev right_part : ℕ → ℕ → Element
right_part object y = record { sort = 1; at = object; name = y }

-- a cell of the host
abbrev host_cell : ℕ → ℕ → Element
host_cell c x = record { sort = 2; at = c; name = x }

-- a cell of the right side
abbrev right_cell : ℕ → ℕ → Element
right_cell c y = record { sort = 3; at = c; name = y }

-- two elements are one, as a test
abbrev is_same : Element → Element → Bool
is_same e other = e.sort == other.sort && (e.at == other.at && e.name == other.name)

-- where the test passes they are one
same_is : (e other : Element) → is_same e other ≡ true → e ≡ other
same_is e other passes =
    let first = and_parts (e.sort == other.sort) (e.at == other.at && e.name == other.name) passes in
    let second = and_parts (e.at == other.at) (e.name == other.name) first.1 in
    let sorts : e.sort ≡ other.sort = eqb-true e.sort other.sort first.0 in
    let places : e.at ≡ other.at = eqb-true e.at other.at second.0 in
    let names : e.name ≡ other.name = eqb-true e.name other.name second.1 in
    ap (λ (n : ℕ). record { sort = n; at = e.at; name = e.name }) sorts
    ∙ ap (λ (n : ℕ). record { sort = other.sort; at = n; name = e.name }) places
    ∙ ap (λ (n : ℕ). record { sort = other.sort; at = other.at; name = n }) names

-- and of an element and itself it passes
is_itself : (e : Element) → is_same e e ≡ true
is_itself e = and_from (e.sort == e.sort) (e.at == e.at && e.name == e.name) (eq-eqb e.sort e.sort refl)
    (and_from (e.at == e.at) (e.name == e.name) (eq-eqb e.at e.at refl) (eq-eqb e.name e.name refl))

-- no fitting pair has the element of this sort; and a set cell of the right side never goes
abbrev NoPairHasAt : Signature → Applied → ℕ → ℕ → ℕ → Type 0
NoPairHasAt C S zero at name = NoPart C S at name
NoPairHasAt C S (suc zero) at name = NoRightPart C S at name
NoPairHasAt C S (suc (suc zero)) at name = NoCell C S at name
NoPairHasAt C S (suc (suc (suc more))) at name = NoRightCell C S at name × (S.set at name ≡ false)

-- no kept part goes to the part of the left side
abbrev is_deleted : Applied → ℕ → ℕ → Bool
is_deleted S object x = not (list_any (λ z. S.l object z == x) (S.keep.names object))

-- the images of deleted parts of an object
abbrev deleted_at : Applied → ℕ → List Element
deleted_at S object = map (λ x. host_part object (S.m object x)) (filter (is_deleted S object) (S.left.names object))

-- the cells of the host under set cells of an attribute
abbrev cut_at : Applied → ℕ → AttrEnds → List Element
cut_at S c ends =
    map (λ z. host_cell c (S.m ends.object.0 (S.l ends.object.0 z))) (filter (λ z. S.set c (S.r ends.object.0 z)) (S.keep.names ends.object.0))

-- what goes first
abbrev goes_first : Signature → Applied → List Element
goes_first C S = flat_map (deleted_at S) (range_with_len 0 C.objects) ++ flat_map_in (cut_at S) 0 C.attributes

-- with the value of an arrow the part of the host goes
abbrev host_edges : Applied → ℕ → ArrowEnds → List (Element × Element)
host_edges S a ends = map (λ x. (host_part ends.target.0 (S.host.value a x), host_part ends.source.0 x)) (S.host.names ends.source.0)

-- and so on the right side
abbrev right_edges : Applied → ℕ → ArrowEnds → List (Element × Element)
right_edges S a ends = map (λ y. (right_part ends.target.0 (S.right.value a y), right_part ends.source.0 y)) (S.right.names ends.source.0)

-- the part of the host and the right part of a kept part go together
abbrev part_edges : Applied → ℕ → ℕ → List (Element × Element)
part_edges S object z =
    (host_part object (S.m object (S.l object z)), right_part object (S.r object z))
    ∷ (right_part object (S.r object z), host_part object (S.m object (S.l object z)))
    ∷ []

-- and so do their cells, where the right one is not set
abbrev cell_edges : Applied → ℕ → ℕ → ℕ → List (Element × Element)
cell_edges S c object z =
    (host_cell c (S.m object (S.l object z)), right_cell c (S.r object z))
    ∷ (right_cell c (S.r object z), host_cell c (S.m object (S.l object z)))
    ∷ []

-- the kept parts of an attribute's object whose right cell is not set
abbrev unset_at : Applied → ℕ → AttrEnds → List ℕ
unset_at S c ends = filter (λ z. not (S.set c (S.r ends.object.0 z))) (S.keep.names ends.object.0)

-- the edges of the arrows
abbrev arrow_edges : Signature → Applied → List (Element × Element)
arrow_edges C S = flat_map_in (host_edges S) 0 C.arrows ++ flat_map_in (right_edges S) 0 C.arrows

-- the edges of the kept parts
abbrev kept_edges : Signature → Applied → List (Element × Element)
kept_edges C S =
    flat_map (λ object. flat_map (part_edges S object) (S.keep.names object)) (range_with_len 0 C.objects)
    ++ flat_map_in (λ c ends. flat_map (cell_edges S c ends.object.0) (unset_at S c ends)) 0 C.attributes

-- what goes with what
abbrev all_edges : Signature → Applied → List (Element × Element)
all_edges C S = arrow_edges C S ++ kept_edges C S

-- what goes
abbrev goes : Signature → Applied → Element → Bool
goes C S = reaches is_same (all_edges C S) (goes_first C S)

-- what is left of the host
abbrev pub largest_host : Signature → Applied → Elements
largest_host C S = left_of C (λ object x. goes C S (host_part object x)) (λ c x. goes C S (host_cell c x))

-- what is left of the right side
abbrev pub largest_right : Signature → Applied → Elements
largest_right C S = left_of C (λ object y. goes C S (right_part object y)) (λ c y. goes C S (right_cell c y))

-- lists joined by place contain what the list at a place contains
contains_at_place : {X A : Type 0} (f : ℕ → X → List A) (xs : List X) (k : ℕ) (x : X) (a : A) → slice_get xs k ≡ Some x → Contains (f k x) a → Contains (flat_map_in f 0 xs) a
contains_at_place f xs k x a there within = contains_flat_map_in f 0 xs k x a there (subst (λ (place : ℕ). Contains (f place x) a) (sym (zero-add k)) within)

-- a test that fails where its negation passes
unset_is : (b : Bool) → not b ≡ true → b ≡ false
unset_is true is = let no : ⊥ = cc in absurd no
unset_is false is = refl

module _ (C : Signature) (category : IsCategory C) (S : Applied) (applied : IsApplied C S) where
  -- the element is out
  abbrev NoPairHas : Element → Type 0
  NoPairHas e = NoPairHasAt C S e.sort e.at e.name

  -- with one end of the edge the other is out
  abbrev Carries : Element × Element → Type 0
  Carries edge = NoPairHas edge.0 → NoPairHas edge.1

  -- deleted parts are out
  deleted_out : (e : Element) → Contains (flat_map (deleted_at S) (range_with_len 0 C.objects)) e → NoPairHas e
  deleted_out e there =
      let found = contained_in_flat_map (deleted_at S) (range_with_len 0 C.objects) e there in
      let object : ℕ = found.0 in
      let part = contained_in_map (λ x. host_part object (S.m object x)) (filter (is_deleted S object) (S.left.names object)) e found.2 in
      let own = contained_in_filter (is_deleted S object) (S.left.names object) part.0 part.1 in
      subst NoPairHas part.2 (deleted_goes C S object part.0 (range_below C.objects object found.1) own.0
      (λ z has is. both (list_any (λ z. S.l object z == part.0) (S.keep.names object)) own.1
      (some_at (λ z. S.l object z == part.0) (S.keep.names object) z has (eq-eqb (S.l object z) part.0 is))))
    where
      both : (b : Bool) → not b ≡ true → b ≡ true → ⊥
      both true fails passes = cc
      both false fails passes = cc

  -- cells under set cells are out
  cut_out : (e : Element) → Contains (flat_map_in (cut_at S) 0 C.attributes) e → NoPairHas e
  cut_out e there =
      let found = contained_in_flat_map_in_0 (cut_at S) C.attributes e there in
      let c : ℕ = found.0 in
      let object : ℕ = found.1.object.0 in
      let cell = contained_in_map (λ z. host_cell c (S.m object (S.l object z))) (filter (λ z. S.set c (S.r object z)) (S.keep.names object)) e found.3 in
      let own = contained_in_filter (λ z. S.set c (S.r object z)) (S.keep.names object) cell.0 cell.1 in
      subst NoPairHas cell.2 (set_cell_goes C category S applied c found.1 cell.0 found.2 own.0 own.1)

  -- what goes first is out
  first_out : (e : Element) → Contains (goes_first C S) e → NoPairHas e
  first_out e there =
      elim (Contains-append_cases (flat_map (deleted_at S) (range_with_len 0 C.objects)) (flat_map_in (cut_at S) 0 C.attributes) e there) [
        | inl deleted ↦ deleted_out e deleted
        | inr cut ↦ cut_out e cut
      ]

  -- the edges of the arrows carry
  arrows_carry : (edge : Element × Element) → Contains (arrow_edges C S) edge → Carries edge
  arrows_carry edge there =
      elim (Contains-append_cases (flat_map_in (host_edges S) 0 C.arrows) (flat_map_in (right_edges S) 0 C.arrows) edge there) [
        | inl host ↦
            let found = contained_in_flat_map_in_0 (host_edges S) C.arrows edge host in
            let a : ℕ = found.0 in
            let ends : ArrowEnds = found.1 in
            let part = contained_in_map (λ x. (host_part ends.target.0 (S.host.value a x), host_part ends.source.0 x)) (S.host.names ends.source.0) edge found.3 in
            subst Carries part.2 (source_goes C S a ends part.0 found.2 part.1)
        | inr right ↦
            let found = contained_in_flat_map_in_0 (right_edges S) C.arrows edge right in
            let a : ℕ = found.0 in
            let ends : ArrowEnds = found.1 in
            let part = contained_in_map (λ y. (right_part ends.target.0 (S.right.value a y), right_part ends.source.0 y)) (S.right.names ends.source.0) edge found.3 in
            subst Carries part.2 (right_source_goes C S a ends part.0 found.2 part.1)
      ]

  -- one of two edges
  one_of_two : (first second : Element × Element) → Carries first → Carries second → (edge : Element × Element) → Contains (first ∷ second ∷ []) edge → Carries edge
  one_of_two first second one other =
      first_or_later Carries first (second ∷ []) one (first_or_later Carries second [] other (λ edge there. absurd (omega (arith, there.1))))

  -- the edges of the kept parts carry
  parts_carry : (edge : Element × Element) → Contains (flat_map (λ object. flat_map (part_edges S object) (S.keep.names object)) (range_with_len 0 C.objects)) edge → Carries edge
  parts_carry edge there =
      let found = contained_in_flat_map (λ object. flat_map (part_edges S object) (S.keep.names object)) (range_with_len 0 C.objects) edge there in
      let object : ℕ = found.0 in
      let part = contained_in_flat_map (part_edges S object) (S.keep.names object) edge found.2 in
      let z : ℕ = part.0 in
      let known : object < C.objects = range_below C.objects object found.1 in
      one_of_two (host_part object (S.m object (S.l object z)), right_part object (S.r object z)) (right_part object (S.r object z), host_part object (S.m object (S.l object z)))
      (right_part_goes C S applied object z known part.1) (host_part_goes C S applied object z known part.1) edge part.2

  -- and so do those of their cells
  cells_carry : (edge : Element × Element) → Contains (flat_map_in (λ c ends. flat_map (cell_edges S c ends.object.0) (unset_at S c ends)) 0 C.attributes) edge → Carries edge
  cells_carry edge there =
      let found = contained_in_flat_map_in_0 (λ c (ends : AttrEnds). flat_map (cell_edges S c ends.object.0) (unset_at S c ends)) C.attributes edge there in
      let c : ℕ = found.0 in
      let object : ℕ = found.1.object.0 in
      let cell = contained_in_flat_map (cell_edges S c object) (unset_at S c found.1) edge found.3 in
      let z : ℕ = cell.0 in
      let own = contained_in_filter (λ z. not (S.set c (S.r object z))) (S.keep.names object) z cell.1 in
      let unset : S.set c (S.r object z) ≡ false = unset_is (S.set c (S.r object z)) own.1 in
      one_of_two (host_cell c (S.m object (S.l object z)), right_cell c (S.r object z)) (right_cell c (S.r object z), host_cell c (S.m object (S.l object z)))
      (λ out. (right_cell_goes C category S applied c found.1 z found.2 own.0 unset out, unset))
      (λ out. host_cell_goes C category S applied c found.1 z found.2 own.0 out.0) edge cell.2

  -- all edges carry
  edges_carry : (edge : Element × Element) → Contains (all_edges C S) edge → Carries edge
  edges_carry edge there =
      elim (Contains-append_cases (arrow_edges C S) (kept_edges C S) edge there) [
        | inl arrows ↦ arrows_carry edge arrows
        | inr kept ↦
            elim (Contains-append_cases (flat_map (λ object. flat_map (part_edges S object) (S.keep.names object)) (range_with_len 0 C.objects))
            (flat_map_in (λ c (ends : AttrEnds). flat_map (cell_edges S c ends.object.0) (unset_at S c ends)) 0 C.attributes) edge kept) [
              | inl parts ↦ parts_carry edge parts
              | inr cells ↦ cells_carry edge cells
            ]
      ]

  -- what goes
  module _ (out : Element → Bool) (closed : IsClosure is_same same_is is_itself NoPairHas (all_edges C S) (goes_first C S) out) where
    -- it is out
    is_out : (e : Element) → out e ≡ true → NoPairHas e
    is_out = closed.each first_out edges_carry

    -- along an edge of an arrow it goes on
    along_arrow : (edge : Element × Element) → Contains (arrow_edges C S) edge → out edge.0 ≡ true → out edge.1 ≡ true
    along_arrow edge there = closed.onward edge (Contains-append_left (arrow_edges C S) (kept_edges C S) edge there)

    -- along an edge of a kept part
    along_kept : (edge : Element × Element) → Contains (kept_edges C S) edge → out edge.0 ≡ true → out edge.1 ≡ true
    along_kept edge there = closed.onward edge (Contains-append_right (arrow_edges C S) (kept_edges C S) edge there)

    -- the edges of a kept part are there
    part_edge : (object z : ℕ) → object < C.objects → Has S.keep object z → (edge : Element × Element) → Contains (part_edges S object z) edge → Contains (kept_edges C S) edge
    part_edge object z known has edge there =
        let parts : ℕ → List (Element × Element) = λ object. flat_map (part_edges S object) (S.keep.names object) in
        Contains-append_left (flat_map parts (range_with_len 0 C.objects)) (flat_map_in (λ c (ends : AttrEnds). flat_map (cell_edges S c ends.object.0) (unset_at S c ends)) 0 C.attributes) edge
        (contains_flat_map parts (range_with_len 0 C.objects) object edge (range_has C.objects object known)
        (contains_flat_map (part_edges S object) (S.keep.names object) z edge has there))

    -- and so are those of its cells
    cell_edge : (c : ℕ) (ends : AttrEnds) (z : ℕ) → slice_get C.attributes c ≡ Some ends → Has S.keep ends.object.0 z → S.set c (S.r ends.object.0 z) ≡ false
        → (edge : Element × Element) → Contains (cell_edges S c ends.object.0 z) edge → Contains (kept_edges C S) edge
    cell_edge c ends z is has unset edge there =
        let cells : ℕ → AttrEnds → List (Element × Element) = λ c ends. flat_map (cell_edges S c ends.object.0) (unset_at S c ends) in
        Contains-append_right (flat_map (λ object. flat_map (part_edges S object) (S.keep.names object)) (range_with_len 0 C.objects)) (flat_map_in cells 0 C.attributes) edge
        (contains_at_place cells C.attributes c ends edge is
        (contains_flat_map (cell_edges S c ends.object.0) (unset_at S c ends) z edge
        (contains_filter (λ z. not (S.set c (S.r ends.object.0 z))) (S.keep.names ends.object.0) z has (ap not unset)) there))

    -- nothing more has to go
    goes_closed : IsClosed C S (λ object x. out (host_part object x)) (λ c x. out (host_cell c x)) (λ object y. out (right_part object y)) (λ c y. out (right_cell c y))
    goes_closed = record {
      host_arrows = λ a ends x there has.
          let edge : ℕ → Element × Element = λ x. (host_part ends.target.0 (S.host.value a x), host_part ends.source.0 x) in
          along_arrow (edge x) (Contains-append_left (flat_map_in (host_edges S) 0 C.arrows) (flat_map_in (right_edges S) 0 C.arrows) (edge x)
          (contains_at_place (host_edges S) C.arrows a ends (edge x) there (contains_map edge (S.host.names ends.source.0) x has)));
      right_arrows = λ a ends y there has.
          let edge : ℕ → Element × Element = λ y. (right_part ends.target.0 (S.right.value a y), right_part ends.source.0 y) in
          along_arrow (edge y) (Contains-append_right (flat_map_in (host_edges S) 0 C.arrows) (flat_map_in (right_edges S) 0 C.arrows) (edge y)
          (contains_at_place (right_edges S) C.arrows a ends (edge y) there (contains_map edge (S.right.names ends.source.0) y has)));
      deleted = λ object x known has none.
          let to : ℕ → Element = λ x. host_part object (S.m object x) in
          closed.begins (to x) (Contains-append_left (flat_map (deleted_at S) (range_with_len 0 C.objects)) (flat_map_in (cut_at S) 0 C.attributes) (to x)
          (contains_flat_map (deleted_at S) (range_with_len 0 C.objects) object (to x) (range_has C.objects object known)
          (contains_map to (filter (is_deleted S object) (S.left.names object)) x
          (contains_filter (is_deleted S object) (S.left.names object) x has
          (ap not (none_of (λ z. S.l object z == x) (S.keep.names object) (λ z kept passes. none z kept (eqb-true (S.l object z) x passes))))))));
      parts = λ object z known has.
          let host : Element = host_part object (S.m object (S.l object z)) in
          let right : Element = right_part object (S.r object z) in
          same_test (out host) (out right)
          (along_kept (host, right) (part_edge object z known has (host, right) (contains_here (host, right) ((right, host) ∷ []))))
          (along_kept (right, host) (part_edge object z known has (right, host) (contains_later (host, right) ((right, host) ∷ []) (right, host) (contains_here (right, host) []))));
      set_cells = λ c ends z there has given.
          let to : ℕ → Element = λ z. host_cell c (S.m ends.object.0 (S.l ends.object.0 z)) in
          closed.begins (to z) (Contains-append_right (flat_map (deleted_at S) (range_with_len 0 C.objects)) (flat_map_in (cut_at S) 0 C.attributes) (to z)
          (contains_at_place (cut_at S) C.attributes c ends (to z) there
          (contains_map to (filter (λ z. S.set c (S.r ends.object.0 z)) (S.keep.names ends.object.0)) z
          (contains_filter (λ z. S.set c (S.r ends.object.0 z)) (S.keep.names ends.object.0) z has given))));
      cells = λ c ends z there has unset.
          let object : ℕ = ends.object.0 in
          let host : Element = host_cell c (S.m object (S.l object z)) in
          let right : Element = right_cell c (S.r object z) in
          same_test (out host) (out right)
          (along_kept (host, right) (cell_edge c ends z there has unset (host, right) (contains_here (host, right) ((right, host) ∷ []))))
          (along_kept (right, host) (cell_edge c ends z there has unset (right, host) (contains_later (host, right) ((right, host) ∷ []) (right, host) (contains_here (right, host) []))));
      unset = λ c y passes. (is_out (right_cell c y) passes).1;
    }

    -- and what goes, no fitting pair has
    goes_excluded : IsExcluded C S (λ object x. out (host_part object x)) (λ c x. out (host_cell c x)) (λ object y. out (right_part object y)) (λ c y. out (right_cell c y))
    goes_excluded = record {
      parts = λ object x known has passes. is_out (host_part object x) passes;
      cells = λ c ends x there has passes. is_out (host_cell c x) passes;
      right_parts = λ object y known has passes. is_out (right_part object y) passes;
      right_cells = λ c ends y there has passes. (is_out (right_cell c y) passes).0;
    }

  -- they are the largest fitting pair
  pub largest_is : IsLargestPair C S (largest_host C S) (largest_right C S)
  largest_is =
      let closed : IsClosure is_same same_is is_itself NoPairHas (all_edges C S) (goes_first C S) (goes C S) = closure is_same same_is is_itself NoPairHas (all_edges C S) (goes_first C S) in
      largest_from_removal C category S applied (λ object x. goes C S (host_part object x)) (λ c x. goes C S (host_cell c x))
      (λ object y. goes C S (right_part object y)) (λ c y. goes C S (right_cell c y)) (goes_closed (goes C S) closed) (goes_excluded (goes C S) closed)
