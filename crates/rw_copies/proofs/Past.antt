-- What copies take of the names of one object is the same in each whole context, as soon as the objects that its arrows lead to have
-- been placed.
use Rattle.std.proofs.Common.{◌≡◌, ◌∙◌, ◌<◌, ◌+◌, ◌==◌, ℕ, cond, List, ◌∷◌, Contains, Some, length, slice_get, refl, sym}
use Rattle.std.proofs.lemmas.Bool.{eq-eqb}
use Rattle.rw_schema.specs.declared.ids.ObjectId.{ObjectId}
use Rattle.rw_schema.specs.declared.signature.ArrowEnds.{ArrowEnds}
use Rattle.rw_schema.specs.Signature.{Signature, IsCategory}
use Rattle.rw_schema.specs.Topological.{IsTopological}
use Rattle.rw_spec.specs.Instance.{Instance}
use Rattle.rw_spec.specs.Natural.{Map}
use Rattle.rw_spec.proofs.Sequences.{contains_here}
use Rattle.rw_spec.specs.Redex.{Redex}
use Rattle.rw_copies.specs.Copying.{IsRank, IsCopying}
use Rattle.rw_copies.specs.CopyLists.{more_parts}
use Rattle.rw_copies.specs.CopyNames.{IsCopyContext}
use Rattle.rw_copies.specs.Laws.{IsNamedMatch}
use Rattle.rw_copies.specs.Order.{ArePlacedSoFar, place_in}
use Rattle.rw_copies.proofs.Context.{one_more, context_from}
use Rattle.rw_copies.proofs.Context as context
use Rattle.rw_copies.proofs.Named.{context_once}
use Rattle.rw_copies.proofs.Order.{in_order, numbers_of, order_covers, others_than, rank_from_order, rest_covers, rest_in_order}

module _ (C : Signature) (category : IsCategory C) (order : List ObjectId) (topological : IsTopological C order) (R : Redex) (next : ℕ → ℕ) (named : IsNamedMatch C R next) where
  ranked : IsRank C (place_in order)
  ranked = rank_from_order C order topological

  -- what has been placed is part of a whole context
  whole : (before : List ℕ) (D : Instance) (k e : Map) (last : ℕ → ℕ) → ArePlacedSoFar C R next before D k e last
      → (E : Instance) × (j : Map) × (i : Map) × (end : ℕ → ℕ) × IsCopying C R E j i × IsCopyContext C R next E j i end × ((object : ℕ) → Contains before object → end object ≡ last object)
  whole before D k e last so_far =
      context_from C category (place_in order) ranked R named.match next named.host_ascends named.keep_ascends named.below before (others_than before (numbers_of order)) D k e last so_far
      (rest_in_order C (numbers_of order) before (in_order C order topological))
      (λ object below. rest_covers (numbers_of order) before object (order_covers C order topological object below))

  -- what has been placed is each context's
  pub last_in_context : (before : List ℕ) (D : Instance) (k e : Map) (last : ℕ → ℕ) → ArePlacedSoFar C R next before D k e last
      → (object : ℕ) → object < C.objects → Contains before object → (E : Instance) (j i : Map) (end : ℕ → ℕ) → IsCopyContext C R next E j i end → end object ≡ last object
  last_in_context before D k e last so_far object below placed E j i end is_context =
      let made = whole before D k e last so_far in
      let same = context_once C category (place_in order) ranked R named.match next named.below made.0 made.1 made.2 made.3 made.4 made.5.names E j i end is_context in
      sym (same.next object below) ∙ made.6 object placed

  -- each context gives the object as many names as the list over what has been placed says
  pub taken_in_context : (before : List ℕ) (D : Instance) (k e : Map) (last : ℕ → ℕ) → ArePlacedSoFar C R next before D k e last
      → (object : ℕ) → object < C.objects → (Contains before object → ⊥)
      → ((a : ℕ) (ends : ArrowEnds) → slice_get C.arrows a ≡ Some ends → ends.source.0 ≡ object → Contains before ends.target.0)
      → (E : Instance) (j i : Map) (end : ℕ → ℕ) → IsCopyContext C R next E j i end → end object ≡ next object + length (more_parts C R D e object)
  taken_in_context before D k e last so_far object below new targets E j i end is_context =
      let last_here : ℕ → ℕ = λ o. cond (o == object) (next object + length (more_parts C R D e object)) (last o) in
      let own : last_here object ≡ next object + length (more_parts C R D e object) = rw (eq-eqb object object refl) refl in
      last_in_context (object ∷ before)
      (context.E C category (place_in order) ranked R named.match next named.host_ascends named.keep_ascends named.below before D k e last so_far object below new targets)
      (context.j C category (place_in order) ranked R named.match next named.host_ascends named.keep_ascends named.below before D k e last so_far object below new targets)
      (context.i C category (place_in order) ranked R named.match next named.host_ascends named.keep_ascends named.below before D k e last so_far object below new targets)
      last_here
      (one_more C category (place_in order) ranked R named.match next named.host_ascends named.keep_ascends named.below before D k e last so_far object below new targets)
      object below (contains_here object before) E j i end is_context
      ∙ own
