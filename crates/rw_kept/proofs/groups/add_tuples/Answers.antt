-- A tuple goes to the group of what it extends, where that is a match.
use Rattle.std.proofs.Common.{◌≡◌, ◌∙◌, ◌<◌, ◌+◌, [], ℕ, List, Option, Some, None, IfSome, MatchOption, Contains, map, take, length, slice_index, get_or, sym, ap, subst, Vec, Global}
use Rattle.std.specs.Str.{bytes_eq}
use Rattle.std.proofs.lemmas.List.{length-map, get_or_default}
use Rattle.rw_kept.specs.inner.Groups.{AreGroups, put_at, tuple_at}
use Rattle.rw_kept.proofs.Grouped.{groups_put}
use Rattle.rw_kept.proofs.groups.add_tuples.Goals as goal

-- a place among the matches is one among the groups
among_groups : (matches : List (List ℕ)) (x : List ℕ) (place : Option ℕ) (n : ℕ) → n ≡ length matches
    → MatchOption place (Contains matches x → ⊥) (λ place. (place < length matches) × (tuple_at matches place ≡ x)) → IfSome place (λ place. place < n)
among_groups matches x None n long missing = tt
among_groups matches x (Some place) n long found = subst (λ n. place < n) (sym long) found.0

pub add_found-requires : goal.add_found-requires
add_found-requires c =
    let items = λ (group : Vec (List ℕ) Global). group.items in
    among_groups c.args.matches.now c.in_ok-extended.extended c.place_of.result (length c.loop-tuple.groups)
    (sym (length-map c.loop-tuple.groups items) ∙ c.loop-tuple.invariant.count) c.place_of.ensures

pub loop-tuple-preserved : goal.loop-tuple-preserved
loop-tuple-preserved c =
    let items = λ (group : Vec (List ℕ) Global). group.items in
    let tuples = c.args.tuples.now in
    let matches = c.args.matches.now in
    let k = c.loop-tuple.tuple-index in
    let names = λ (q : List ℕ). map (slice_index q) c.args.places.now in
    let tuple : c.tuple-item.result ≡ get_or tuples k [] = c.tuple-item.is ∙ get_or_default tuples k c.tuple-item.result [] c.loop-tuple-test.true in
    let extended : c.in_ok-extended.extended ≡ names (get_or tuples k []) = c.in_ok-extended.ensures ∙ ap names (c.names.ensures ∙ tuple) in
    let place : MatchOption c.place_of.result (Contains matches (names (get_or tuples k [])) → ⊥) (λ place. (place < length matches) × (tuple_at matches place ≡ names (get_or tuples k []))) =
    subst (λ (x : List ℕ). MatchOption c.place_of.result (Contains matches x → ⊥) (λ place. (place < length matches) × (tuple_at matches place ≡ x))) extended c.place_of.ensures in
    subst (AreGroups (λ m q. bytes_eq (names q) m) (take (k + 1) tuples) matches)
    (sym (c.in_ok-add_found.ensures ∙ ap (put_at (map items c.loop-tuple.groups) c.place_of.result) (c.in_ok-copy.ensures ∙ tuple)))
    (groups_put names tuples matches k c.loop-tuple-test.true (map items c.loop-tuple.groups) c.place_of.result c.requires.ascend place c.loop-tuple.invariant)
