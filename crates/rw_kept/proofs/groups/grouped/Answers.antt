-- Of no tuples each group is empty.
use Rattle.std.proofs.Common.{◌≡◌, ◌∙◌, [], ℕ, List, length, map, get_or, ap, Vec, Global}
use Rattle.std.proofs.lemmas.List.{length-map, get_or-map}
use Rattle.rw_kept.proofs.groups.grouped.Goals as goal

pub add_tuples-requires-clause-groups : goal.add_tuples-requires-clause-groups
add_tuples-requires-clause-groups c =
    let items = λ (group : Vec (List ℕ) Global). group.items in
    let matches = c.args.matches.now in
    let groups : map items c.as_mut_slice.result.now ≡ map (λ (tuple : List ℕ). []) matches = ap (map items) c.as_mut_slice.ensures.value ∙ c.in_ok-groups.ensures in
    record {
      count = ap length groups ∙ length-map matches (λ (tuple : List ℕ). []);
      each = λ k below. ap (λ (all : List (List (List ℕ))). get_or all k []) groups ∙ get_or-map (λ (tuple : List ℕ). []) matches k [] [] below;
    }
