-- What the search of ascending tuples answers is the place.
use Rattle.std.proofs.Common.{◌≡◌, ◌<◌, ℕ, Option, MatchOption, Contains, length, sym, subst}
use Rattle.rw_kept.specs.inner.Groups.{tuple_at}
use Rattle.rw_kept.proofs.Placed.{placed}
use Rattle.rw_kept.proofs.groups.place_of.Goals as goal

pub returns : goal.returns
returns c =
    let xs = c.args.matches.now in
    let x = c.args.tuple.now in
    subst (λ (o : Option ℕ). MatchOption o (Contains xs x → ⊥) (λ place. (place < length xs) × (tuple_at xs place ≡ x))) (sym c.ok.ensures.value)
    (placed xs c.requires x c.binary_search.result c.binary_search.ensures.position)
