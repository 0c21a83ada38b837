-- The name of an item is tested against the names before it, and then put behind them.
use Rattle.std.proofs.Common.{◌≡◌, ℕ, ◌+◌, ◌<◌, ◌∙◌, true, false, List, [], ◌∷◌, ◌++◌, ap, sym, refl, length, get_or, map, take}
use Rattle.std.specs.List.{list_any}
use Rattle.std.specs.Str.{bytes_eq}
use Rattle.std.proofs.lemmas.List.{map_more}
use Rattle.rw_schema.proofs.Schemas.{twice_here, twice_next}
use Rattle.rw_schema.proofs.schema.index_names.Goals as goal

-- the names of the items passed, with one more
names_more : {X : Type 0} (name : X → List ℕ) (items : List X) (names : List (List ℕ)) (i : ℕ) (x : X)
    → names ≡ map name (take i items) → i < length items → x ≡ get_or items i x → names ++ name x ∷ [] ≡ map name (take (i + 1) items)
names_more name items names i x are within is = rw (map_more name items i x within, ← is, are) refl

pub returns-then-has : goal.returns-then-has
returns-then-has g c =
    let name = g.T.Named.name_of in
    let item = c.index-items-place.result in
    let same : c.as_str-name.result.now ≡ name item = c.as_str-name.ensures ∙ c.name.ensures in
    let among : list_any (bytes_eq (name item)) c.loop-place.names ≡ true = rw (← same) (sym c.has.ensures ∙ c.if-has.true) in
    c.loop-place.invariant.left
    ∙ twice_here name c.args.section c.args.items.now c.loop-place.names c.loop-place.place item c.loop-place.invariant.passed c.loop-place-test.true c.index-items-place.is among

pub loop-place-preserved : goal.loop-place-preserved
loop-place-preserved g c =
    let name = g.T.Named.name_of in
    let item = c.index-items-place.result in
    let same : c.as_str-name.result.now ≡ name item = c.as_str-name.ensures ∙ c.name.ensures in
    let missing : list_any (bytes_eq (name item)) c.loop-place.names ≡ false = rw (← same) (sym c.has.ensures ∙ c.if-has.false) in
    record {
      passed = c.in_ok-push.ensures.ok ∙ ap (λ bytes. c.loop-place.names ++ bytes ∷ []) same
          ∙ names_more name c.args.items.now c.loop-place.names c.loop-place.place item c.loop-place.invariant.passed c.loop-place-test.true c.index-items-place.is;
      left = c.loop-place.invariant.left
          ∙ twice_next name c.args.section c.args.items.now c.loop-place.names c.loop-place.place item c.loop-place.invariant.passed c.loop-place-test.true c.index-items-place.is missing;
    }
