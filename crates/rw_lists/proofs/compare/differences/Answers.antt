use Rattle.std.proofs.Common.{◌≡◌, ◌<◌, ◌+◌, ◌++◌, ℕ, List, [], map, take, length, get_or, sym, ap, ◌∙◌, arith}
use Rattle.std.proofs.lemmas.List.{length-map, get_or-map}
use Rattle.rw_schema.specs.First.{flat_map_in}
use Rattle.rw_schema.specs.RowLists.{list_at}
use Rattle.rw_spec.proofs.Sequences.{flat_map_in_more}
use Rattle.rw_lists.specs.News.{numbered, difference, lists_of_news, news_at}
use Rattle.rw_lists.proofs.compare.differences.Goals as goal

-- the list that a vector among others has
list_there : {X : Type 0} (items : X → List (List ℕ)) (vectors : List X) (i : ℕ) (vector : X) → i < length vectors → vector ≡ get_or vectors i vector
    → list_at (map items vectors) i ≡ items vector
list_there items vectors i vector within is = get_or-map items vectors i vector [] within ∙ ap items (sym is)

pub loop-number-preserved : goal.loop-number-preserved
loop-number-preserved c =
    let befores : List (List (List ℕ)) = map (λ list. list.items) c.args.before.now in
    let afters : List (List (List ℕ)) = map (λ list. list.items) c.args.after.now in
    let i : ℕ = c.loop-number.number in
    let before : c.as_slice.result.now ≡ list_at befores i =
    c.as_slice.ensures.value ∙ sym (list_there (λ list. list.items) c.args.before.now i c.index-before-number.result (omega arith) c.index-before-number.is) in
    let after : c.as_slice-in-loop-number.result.now ≡ list_at afters i =
    c.as_slice-in-loop-number.ensures.value ∙ sym (list_there (λ list. list.items) c.args.after.now i c.index-after-number.result (omega arith) c.index-after-number.is) in
    let news : lists_of_news c.in_ok-news.news ≡ difference (list_at befores i) (list_at afters i) = rw (← before, ← after) c.in_ok-news.ensures in
    let more : flat_map_in (news_at afters) 0 (take (i + 1) befores) ≡ flat_map_in (news_at afters) 0 (take i befores) ++ numbered i (difference (list_at befores i) (list_at afters i)) =
    flat_map_in_more (news_at afters) befores i [] (rw (length-map c.args.before.now (λ list. list.items)) c.loop-number-test.true) in
    c.in_ok-push_changed.ensures
    ∙ ap (λ passed. passed ++ numbered i (lists_of_news c.in_ok-news.news)) c.loop-number.invariant
    ∙ ap (λ news. flat_map_in (news_at afters) 0 (take i befores) ++ numbered i news) news
    ∙ sym more
