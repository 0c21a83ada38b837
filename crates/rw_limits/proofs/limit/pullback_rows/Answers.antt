-- Each list is what the contract says.
use Rattle.std.proofs.Common.{◌∙◌, ℕ, List, length, sym, Vec, Global}
use Rattle.std.specs.List.{range_with_len}
use Rattle.rw_limits.proofs.GivenPairs.{map_map}
use Rattle.rw_limits.proofs.limit.pullback_rows.Goals as goal

pub returns : goal.returns
returns c =
    let items = λ (list : Vec (ℕ × ℕ) Global). list.items in
    let pairs = c.args.pairs.now in
    let names = c.in_ok-names.ensures ∙ sym (map_map (λ (list : List (ℕ × ℕ)). range_with_len 0 (length list)) items pairs) in
    let next = c.in_ok-counts.ensures ∙ sym (map_map (λ (list : List (ℕ × ℕ)). length list) items pairs) in
    c.from_lists.ensures ∙ (λ i. record { names = names i; arrows = c.in_ok-rows.ensures i; cells = c.in_ok-cells.ensures i; next = next i })
