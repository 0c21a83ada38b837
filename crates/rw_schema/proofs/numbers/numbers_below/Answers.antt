-- One number more.
use Rattle.std.proofs.Common.{◌≡◌, ◌∙◌, ℕ, ◌+◌, [], ◌∷◌, ◌++◌, ap, sym, zero-add, arith}
use Rattle.std.specs.List.{range_with_len}
use Rattle.std.proofs.lemmas.Grind.{common_steps}
use Rattle.std.proofs.lemmas.List.{map-id}
use Rattle.std.proofs.lemmas.List.FromFn.{map-range_with_len_more}
use Rattle.rw_schema.proofs.numbers.numbers_below.Goals as goal

-- the numbers from 0 with one more
range_more : (n : ℕ) → range_with_len 0 (n + 1) ≡ range_with_len 0 n ++ n ∷ []
range_more n =
    sym (map-id (range_with_len 0 (n + 1))) ∙ map-range_with_len_more (λ x. x) 0 n n (zero-add n) ∙ ap (λ numbers. numbers ++ n ∷ []) (map-id (range_with_len 0 n))

pub loop-number-preserved : goal.loop-number-preserved
loop-number-preserved c =
    let number = c.loop-number.number in
    let pushed : c.push.new.self.items ≡ c.loop-number.numbers.items ++ number ∷ [] = grind (arith, common_steps) in
    pushed ∙ ap (λ numbers. numbers ++ number ∷ []) c.loop-number.invariant ∙ sym (range_more number)
