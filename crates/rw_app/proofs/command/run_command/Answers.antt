use Rattle.std.proofs.Common.{◌≡◌, List, ℕ, map, length, string_bytes, arith}
use Rattle.std.proofs.lemmas.List.{length-map}
use Rattle.std.proofs.lemmas.Bool.{ltb-true, ltb-false}
use Rattle.rw_app.proofs.Words.{no_run}
use Rattle.rw_app.proofs.command.run_command.Goals as goal
use Rattle.rw_app.proofs.command.run_command.Goals.{in_default-via-then-words-lt2, in_default-via-else-words-lt2+else-words-lt3+then-words-lt4, in_default-via-else-words-lt2+else-words-lt3+else-words-lt4+else-words-lt5}

pub returns-in_default : goal.returns-in_default
returns-in_default c =
    let words : List (List ℕ) = map string_bytes c.args.words.now in
    let same : length words ≡ length c.args.words.now = length-map c.args.words.now string_bytes in
    elim c.in_default.branch [
      | in_default-via-then-words-lt2 w ↦ no_run words (λ none. omega (arith, ltb-false)) (λ two. omega (arith, ltb-true)) (λ four. omega (arith, ltb-true))
      | in_default-via-else-words-lt2+else-words-lt3+then-words-lt4 w ↦ no_run words (λ none. omega (arith, ltb-false)) (λ two. omega (arith, ltb-false)) (λ four. omega (arith, ltb-true))
      | in_default-via-else-words-lt2+else-words-lt3+else-words-lt4+else-words-lt5 w ↦ no_run words (λ none. omega (arith, ltb-false)) (λ two. omega (arith, ltb-false)) (λ four. omega (arith, ltb-false))
    ]
