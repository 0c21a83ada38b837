use Rattle.std.proofs.Common.{◌≢◌, ℕ, List, map, codes, string_bytes}
use Rattle.rw_app.proofs.Words.{no_command}
use Rattle.rw_app.proofs.command.command_of.Goals as goal

pub returns-in_default : goal.returns-in_default
returns-in_default c =
    let word : List ℕ = string_bytes c.in_ok-word.word.now in
    let others : List (List ℕ) = map string_bytes c.in_ok-word.others.now in
    let no_matches : word ≢ codes "matches" = rw c.as_str.ensures.value at c.in_default.not-matches in
    let no_run : word ≢ codes "run" = rw c.as_str.ensures.value at c.in_default.not-run in
    let no_check : word ≢ codes "check" = rw c.as_str.ensures.value at c.in_default.not-check in
    let no_pushout : word ≢ codes "pushout" = rw c.as_str.ensures.value at c.in_default.not-pushout in
    let no_pullback : word ≢ codes "pullback" = rw c.as_str.ensures.value at c.in_default.not-pullback in
    rw (← c.as_slice.ensures.value, c.in_ok-word.ensures.cases.0) (no_command word others no_matches no_run no_check no_pushout no_pullback)
