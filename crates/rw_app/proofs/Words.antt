-- Words that are those of no command.
use Rattle.std.proofs.Common.{◌≡◌, ◌≢◌, ℕ, false, List, [], ◌∷◌, length, codes, None, refl}
use Rattle.std.specs.Str.{bytes_eq}
use Rattle.std.proofs.lemmas.Bool.{false_from_ne_true}
use Rattle.std.proofs.lemmas.Slice.Eq.{bytes_eq-Decides}
use Rattle.rw_app.specs.Commands.{request_of}

-- behind `run` stand none, two or four words
pub no_run : (words : List (List ℕ)) → length words ≢ 0 → length words ≢ 2 → length words ≢ 4 → None ≡ request_of (codes "run" ∷ words)
no_run [] some two four = absurd (some refl)
no_run (first ∷ []) some two four = refl
no_run (first ∷ second ∷ []) some two four = absurd (two refl)
no_run (first ∷ second ∷ third ∷ []) some two four = refl
no_run (first ∷ second ∷ third ∷ fourth ∷ []) some two four = absurd (four refl)
no_run (first ∷ second ∷ third ∷ fourth ∷ fifth ∷ more) some two four = refl

-- the words of a command begin with its own
no_words : (word : List ℕ) (others : List (List ℕ)) → bytes_eq word (codes "matches") ≡ false → bytes_eq word (codes "run") ≡ false
    → bytes_eq word (codes "check") ≡ false → bytes_eq word (codes "pushout") ≡ false → bytes_eq word (codes "pullback") ≡ false
    → None ≡ request_of (word ∷ others)
no_words word [] matches run check pushout pullback = rw (run, check, pushout, pullback) refl
no_words word (first ∷ []) matches run check pushout pullback = rw matches refl
no_words word (first ∷ second ∷ []) matches run check pushout pullback = rw run refl
no_words word (first ∷ second ∷ third ∷ []) matches run check pushout pullback = refl
no_words word (first ∷ second ∷ third ∷ fourth ∷ []) matches run check pushout pullback = rw run refl
no_words word (first ∷ second ∷ third ∷ fourth ∷ fifth ∷ more) matches run check pushout pullback = refl

-- a word that is not that of a command has not its bytes
other_bytes : (word command : List ℕ) → word ≢ command → bytes_eq word command ≡ false
other_bytes word command other = false_from_ne_true (bytes_eq word command) (λ same. other ((bytes_eq-Decides word command).0 same))

-- a first word that is that of no command asks for nothing
pub no_command : (word : List ℕ) (others : List (List ℕ)) → word ≢ codes "matches" → word ≢ codes "run" → word ≢ codes "check"
    → word ≢ codes "pushout" → word ≢ codes "pullback" → None ≡ request_of (word ∷ others)
no_command word others matches run check pushout pullback =
    no_words word others (other_bytes word (codes "matches") matches) (other_bytes word (codes "run") run) (other_bytes word (codes "check") check)
    (other_bytes word (codes "pushout") pushout) (other_bytes word (codes "pullback") pullback)
