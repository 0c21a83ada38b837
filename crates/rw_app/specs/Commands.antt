-- The commands, and the words that ask for them.
use Rattle.std.specs.Prelude.{◌==◌, ℕ, ◌-◌, ◌^◌, Bool, ◌&&◌, ◌||◌, nat_le, nat_lt, length, slice_index, List, [], ◌∷◌, ◌++◌, codes, Option, Some, None, option_and_then, option_map, if◌then◌else◌}
use Rattle.std.specs.Str.{bytes_eq, all_ascii_digits}
use Rattle.std.specs.Str.Parse.{digits_value}
use Rattle.rw_schema.specs.First.{or_else}
use Rattle.rw_app.specs.declared.command.Command.{Command}
use Rattle.rw_app.specs.declared.command.Command.TheVariants.{Matches, Run, Check, Pushout, Pullback}

-- what is asked for
pub data Request : Type 0 where
  -- the matches of the rule or the watch with this name
  matches : List ℕ → Request
  -- a run with so much fuel, by the stream of this seed
  run : ℕ → ℕ → Request
  -- the lengths of the kept lists and the numbers of parts
  check : Request
  -- the pushout of the span
  pushout : Request
  -- the pullback of the cospan
  pullback : Request

-- what a command asks for
abbrev pub asked_for : Command → Request
asked_for (Matches name) = matches name.now
asked_for (Run fuel seed) = run fuel seed
asked_for Check = check
asked_for Pushout = pushout
asked_for Pullback = pullback

-- a numeral in base ten: digits alone, and no zero before another digit
abbrev pub is_numeral : List ℕ → Bool
is_numeral word = all_ascii_digits word && (length word == 1 || nat_lt 48 (slice_index word 0))

-- the number of at most so much that a word is the numeral of
abbrev pub number_within : ℕ → List ℕ → Option ℕ
number_within most word = if is_numeral word && nat_le (digits_value 10 word) most then Some (digits_value 10 word) else None

abbrev pub fuel_of : List ℕ → Option ℕ
fuel_of word = number_within 1000000 word

abbrev pub seed_of : List ℕ → Option ℕ
seed_of word = number_within (2 ^ 64 - 1) word

-- the fuel of a run where no other is asked for
abbrev pub usual_fuel : ℕ
usual_fuel = 1000

-- one option and its number
abbrev pub with_option : List ℕ → List ℕ → Option Request
with_option option number =
    if bytes_eq option (codes "--fuel") then option_map (λ fuel. run fuel 0) (fuel_of number)
    else if bytes_eq option (codes "--seed") then option_map (run usual_fuel) (seed_of number)
    else None

-- both options and their numbers
abbrev pub with_both : List ℕ → List ℕ → List ℕ → List ℕ → Option Request
with_both first fuel second seed =
    if bytes_eq first (codes "--fuel") && bytes_eq second (codes "--seed")
    then option_and_then (λ fuel. option_map (run fuel) (seed_of seed)) (fuel_of fuel) else None

-- what is asked for, where the word is that of the command
abbrev pub where_word : List ℕ → List ℕ → Option Request → Option Request
where_word command word request = if bytes_eq word command then request else None

-- what one word asks for
abbrev pub with_word : List ℕ → Option Request
with_word word =
    or_else (where_word (codes "run") word (Some (run usual_fuel 0)))
    (or_else (where_word (codes "check") word (Some check))
    (or_else (where_word (codes "pushout") word (Some pushout)) (where_word (codes "pullback") word (Some pullback))))

-- what the words ask for: `matches NAME`, `run [--fuel N] [--seed N]`, `check`, `pushout` or `pullback`
abbrev pub request_of : List (List ℕ) → Option Request
request_of [] = None
request_of (word ∷ []) = with_word word
request_of (word ∷ name ∷ []) = where_word (codes "matches") word (Some (matches name))
request_of (word ∷ option ∷ number ∷ []) = where_word (codes "run") word (with_option option number)
request_of (word ∷ first ∷ fuel ∷ second ∷ []) = None
request_of (word ∷ first ∷ fuel ∷ second ∷ seed ∷ []) = where_word (codes "run") word (with_both first fuel second seed)
request_of (word ∷ first ∷ fuel ∷ second ∷ seed ∷ other ∷ others) = None

-- the line that is written where the words ask for nothing
abbrev pub usage : List ℕ
usage = codes "usage: rewrite matches NAME | run [--fuel N] [--seed N] | check | pushout | pullback | sample N" ++ 10 ∷ []
