use Rattle.std.proofs.Common.{◌≡◌, ◌<◌, ◌^◌, ℕ, List, [], ◌∷◌, length, Bool, true, false, nat_le, ◌&&◌, if◌then◌else◌, Some, None, Result, Ok, Err, refl, sym, ◌∙◌, arith}
use Rattle.std.specs.Result.{result_ok}
use Rattle.std.specs.Str.{all_ascii_digits}
use Rattle.std.specs.Str.Parse.{ParsesUnsigned, digits_value}
use Rattle.std.proofs.lemmas.Bool.Decides.{nat_tests}
use Rattle.std.proofs.lemmas.Str.Parse.{numerals_by_value, tells_all_ascii_digits, parse_digits}
use Rattle.rw_app.specs.Commands.{is_numeral}
use Rattle.rw_app.proofs.number.number_within.Goals as goal

-- no number is answered where it does not fit
unfit : (numeral fits : Bool) (number : ℕ) → fits ≡ false → (if numeral && fits then Some number else None) ≡ None
unfit true fits number greater = rw greater refl
unfit false fits number greater = refl

-- a numeral that is not parsed is that of a greater number
too_great : {E : Type 0} (most : ℕ) (word : List ℕ) (parsed : Result ℕ E) → ParsesUnsigned 64 10 word parsed → result_ok parsed ≡ None
    → is_numeral word ≡ true → most < 2 ^ 64 → nat_le (digits_value 10 word) most ≡ false
too_great most word (Ok number) parses none numeral small = absurd (cc)
too_great most [] (Err error) parses none numeral small = absurd (cc)
too_great most (byte ∷ bytes) (Err error) parses none numeral small =
    let word = byte ∷ bytes in
    let digits : all_ascii_digits word ≡ true = grind arith in
    let fails : (0 < length word) × (digits_value 10 word < 2 ^ 64) → ⊥ =
    parse_digits (numerals_by_value (λ text. all_ascii_digits text ≡ true) tells_all_ascii_digits) 64 word (Err error) parses digits in
    grind (arith, nat_tests)

pub returns-in_err-number-clause-value : goal.returns-in_err-number-clause-value
returns-in_err-number-clause-value c =
    let word = c.args.word.now in
    let none : result_ok c.parse.result ≡ None = sym c.in_err-number.ensures.value in
    let numeral : is_numeral word ≡ true = sym c.is_numeral.ensures ∙ c.if-not-is_numeral.false in
    let greater : nat_le (digits_value 10 word) c.args.most ≡ false = too_great c.args.most word c.parse.result c.parse.ensures.value.0 none numeral (omega arith) in
    c.from_residual.ensures ∙ sym (unfit (is_numeral word) (nat_le (digits_value 10 word) c.args.most) (digits_value 10 word) greater)
