-- What was written of a text so far.
use Rattle.std.specs.Prelude.{◌≡◌, ◌<◌, ℕ, List, ◌+◌, ◌++◌, length, take, drop, Option}
use Rattle.std.specs.Io.KnownBytes.{Appends, Keeps}
use Rattle.std.proofs.KnownBytes.{Appends-trans, Appends-kept}
use Rattle.std.proofs.Common.{sym, ap, ◌∙◌, append_assoc, take-append-drop, arith, length-append}
use Rattle.std.proofs.Math.Seq.{take-append_seam}

-- a front of the text was appended, and the rest is left
pub record IsWritten (held now : Option (List ℕ)) (text rest : List ℕ) : Type 0 where
  pub front : List ℕ
  pub text_is : text ≡ front ++ rest
  pub appended : Appends held now front

-- the next bytes of the rest were appended too
pub written_more : (held between now : Option (List ℕ)) (text rest : List ℕ) (count : ℕ) → IsWritten held between text rest
    → Appends between now (take count rest) → IsWritten held now text (drop count rest)
written_more held between now text rest count so_far next = record {
  front = so_far.front ++ take count rest;
  text_is = so_far.text_is ∙ ap (λ back. so_far.front ++ back) (sym (take-append-drop count rest)) ∙ sym (append_assoc so_far.front (take count rest) (drop count rest));
  appended = Appends-trans held between now so_far.front (take count rest) so_far.appended next;
}

-- where a rest is left, a beginning that is not the whole was appended
pub written_part : (held between now : Option (List ℕ)) (text rest : List ℕ) → IsWritten held between text rest → 0 < length rest
    → Keeps between now → (count : ℕ) × (count < length text) × Appends held now (take count text)
written_part held between now text rest so_far some kept =
    let size : length text ≡ length so_far.front + length rest = ap length so_far.text_is ∙ length-append so_far.front rest in
    let front_is : take (length so_far.front) text ≡ so_far.front = ap (take (length so_far.front)) so_far.text_is ∙ take-append_seam so_far.front rest in
    (length so_far.front, omega arith, rw front_is (Appends-kept held between now so_far.front so_far.appended kept))
