-- What was sent of a text, of which the rest waits.
use Rattle.std.specs.Prelude.{◌≡◌, ◌≤◌, ◌<◌, ℕ, List, [], ◌+◌, ◌++◌, length, take, drop, Option, Some, None, Err, Ok, Result}
use Rattle.std.specs.Io.KnownBytes.{Appends, Keeps}
use Rattle.std.proofs.KnownBytes.{Appends-trans, Appends-kept}
use Rattle.std.proofs.Common.{refl, sym, ap, ◌∙◌, subst, append_assoc, append-nil, take-append-drop, arith, length-append}
use Rattle.std.proofs.Math.Seq.{take-append_seam}
use Rattle.std.proofs.lemmas.List.{take_at, length-take-le, take-append-le}
use Rattle.rw_outside.specs.declared.writing.WriteEnd.{WriteEnd}
use Rattle.rw_outside.specs.declared.writing.WriteEnd.TheVariants.{Fault}
use Rattle.rw_outside.specs.Writing.{WritesAll, IsSent, WritesOn}

-- nothing was appended yet
pub none_sent : (text : List ℕ) (held : Option (List ℕ)) → IsSent text held held text
none_sent text None = record { front = []; text_is = refl; appended = tt }
none_sent text (Some bytes) = record { front = []; text_is = refl; appended = sym (append-nil bytes) }

-- more text was put behind the bytes that wait
pub sent_more : (text more : List ℕ) (held between now : Option (List ℕ)) (waiting left : List ℕ)
    → IsSent text held between waiting → IsSent (waiting ++ more) between now left → IsSent (text ++ more) held now left
sent_more text more held between now waiting left sent next = record {
  front = sent.front ++ next.front;
  text_is = ap (λ front. front ++ more) sent.text_is ∙ append_assoc sent.front waiting more ∙ ap (λ back. sent.front ++ back) next.text_is
      ∙ sym (append_assoc sent.front next.front left);
  appended = Appends-trans held between now sent.front next.front sent.appended next.appended;
}

-- a beginning of the bytes that wait and of more text was appended: it is a beginning of the whole
pub sent_part : (text more : List ℕ) (held between now : Option (List ℕ)) (waiting : List ℕ) (count : ℕ)
    → IsSent text held between waiting → count < length (waiting ++ more) → Appends between now (take count (waiting ++ more))
    → (place : ℕ) × (place < length (text ++ more)) × Appends held now (take place (text ++ more))
sent_part text more held between now waiting count sent short part =
    let whole : text ++ more ≡ sent.front ++ (waiting ++ more) = ap (λ front. front ++ more) sent.text_is ∙ append_assoc sent.front waiting more in
    let size : length (text ++ more) ≡ length sent.front + length (waiting ++ more) = ap length whole ∙ length-append sent.front (waiting ++ more) in
    let cut : waiting ++ more ≡ take count (waiting ++ more) ++ drop count (waiting ++ more) = sym (take-append-drop count (waiting ++ more)) in
    let long : length (take count (waiting ++ more)) ≡ count = length-take-le count (waiting ++ more) (omega (arith, short)) in
    let both : text ++ more ≡ (sent.front ++ take count (waiting ++ more)) ++ drop count (waiting ++ more) =
    whole ∙ ap (λ back. sent.front ++ back) cut ∙ sym (append_assoc sent.front (take count (waiting ++ more)) (drop count (waiting ++ more))) in
    let place : length (sent.front ++ take count (waiting ++ more)) ≡ length sent.front + count =
    length-append sent.front (take count (waiting ++ more)) ∙ ap (λ n. length sent.front + n) long in
    let front : take (length sent.front + count) (text ++ more) ≡ sent.front ++ take count (waiting ++ more) =
    ap (take (length sent.front + count)) both ∙ ap (λ n. take n ((sent.front ++ take count (waiting ++ more)) ++ drop count (waiting ++ more))) (sym place)
    ∙ take-append_seam (sent.front ++ take count (waiting ++ more)) (drop count (waiting ++ more)) in
    (length sent.front + count, omega arith, rw front (Appends-trans held between now sent.front (take count (waiting ++ more)) sent.appended part))

-- what was sent is a beginning of the text, and of each text that begins with it
pub sent_begins : (text rest : List ℕ) (held now : Option (List ℕ)) (waiting : List ℕ) → IsSent text held now waiting
    → (count : ℕ) × (count ≤ length (text ++ rest)) × Appends held now (take count (text ++ rest))
sent_begins text rest held now waiting sent =
    let whole : text ++ rest ≡ sent.front ++ (waiting ++ rest) = ap (λ front. front ++ rest) sent.text_is ∙ append_assoc sent.front waiting rest in
    let size : length (text ++ rest) ≡ length sent.front + length (waiting ++ rest) = ap length whole ∙ length-append sent.front (waiting ++ rest) in
    let front : take (length sent.front) (text ++ rest) ≡ sent.front = ap (take (length sent.front)) whole ∙ take-append_seam sent.front (waiting ++ rest) in
    (length sent.front, omega arith, rw front sent.appended)

-- where nothing waits the whole text was appended
pub sent_whole : (text : List ℕ) (held now : Option (List ℕ)) → IsSent text held now [] → Appends held now text
sent_whole text held now sent = rw (sent.text_is ∙ append-nil sent.front) sent.appended

-- a text that was written whole leaves nothing waiting
pub written_sent : (text : List ℕ) (held now : Option (List ℕ)) → Appends held now text → IsSent text held now []
written_sent text held now appended = record { front = text; text_is = sym (append-nil text); appended = appended }

-- text was put behind a front that was appended
pub writes_after : (front text : List ℕ) (held between now : Option (List ℕ)) (waiting : List ℕ) (result : Result Unit WriteEnd)
    → Appends held between front → WritesOn text between now waiting result → WritesOn (front ++ text) held now waiting result
writes_after front text held between now waiting (Ok done) first next =
    sent_more front text held between now [] waiting (written_sent front held between first) next
writes_after front text held between now waiting (Err Fault) first next =
    sent_part front text held between now [] next.0 (written_sent front held between first) next.1 next.2

-- a beginning of a front is a beginning of the text
pub part_of_more : (front more : List ℕ) (held now : Option (List ℕ)) (count : ℕ) → count < length front → Appends held now (take count front)
    → (place : ℕ) × (place < length (front ++ more)) × Appends held now (take place (front ++ more))
part_of_more front more held now count short part =
    let same : take count (front ++ more) ≡ take count front = take-append-le count front more (omega (arith, short)) in
    let size : length (front ++ more) ≡ length front + length more = length-append front more in
    (count, omega (arith, short), rw same part)

-- a text was written at once, and nothing waits
pub writes_at_once : (text : List ℕ) (held now : Option (List ℕ)) (waiting : List ℕ) (result : Result Unit WriteEnd)
    → waiting ≡ [] → WritesAll text held now result → WritesOn text held now waiting result
writes_at_once text held now waiting (Ok done) none written = rw none (written_sent text held now written)
writes_at_once text held now waiting (Err Fault) none written = written

-- a front was not written whole
pub fails_after : (front text : List ℕ) (held now : Option (List ℕ)) (waiting : List ℕ) (end : WriteEnd)
    → WritesAll front held now (Err end) → WritesOn (front ++ text) held now waiting (Err end)
fails_after front text held now waiting Fault part = part_of_more front text held now part.0 part.1 part.2

-- what waits is written
pub sent_flushed : (text : List ℕ) (held between now : Option (List ℕ)) (waiting : List ℕ) → IsSent text held between waiting → Appends between now waiting → Appends held now text
sent_flushed text held between now waiting sent flushed = rw sent.text_is (Appends-trans held between now sent.front waiting sent.appended flushed)

-- a beginning of what waits is written
pub sent_cut : (text : List ℕ) (held between now : Option (List ℕ)) (waiting : List ℕ) (count : ℕ) → IsSent text held between waiting
    → count < length waiting → Appends between now (take count waiting) → (place : ℕ) × (place < length text) × Appends held now (take place text)
sent_cut text held between now waiting count sent short part =
    let same : waiting ≡ waiting ++ [] = sym (append-nil waiting) in
    subst (λ (all : List ℕ). (place : ℕ) × (place < length all) × Appends held now (take place all)) (append-nil text)
    (sent_part text [] held between now waiting count sent (subst (λ (all : List ℕ). count < length all) same short)
    (subst (λ (all : List ℕ). Appends between now (take count all)) same part))
