-- The conditions that are left, one by one.
use Rattle.std.proofs.Common.{◌≡◌, ◌∙◌, ◌+◌, ◌<◌, ◌++◌, ◌∷◌, [], ℕ, Result, Ok, Err, List, drop, drop-cons, add-one, get_or, length, map, refl, sym, ap}
use Rattle.std.proofs.lemmas.List.{get_or-map}
use Rattle.serde_json.specs.Data.{Data}
use Rattle.rw_schema.specs.Presentation.{Presentation}
use Rattle.rw_pattern.specs.PatternLists.{PatternLists}
use Rattle.rw_doc.specs.declared.fault.DocFault.{DocFault}
use Rattle.rw_doc.specs.declared.piece.Piece.{Piece}
use Rattle.rw_doc.specs.Chain.{and_then}
use Rattle.rw_doccondition.specs.Conditions.{ConditionRead, ConditionsRead, conditions_after, read_condition, condition_piece}

-- the conditions with the one that is read behind them
abbrev pub next_of : ConditionsRead → ConditionRead → ConditionsRead
next_of before read = record { conditions = before.conditions ++ read.condition ∷ []; known = read.known }

-- what follows a reading that makes something
made_then : {A B C : Type 0} (first : Result A DocFault) (make : A → B) (rest : B → Result C DocFault)
    → and_then (and_then first (λ x. Ok (make x))) rest ≡ and_then first (λ x. rest (make x))
made_then (Ok x) make rest = refl
made_then (Err fault) make rest = refl

-- the next condition is read, and then those behind it
pub turn : (schema : Presentation) (rule : ℕ) (left : PatternLists) (before : ConditionsRead) (values : List Data) (place : ℕ) (value : Data) (piece : Piece)
    → place < length values → value ≡ get_or values place value → length before.conditions ≡ place → piece ≡ condition_piece rule place
    → conditions_after schema rule left before (drop place values)
    ≡ and_then (read_condition schema piece left before.known value) (λ read. conditions_after schema rule left (next_of before read) (drop (place + 1) values))
turn schema rule left before values place value piece within is long piece_is =
    let left_is : drop place values ≡ value ∷ drop (place + 1) values = rw (drop-cons values place value within, ← is, add-one) refl in
    ap (conditions_after schema rule left before) left_is
    ∙ made_then (read_condition schema (condition_piece rule (length before.conditions)) left before.known value) (next_of before)
    (λ next. conditions_after schema rule left next (drop (place + 1) values))
    ∙ ap (λ (piece : Piece). and_then (read_condition schema piece left before.known value) (λ read. conditions_after schema rule left (next_of before read) (drop (place + 1) values)))
    (ap (condition_piece rule) long ∙ sym piece_is)

-- an item that is mapped
pub mapped_is : {X Y : Type 0} (f : X → Y) (xs : List X) (i : ℕ) (x : X) → i < length xs → x ≡ get_or xs i x → f x ≡ get_or (map f xs) i (f x)
mapped_is f xs i x within is = ap f is ∙ sym (get_or-map f xs i x (f x) within)
