-- A part of a list of bytes that was copied to the front of a room.
use Rattle.std.proofs.Common.{◌≡◌, ℕ, ◌+◌, ◌<◌, List, [], ◌++◌, length, take, drop, min, sym, ap, ◌∙◌, arith, take-append-drop}
use Rattle.std.proofs.lemmas.List.{drop-drop, take_at, nil_from_length}

-- the rest of a list is what the room begins with and the rest past it
pub rest_taken : (next count : ℕ) (bytes piece room : List ℕ) → piece ≡ take count (drop next bytes) → length piece ≡ count
    → drop next bytes ≡ take count (piece ++ drop count room) ++ drop (next + count) bytes
rest_taken next count bytes piece room piece_is size =
    sym (take-append-drop count (drop next bytes))
    ∙ ap (λ front. front ++ drop count (drop next bytes)) (sym (take_at piece (drop count room) count size ∙ piece_is))
    ∙ ap (λ back. take count (piece ++ drop count room) ++ back) (drop-drop count next bytes)

-- nothing was taken into a room that is not empty only where nothing was left
pub rest_ended : (next count most room : ℕ) (bytes : List ℕ) → count ≡ min most (min room (length (drop next bytes))) → 0 < most → 0 < room
    → count ≡ 0 → drop (next + count) bytes ≡ []
rest_ended next count most room bytes count_is some wide none =
    let nothing : length (drop next bytes) ≡ 0 = omega arith in
    let same : next + count ≡ next = omega arith in
    rw same (nil_from_length (drop next bytes) nothing)
