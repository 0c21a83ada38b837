-- The names that a tuple gives to the parts of an object.
use Rattle.std.proofs.Common.{◌≡◌, ◌==◌, ℕ, ◌-◌, ◌<◌, Bool, List, Contains, map, length, sum, take, drop, slice_index, ap, ◌∙◌, arith, length-drop}
use Rattle.std.specs.List.{list_any, range_with_len}
use Rattle.std.proofs.lemmas.List.{length-take-le, get_or-take, get_or-drop}
use Rattle.std.proofs.lemmas.List.FromFn.{fill_by_all}
use Rattle.rw_schema.proofs.Lists.{list_any_map}
use Rattle.rw_schema.specs.Signature.{Signature}
use Rattle.rw_spec.specs.Instance.{Instance}
use Rattle.rw_pattern.specs.Matches.{candidates, is_match, matches, names_of_parts}
use Rattle.rw_pattern.specs.PatternLists.{PatternLists, size_of, place_of, map_of_tuple}
use Rattle.rw_spec.specs.Tuples.{tuples}
use Rattle.rw_pattern.proofs.Naturality.{length_candidates}
use Rattle.rw_pattern.proofs.Places.{parts_within}
use Rattle.rw_spec.proofs.Sequences.{contained_in_filter}
use Rattle.rw_spec.proofs.Tuples.{IsTuple, is_tuple}

-- they are the images of the parts
part_names : (pattern : PatternLists) (tuple : List ℕ) (object : ℕ) → object < length pattern.sizes → length tuple ≡ sum pattern.sizes
    → names_of_parts pattern tuple object ≡ map (map_of_tuple pattern tuple object) (range_with_len 0 (size_of pattern object))
part_names pattern tuple object known long =
    let start : ℕ = place_of pattern object 0 in
    let size : ℕ = size_of pattern object in
    let rest : List ℕ = drop start tuple in
    let left : length rest ≡ length tuple - start = length-drop start tuple in
    fill_by_all (map_of_tuple pattern tuple object) (take size rest) size 0
    (length-take-le size rest (omega (arith, left, long, parts_within pattern.sizes object known)))
    (λ part there. get_or-take size rest part 0 there ∙ get_or-drop start tuple part 0
    ∙ ap (slice_index tuple) (omega arith))

-- a name is among them exactly where a part has it
pub named_part : (pattern : PatternLists) (tuple : List ℕ) (object name : ℕ) → object < length pattern.sizes → length tuple ≡ sum pattern.sizes
    → list_any (λ other. other == name) (names_of_parts pattern tuple object)
    ≡ list_any (λ part. map_of_tuple pattern tuple object part == name) (range_with_len 0 (size_of pattern object))
named_part pattern tuple object name known long =
    ap (list_any (λ other. other == name)) (part_names pattern tuple object known long)
    ∙ list_any_map (λ other. other == name) (map_of_tuple pattern tuple object) (range_with_len 0 (size_of pattern object))

-- a match gives a name to each part
pub match_long : (C : Signature) (pattern : PatternLists) (monic : List Bool) (X : Instance) (tuple : List ℕ) → Contains (matches C pattern monic X) tuple
    → length tuple ≡ sum pattern.sizes
match_long C pattern monic X tuple matched =
    let kept = contained_in_filter (is_match C pattern monic X) (tuples (candidates pattern X)) tuple matched in
    let items : IsTuple (candidates pattern X) tuple = is_tuple (candidates pattern X) tuple kept.0 in
    items.long ∙ length_candidates pattern X
