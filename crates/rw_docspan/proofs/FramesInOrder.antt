-- Spans and cospans tell the fault of their first piece that has one.
use Rattle.std.proofs.Common.{◌≡◌, ◌⊎◌, inl, inr, ℕ, Bool, true, false, Option, Some, None, Result, Ok, Err, List, refl, subst, arith}
use Rattle.serde_json.specs.Data.{Data}
use Rattle.serde_json.specs.Find.{get}
use Rattle.rw_schema.specs.declared.section.Section.{Section}
use Rattle.rw_schema.specs.declared.section.Section.TheVariants as sections
use Rattle.rw_schema.specs.Signature.{Signature}
use Rattle.rw_spec.specs.Tabled.{Tabled}
use Rattle.rw_doc.specs.declared.fault.DocFault.{DocFault}
use Rattle.rw_doc.specs.Chain.{and_then, some_or}
use Rattle.rw_doc.specs.Entries.{TellsInOrder}
use Rattle.rw_doc.specs.Json.{has_only}
use Rattle.rw_doc.specs.Pieces.{fault_in}
use Rattle.rw_doc.specs.SchemaEntries.{member_at, HasOtherKeys, LacksOneOf}
use Rattle.rw_doc.proofs.InOrder.{or_place, only_place, one_value, no_fault, order_here, order_other, order_read, order_last}
use Rattle.rw_doc.proofs.Written.{never_both}
use Rattle.rw_docspan.specs.Frames.{FrameKeys, FrameMembers, ThreeLists, all_keys, members_in, members_of, piece_of, read_three}
use Rattle.rw_docspan.specs.Instances.{read_instance}
use Rattle.rw_docspan.specs.Maps.{read_map}
use Rattle.rw_docspan.specs.PieceEntries.{HasThree, FrameHas, SpanTellsFirst, CospanTellsFirst}
use Rattle.rw_docspan.specs.Spans.{TwoMaps, SpanLists, CospanLists, span_keys, cospan_keys, span_of, cospan_of}

-- ---- keys

-- the members at the keys
abbrev members_at : FrameKeys → Data → FrameMembers
members_at keys value = record {
  first = member_at keys.first value;
  second = member_at keys.second value;
  third = member_at keys.third value;
  first_map = member_at keys.first_map value;
  second_map = member_at keys.second_map value;
}

-- what is at a key
at_key : (key : List ℕ) (value x : Data) → get key value ≡ Some x → member_at key value ≡ x
at_key key value x is = rw is refl

-- either one of the keys is absent and there are no members, or all are there
members_or_lack : (keys : FrameKeys) (value : Data)
    → ((members_in keys value ≡ None) × LacksOneOf (all_keys keys) value) ⊎ ((members_in keys value ≡ Some (members_at keys value)) × (LacksOneOf (all_keys keys) value → ⊥))
members_or_lack keys value = by_first (get keys.first value) refl (get keys.second value) refl (get keys.third value) refl (get keys.first_map value) refl (get keys.second_map value) refl
  where
    by_first : (a : Option Data) → get keys.first value ≡ a → (b : Option Data) → get keys.second value ≡ b → (c : Option Data) → get keys.third value ≡ c
        → (d : Option Data) → get keys.first_map value ≡ d → (e : Option Data) → get keys.second_map value ≡ e
        → ((members_in keys value ≡ None) × LacksOneOf (all_keys keys) value) ⊎ ((members_in keys value ≡ Some (members_at keys value)) × (LacksOneOf (all_keys keys) value → ⊥))
    by_first None a_is b b_is c c_is d d_is e e_is = inl (rw a_is refl, inl a_is)
    by_first (Some a) a_is None b_is c c_is d d_is e e_is = inl (rw (a_is, b_is) refl, inr (inl b_is))
    by_first (Some a) a_is (Some b) b_is None c_is d d_is e e_is = inl (rw (a_is, b_is, c_is) refl, inr (inr (inl c_is)))
    by_first (Some a) a_is (Some b) b_is (Some c) c_is None d_is e e_is = inl (rw (a_is, b_is, c_is, d_is) refl, inr (inr (inr (inl d_is))))
    by_first (Some a) a_is (Some b) b_is (Some c) c_is (Some d) d_is None e_is = inl (rw (a_is, b_is, c_is, d_is, e_is) refl, inr (inr (inr (inr (inl e_is)))))
    by_first (Some a) a_is (Some b) b_is (Some c) c_is (Some d) d_is (Some e) e_is = inr (rw (a_is, b_is, c_is, d_is, e_is) refl, all_there)
      where
        all_there : LacksOneOf (all_keys keys) value → ⊥
        all_there (inl none) = never_both (get keys.first value) a a_is none
        all_there (inr (inl none)) = never_both (get keys.second value) b b_is none
        all_there (inr (inr (inl none))) = never_both (get keys.third value) c c_is none
        all_there (inr (inr (inr (inl none)))) = never_both (get keys.first_map value) d d_is none
        all_there (inr (inr (inr (inr (inl none))))) = never_both (get keys.second_map value) e e_is none
        all_there (inr (inr (inr (inr (inr never))))) = never

-- the members and the keys
keys_or_members : (keys : FrameKeys) (value : Data) → ((members_of keys value ≡ None) × HasOtherKeys (all_keys keys) (all_keys keys) value)
    ⊎ ((members_of keys value ≡ Some (members_at keys value)) × (HasOtherKeys (all_keys keys) (all_keys keys) value → ⊥))
keys_or_members keys value = by_keys (has_only (all_keys keys) value) refl
  where
    all_there : has_only (all_keys keys) value ≡ true → (LacksOneOf (all_keys keys) value → ⊥) → HasOtherKeys (all_keys keys) (all_keys keys) value → ⊥
    all_there is lack (inl other) = cc
    all_there is lack (inr lacks) = lack lacks

    by_members : has_only (all_keys keys) value ≡ true
        → ((members_in keys value ≡ None) × LacksOneOf (all_keys keys) value) ⊎ ((members_in keys value ≡ Some (members_at keys value)) × (LacksOneOf (all_keys keys) value → ⊥))
        → ((members_of keys value ≡ None) × HasOtherKeys (all_keys keys) (all_keys keys) value)
        ⊎ ((members_of keys value ≡ Some (members_at keys value)) × (HasOtherKeys (all_keys keys) (all_keys keys) value → ⊥))
    by_members is (inl lacks) = inl (rw is lacks.0, inr lacks.1)
    by_members is (inr all) = inr (rw is all.0, all_there is all.1)

    by_keys : (known : Bool) → has_only (all_keys keys) value ≡ known
        → ((members_of keys value ≡ None) × HasOtherKeys (all_keys keys) (all_keys keys) value)
        ⊎ ((members_of keys value ≡ Some (members_at keys value)) × (HasOtherKeys (all_keys keys) (all_keys keys) value → ⊥))
    by_keys false is = inl (rw is refl, inl is)
    by_keys true is = by_members is (members_or_lack keys value)

-- ---- the pieces

-- three readings in turn, and what follows
three_in_turn : {A B D T Z E : Type 0} (first : Result A E) (second : Result B E) (third : Result D E) (h : A → B → D → T) (k : T → Result Z E)
    → and_then first (λ x. and_then second (λ y. and_then third (λ z. k (h x y z)))) ≡ and_then (and_then first (λ x. and_then second (λ y. and_then third (λ z. Ok (h x y z))))) k
three_in_turn (Err fault) second third h k = refl
three_in_turn (Ok x) (Err fault) third h k = refl
three_in_turn (Ok x) (Ok y) (Err fault) h k = refl
three_in_turn (Ok x) (Ok y) (Ok z) h k = refl

-- two readings in turn, and what is made of both
two_in_turn : {A B T Z E : Type 0} (first : Result A E) (second : Result B E) (h : A → B → T) (k : T → Z)
    → and_then first (λ x. and_then second (λ y. Ok (k (h x y)))) ≡ and_then (and_then first (λ x. and_then second (λ y. Ok (h x y)))) (λ both. Ok (k both))
two_in_turn (Err fault) second h k = refl
two_in_turn (Ok x) (Err fault) h k = refl
two_in_turn (Ok x) (Ok y) h k = refl

-- three instances
abbrev three_of : Tabled → Tabled → Tabled → ThreeLists
three_of first second third = record { first = first; second = second; third = third }

-- two maps
abbrev two_of : List (List ℕ) → List (List ℕ) → TwoMaps
two_of first second = record { first = first; second = second }

-- the instances that are read are one
same_three : (C : Signature) (section : Section) (keys : FrameKeys) (value : Data) (three other : ThreeLists) → HasThree C section keys value three → HasThree C section keys value other → three ≡ other
same_three C section keys value three other one two =
    parts three.first other.first three.second other.second three.third other.third
    (one_value (read_instance C (piece_of section 1) (member_at keys.first value)) three.first other.first one.0 two.0)
    (one_value (read_instance C (piece_of section 2) (member_at keys.second value)) three.second other.second one.1 two.1)
    (one_value (read_instance C (piece_of section 3) (member_at keys.third value)) three.third other.third one.2 two.2)
  where
    parts : (a p b q c r : Tabled) → a ≡ p → b ≡ q → c ≡ r → three_of a b c ≡ three_of p q r
    parts a p b q c r first second third = rw (first, second, third) refl

-- the faults of a map
abbrev MapFault : Signature → Section → FrameKeys → ℕ → (ThreeLists → Tabled) → (ThreeLists → Tabled) → List ℕ → Data → DocFault → Type 0
MapFault C section keys piece from to key value fault = (three : ThreeLists) × HasThree C section keys value three
    × (read_map C (piece_of section piece) (from three) (to three) (member_at key value) ≡ Err fault)

-- a map that is read has no fault
map_read : (C : Signature) (section : Section) (keys : FrameKeys) (piece : ℕ) (from to : ThreeLists → Tabled) (key : List ℕ) (value : Data) (three : ThreeLists) (images : List (List ℕ))
    → HasThree C section keys value three → read_map C (piece_of section piece) (from three) (to three) (member_at key value) ≡ Ok images
    → (fault : DocFault) → MapFault C section keys piece from to key value fault → ⊥
map_read C section keys piece from to key value three images has is fault fails =
    let same = same_three C section keys value fails.0 three fails.1 has in
    no_fault (read_map C (piece_of section piece) (from three) (to three) (member_at key value)) images fault is
    (subst (λ (three : ThreeLists). read_map C (piece_of section piece) (from three) (to three) (member_at key value) ≡ Err fault) same fails.2)

-- the pieces behind the keys tell the first fault
pieces_tell : {A : Type 0} (C : Signature) (section : Section) (keys : FrameKeys) (from_first to_first from_second to_second : ThreeLists → Tabled) (h : ThreeLists → TwoMaps → A) (value : Data)
    → let members = members_at keys value in
    TellsInOrder (or_place 1 (λ fault. read_instance C (piece_of section 1) members.first ≡ Err fault)
    (or_place 2 (λ fault. read_instance C (piece_of section 2) members.second ≡ Err fault)
    (or_place 3 (λ fault. read_instance C (piece_of section 3) members.third ≡ Err fault)
    (or_place 4 (MapFault C section keys 4 from_first to_first keys.first_map value) (only_place 5 (MapFault C section keys 5 from_second to_second keys.second_map value))))))
    (and_then (read_three C section members) (λ three.
    and_then (and_then (read_map C (piece_of section 4) (from_first three) (to_first three) members.first_map) (λ first.
    and_then (read_map C (piece_of section 5) (from_second three) (to_second three) members.second_map) (λ second. Ok (two_of first second)))) (λ maps. Ok (h three maps))))
pieces_tell C section keys from_first to_first from_second to_second h value =
    let members = members_at keys value in
    let first = read_instance C (piece_of section 1) members.first in
    let second = read_instance C (piece_of section 2) members.second in
    let third = read_instance C (piece_of section 3) members.third in
    let first_map = λ (three : ThreeLists). read_map C (piece_of section 4) (from_first three) (to_first three) members.first_map in
    let second_map = λ (three : ThreeLists). read_map C (piece_of section 5) (from_second three) (to_second three) members.second_map in
    let FirstMap = MapFault C section keys 4 from_first to_first keys.first_map value in
    let SecondMap = MapFault C section keys 5 from_second to_second keys.second_map value in
    let Maps = or_place 4 FirstMap (only_place 5 SecondMap) in
    let Third = or_place 3 (λ fault. third ≡ Err fault) Maps in
    let Second = or_place 2 (λ fault. second ≡ Err fault) Third in
    let rest = λ (three : ThreeLists). and_then (and_then (first_map three) (λ one. and_then (second_map three) (λ two. Ok (two_of one two)))) (λ maps. Ok (h three maps)) in
    subst (TellsInOrder (or_place 1 (λ fault. first ≡ Err fault) Second)) (three_in_turn first second third three_of rest)
    (order_read 1 (λ fault. first ≡ Err fault) Second first (λ x. and_then second (λ y. and_then third (λ z. rest (three_of x y z))))
    (λ place fault has. omega (arith, has)) (λ fault is. is) (λ x is fault fails. no_fault first x fault is fails)
    (λ x x_is. order_read 2 (λ fault. second ≡ Err fault) Third second (λ y. and_then third (λ z. rest (three_of x y z)))
    (λ place fault has. omega (arith, has)) (λ fault is. is) (λ y is fault fails. no_fault second y fault is fails)
    (λ y y_is. order_read 3 (λ fault. third ≡ Err fault) Maps third (λ z. rest (three_of x y z))
    (λ place fault has. omega (arith, has)) (λ fault is. is) (λ z is fault fails. no_fault third z fault is fails)
    (λ z z_is.
    let three = three_of x y z in
    let has : HasThree C section keys value three = (x_is, y_is, z_is) in
    subst (TellsInOrder Maps) (two_in_turn (first_map three) (second_map three) two_of (h three))
    (order_read 4 FirstMap (only_place 5 SecondMap) (first_map three) (λ one. and_then (second_map three) (λ two. Ok (h three (two_of one two))))
    (λ place fault it. omega (arith, it.0)) (λ fault is. (three, has, is)) (λ images is. map_read C section keys 4 from_first to_first keys.first_map value three images has is)
    (λ one one_is. order_last 5 SecondMap (second_map three) (λ two. h three (two_of one two))
    (λ fault is. (three, has, is)) (λ images is. map_read C section keys 5 from_second to_second keys.second_map value three images has is)))))))

-- a frame tells the fault of its first piece that has one
frame_tells : (A : Type 0) (C : Signature) (section : Section) (keys : FrameKeys) (from_first to_first from_second to_second : ThreeLists → Tabled) (h : ThreeLists → TwoMaps → A) (value : Data)
    → TellsInOrder (FrameHas C section keys from_first to_first from_second to_second value)
    (and_then (some_or (fault_in (piece_of section 0) 2) (members_of keys value)) (λ members.
    and_then (read_three C section members) (λ three.
    and_then (and_then (read_map C (piece_of section 4) (from_first three) (to_first three) members.first_map) (λ first.
    and_then (read_map C (piece_of section 5) (from_second three) (to_second three) members.second_map) (λ second. Ok (two_of first second)))) (λ maps. Ok (h three maps)))))
frame_tells A C section keys from_first to_first from_second to_second h value =
    let fault = fault_in (piece_of section 0) 2 in
    let Keys = λ (given : DocFault). (given ≡ fault) × HasOtherKeys (all_keys keys) (all_keys keys) value in
    let members = members_at keys value in
    let Others = or_place 1 (λ fault. read_instance C (piece_of section 1) members.first ≡ Err fault)
    (or_place 2 (λ fault. read_instance C (piece_of section 2) members.second ≡ Err fault)
    (or_place 3 (λ fault. read_instance C (piece_of section 3) members.third ≡ Err fault)
    (or_place 4 (MapFault C section keys 4 from_first to_first keys.first_map value) (only_place 5 (MapFault C section keys 5 from_second to_second keys.second_map value))))) in
    elim (keys_or_members keys value) [
      | inl other ↦ rw other.0 (order_here A 0 Keys Others fault (λ place given has. omega arith) (refl, other.1))
      | inr there ↦ rw there.0 (order_other 0 Keys Others _ (λ given has. there.1 has.1) (pieces_tell C section keys from_first to_first from_second to_second h value))
    ]

-- a span tells the fault of its first piece that has one
pub span_tells : SpanTellsFirst
span_tells C value = frame_tells SpanLists C sections.Span span_keys (λ three. three.first) (λ three. three.second) (λ three. three.first) (λ three. three.third) span_of value

-- so does a cospan
pub cospan_tells : CospanTellsFirst
cospan_tells C value = frame_tells CospanLists C sections.Cospan cospan_keys (λ three. three.first) (λ three. three.third) (λ three. three.second) (λ three. three.third) cospan_of value
