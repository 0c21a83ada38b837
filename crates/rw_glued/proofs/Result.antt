-- What is glued under the names of a double pushout is an initial cocone, and is named so.
use Rattle.std.proofs.Common.{◌≡◌, ◌∙◌, ◌==◌, ◌<◌, ◌≤◌, ◌+◌, ◌-◌, ◌&&◌, ℕ, suc, Bool, true, cond, find, Contains, List, length, Option, Some, None, option_and_then, slice_get, slice_index, refl, sym, ap, subst, inl, inr, arith, eqb-true, lt-ltb}
use Rattle.std.specs.List.{list_any, range_with_len}
use Rattle.std.specs.Option.{is_some}
use Rattle.std.proofs.lemmas.Bool.{and_from, and_parts, both_ways, cases_eq, cases_lt, cases_order, eq-eqb, ne_eqb, not-false, not-true, true_from_ne_false}
use Rattle.std.proofs.lemmas.List.{get_or-map, length-map}
use Rattle.std.proofs.lemmas.List.Elements.{All-contains, All-contains_itself, All-map, All-weaker, Contains-get_or}
use Rattle.rw_schema.specs.declared.atom.Atom.{Atom}
use Rattle.rw_schema.specs.declared.signature.ArrowEnds.{ArrowEnds}
use Rattle.rw_schema.specs.declared.signature.AttrEnds.{AttrEnds}
use Rattle.rw_schema.specs.Signature.{Signature, IsCategory}
use Rattle.rw_spec.specs.Cocone.{Frame, IsInitialCocone}
use Rattle.rw_spec.specs.Distinct.{AreDistinct}
use Rattle.rw_spec.specs.Ends.{target_of}
use Rattle.rw_spec.specs.Instance.{IsInstance, Has}
use Rattle.rw_spec.specs.Natural.{IsNatural}
use Rattle.rw_spec.specs.Ascending.{ascends}
use Rattle.rw_spec.proofs.Sequences.{contains_filter, contains_map}
use Rattle.rw_spec.proofs.Signatures.{source_is, holder_is, target_is}
use Rattle.rw_spec.proofs.Ascending.{ascends_all, ascends_apart, ascends_far, ascends_distinct}
use Rattle.rw_spec.proofs.Ranges.{range_below, range_has}
use Rattle.rw_universal.proofs.Gluing.{pushout_from_gluing}
use Rattle.rw_classes.specs.Classes.{Joins}
use Rattle.rw_classes.specs.Glued.{AreGlued}
use Rattle.rw_classes.specs.Places.{count_at, joined_at, spot, cell_of}
use Rattle.rw_classes.proofs.Glue.{gluing_from_classes}
use Rattle.rw_classes.proofs.Sides.{spot_within, spot_here, spot_at, either_left, either_right, either_spot_left, either_spot_right}
use Rattle.rw_complement.specs.Named.{IsNamed, is_new, new_parts, new_before}
use Rattle.rw_complement.proofs.Tests.{found_is, found_some, some_at, some_from, there_is}
use Rattle.rw_glued.specs.Result.{Classing, class_name, class_names, name_at, left_name, right_name, class_atom, value_of_class, glued_of, HaveOneAtom, AreJoined}
use Rattle.rw_glued.proofs.Counts.{less_more, less_some}

-- one for a given number, and zero for all others
abbrev pub is_this : ℕ → ℕ → ℕ
is_this p e = cond (e == p) 1 0

-- the given number has one
this_one : (p : ℕ) → is_this p p ≡ 1
this_one p = ap (λ (b : Bool). cond b 1 0) (eq-eqb p p refl)

-- another number has zero
this_not : (p e : ℕ) → (e ≡ p → ⊥) → is_this p e ≡ 0
this_not p e other = ap (λ (b : Bool). cond b 1 0) (ne_eqb e p other)

-- where something is given of what was found, something was found
chained : {A : Type 0} (f : ℕ → Option A) (found : Option ℕ) (a : A) → option_and_then f found ≡ Some a → (e : ℕ) × (found ≡ Some e) × (f e ≡ Some a)
chained f None a is = let no : ⊥ = cc in absurd no
chained f (Some e) a is = (e, refl, is)

-- what is given of what was found
found_gives : {A : Type 0} (f : ℕ → Option A) (found : Option ℕ) (e : ℕ) (own a : A) → found ≡ Some e → f e ≡ Some own → own ≡ a → option_and_then f found ≡ Some a
found_gives f found e own a is gives same = ap (option_and_then f) is ∙ gives ∙ ap Some same

module _ (C : Signature) (category : IsCategory C) (F : Frame) (left : IsInstance C F.left) (right : IsInstance C F.right) (apex : IsInstance C F.apex)
    (to_left : IsNatural C F.apex F.left F.to_left) (to_right : IsNatural C F.apex F.right F.to_right)
    (next : List ℕ) (numbers firsts : Classing) (joined : AreJoined C F next numbers firsts)
  where
    -- the names of the left side stand each once
    left_distinct : (object : ℕ) → object < C.objects → AreDistinct (F.left.names object)
    left_distinct object known = ascends_distinct (F.left.names object) (joined.left_ascends object known)

    -- and so do those of the right side
    right_distinct : (object : ℕ) → object < C.objects → AreDistinct (F.right.names object)
    right_distinct object known = ascends_distinct (F.right.names object) (joined.right_ascends object known)

    -- the name of a class that begins with a left part is the name of that part
    name_left : (object e : ℕ) → e < length (F.left.names object) → class_name F next object e ≡ slice_index (F.left.names object) e
    name_left object e here = either_left (F.left.names object) (F.right.names object) (λ x. x) (λ y. slice_index next object + new_before F object y) e here

    -- and of one that begins with a right part, a next name
    name_right : (object e : ℕ) → length (F.left.names object) ≤ e
        → class_name F next object e ≡ slice_index next object + new_before F object (slice_index (F.right.names object) (e - length (F.left.names object)))
    name_right object e past = either_right (F.left.names object) (F.right.names object) (λ x. x) (λ y. slice_index next object + new_before F object y) e past

    -- a right part with which a class begins is new
    first_is_new : (object w : ℕ) → object < C.objects → w < length (firsts object) → length (F.left.names object) ≤ slice_index (firsts object) w
        → is_new F object (slice_index (F.right.names object) (slice_index (firsts object) w - length (F.left.names object))) ≡ true
    first_is_new object w known within past =
        let lefts : List ℕ = F.left.names object in
        let rights : List ℕ = F.right.names object in
        let e : ℕ = slice_index (firsts object) w in
        let k : ℕ = e - length lefts in
        let y : ℕ = slice_index rights k in
        let numbered = (joined.classes object known).numbered in
        let e_within : e < count_at F object = numbered.below w within in
        let k_within : k < length rights = omega arith in
        true_from_ne_false (is_new F object y) (λ old.
        let found = some_from (λ z. F.to_right object z == y) (F.apex.names object) (not-false (list_any (λ z. F.to_right object z == y) (F.apex.names object)) old) in
        let z : ℕ = found.0 in
        let is : F.to_right object z ≡ y = eqb-true (F.to_right object z) y found.2 in
        let has_left = to_left.parts object z known found.1 in
        let place : ℕ = spot lefts (F.to_left object z) in
        let place_within : place < length lefts = spot_within lefts (F.to_left object z) has_left in
        let other : ℕ = length lefts + spot rights (F.to_right object z) in
        let same : slice_index (numbers object) place ≡ slice_index (numbers object) other =
        All-contains (λ (pair : ℕ × ℕ). slice_index (numbers object) pair.0 ≡ slice_index (numbers object) pair.1) (joined_at F object) (place, other)
        (joined.classes object known).joins
        (contains_map (λ z. (spot lefts (F.to_left object z), length lefts + spot rights (F.to_right object z))) (F.apex.names object) z found.1) in
        let stands : spot rights (F.to_right object z) ≡ k = ap (spot rights) is ∙ spot_at rights k (right_distinct object known) k_within in
        let whole : other ≡ e = omega arith in
        let class : slice_index (numbers object) place ≡ w = same ∙ ap (slice_index (numbers object)) whole ∙ numbered.found w within in
        let least : slice_index (firsts object) (slice_index (numbers object) place) ≤ place = numbered.least place (omega arith) in
        let least_w : e ≤ place = subst (λ (v : ℕ). slice_index (firsts object) v ≤ place) class least in
        omega arith)

    -- a new part is a class of its own
    new_alone : (object y : ℕ) → object < C.objects → Has F.right object y → is_new F object y ≡ true
        → slice_index (firsts object) (slice_index (numbers object) (length (F.left.names object) + spot (F.right.names object) y)) ≡ length (F.left.names object) + spot (F.right.names object) y
    new_alone object y known has fresh =
        let lefts : List ℕ = F.left.names object in
        let rights : List ℕ = F.right.names object in
        let p : ℕ = length lefts + spot rights y in
        let h : ℕ → ℕ = is_this p in
        let y_within : spot rights y < length rights = spot_within rights y has in
        let one : (z : ℕ) → Has F.apex object z → h (spot lefts (F.to_left object z)) ≡ h (length lefts + spot rights (F.to_right object z)) =
        λ z has_z.
        let first_within : spot lefts (F.to_left object z) < length lefts = spot_within lefts (F.to_left object z) (to_left.parts object z known has_z) in
        let first : h (spot lefts (F.to_left object z)) ≡ 0 = this_not p (spot lefts (F.to_left object z)) (λ here. omega arith) in
        let second : h (length lefts + spot rights (F.to_right object z)) ≡ 0 =
        this_not p (length lefts + spot rights (F.to_right object z)) (λ here.
        let spots : spot rights (F.to_right object z) ≡ spot rights y = omega arith in
        let same : F.to_right object z ≡ y =
        sym (spot_here rights (F.to_right object z) (to_right.parts object z known has_z)) ∙ ap (slice_index rights) spots ∙ spot_here rights y has in
        both_ways (list_any (λ z. F.to_right object z == y) (F.apex.names object)) (not-true (list_any (λ z. F.to_right object z == y) (F.apex.names object)) fresh)
        (some_at (λ z. F.to_right object z == y) (F.apex.names object) z has_z (eq-eqb (F.to_right object z) y same))) in
        first ∙ sym second in
        let joins : Joins (joined_at F object) h =
        All-map (λ (pair : ℕ × ℕ). h pair.0 ≡ h pair.1) (λ z. (spot lefts (F.to_left object z), length lefts + spot rights (F.to_right object z))) (F.apex.names object)
        (All-weaker (Contains (F.apex.names object)) (λ z. h (spot lefts (F.to_left object z)) ≡ h (length lefts + spot rights (F.to_right object z))) one
        (F.apex.names object) (All-contains_itself (F.apex.names object))) in
        let e : ℕ = slice_index (firsts object) (slice_index (numbers object) p) in
        let is_one : h e ≡ 1 = (joined.classes object known).finest h joins p (omega arith) ∙ this_one p in
        elim (cases_eq e p) [
          | inl same ↦ same
          | inr other ↦ let is_zero : h e ≡ 0 = this_not p e other in absurd (omega (arith, is_one, is_zero))
        ]

    -- the names of the classes ascend
    pub names_order : (object i j : ℕ) → object < C.objects → i < j → j < length (firsts object)
        → class_name F next object (slice_index (firsts object) i) < class_name F next object (slice_index (firsts object) j)
    names_order object i j known before within =
        let lefts : List ℕ = F.left.names object in
        let rights : List ℕ = F.right.names object in
        let numbered = (joined.classes object known).numbered in
        let e : ℕ = slice_index (firsts object) i in
        let other : ℕ = slice_index (firsts object) j in
        let order : e < other = numbered.ascend i j before within in
        let other_within : other < count_at F object = numbered.below j within in
        elim (cases_lt other (length lefts)) [
          | inl here ↦
              let less : slice_index lefts e < slice_index lefts other = ascends_apart lefts e other (joined.left_ascends object known) order here in
              rw (name_left object e (omega arith), name_left object other here) less
          | inr past ↦
              elim (cases_lt e (length lefts)) [
                | inl here ↦
                    let less : slice_index lefts e < slice_index next object = joined.below object (slice_index lefts e) known (Contains-get_or lefts e 0 here) in
                    rw (name_left object e here, name_right object other past) (omega arith)
                | inr before_too ↦
                    let y : ℕ = slice_index rights (e - length lefts) in
                    let later : ℕ = slice_index rights (other - length lefts) in
                    let place_within : e - length lefts < length rights = omega arith in
                    let less : y < later = ascends_apart rights (e - length lefts) (other - length lefts) (joined.right_ascends object known) (omega arith) (omega arith) in
                    let there : Contains (new_parts F object) y =
                    contains_filter (is_new F object) rights y (Contains-get_or rights (e - length lefts) 0 place_within) (first_is_new object i known (omega arith) before_too) in
                    let fewer : new_before F object y < new_before F object later = less_more (new_parts F object) y later there less in
                    rw (name_right object e before_too, name_right object other past) (omega arith)
              ]
        ]

    -- so each is there once
    pub names_distinct : (object : ℕ) → object < C.objects → AreDistinct (class_names F next firsts object)
    names_distinct object known i j i_within j_within same =
        let name : ℕ → ℕ = class_name F next object in
        let long : length (class_names F next firsts object) ≡ length (firsts object) = length-map (firsts object) name in
        let i_below : i < length (firsts object) = omega arith in
        let j_below : j < length (firsts object) = omega arith in
        let equal : name (slice_index (firsts object) i) ≡ name (slice_index (firsts object) j) =
        sym (get_or-map name (firsts object) i 0 0 i_below) ∙ same ∙ get_or-map name (firsts object) j 0 0 j_below in
        elim (cases_order i j) [
          | inl one ↦ one
          | inr apart ↦
              elim apart [
                | inl before ↦ let less : name (slice_index (firsts object) i) < name (slice_index (firsts object) j) = names_order object i j known before j_below in absurd (omega (arith, equal, less))
                | inr after ↦ let less : name (slice_index (firsts object) j) < name (slice_index (firsts object) i) = names_order object j i known after i_below in absurd (omega (arith, equal, less))
              ]
        ]

    -- the names ascend
    pub names_ascend : (object : ℕ) → object < C.objects → ascends (class_names F next firsts object) ≡ true
    names_ascend object known =
        let name : ℕ → ℕ = class_name F next object in
        let long : length (class_names F next firsts object) ≡ length (firsts object) = length-map (firsts object) name in
        ascends_all (class_names F next firsts object) (λ k within.
        let later : suc k < length (firsts object) = omega arith in
        let less : name (slice_index (firsts object) k) < name (slice_index (firsts object) (suc k)) = names_order object k (suc k) known (omega arith) later in
        rw (get_or-map name (firsts object) k 0 0 (omega arith), get_or-map name (firsts object) (suc k) 0 0 later)
        (lt-ltb (name (slice_index (firsts object) k)) (name (slice_index (firsts object) (suc k))) less))

    -- each name is below the next name afterwards
    pub names_below : (object w : ℕ) → object < C.objects → Contains (class_names F next firsts object) w → w < slice_index next object + length (new_parts F object)
    names_below object w known there =
        let lefts : List ℕ = F.left.names object in
        let rights : List ℕ = F.right.names object in
        let name : ℕ → ℕ = class_name F next object in
        let k : ℕ = there.0 in
        let long : length (class_names F next firsts object) ≡ length (firsts object) = length-map (firsts object) name in
        let k_within : k < length (firsts object) = omega (arith, there.1) in
        let e : ℕ = slice_index (firsts object) k in
        let e_within : e < count_at F object = (joined.classes object known).numbered.below k k_within in
        let is : name e ≡ w = sym (get_or-map name (firsts object) k 0 w k_within) ∙ there.2 in
        elim (cases_lt e (length lefts)) [
          | inl here ↦
              let own : name e ≡ slice_index lefts e = name_left object e here in
              let less : slice_index lefts e < slice_index next object = joined.below object (slice_index lefts e) known (Contains-get_or lefts e 0 here) in
              omega arith
          | inr past ↦
              let y : ℕ = slice_index rights (e - length lefts) in
              let place_within : e - length lefts < length rights = omega arith in
              let own : name e ≡ slice_index next object + new_before F object y = name_right object e past in
              let new : Contains (new_parts F object) y =
              contains_filter (is_new F object) rights y (Contains-get_or rights (e - length lefts) 0 place_within) (first_is_new object k known k_within past) in
              let fewer : new_before F object y < length (new_parts F object) = less_some (new_parts F object) y new in
              omega arith
        ]

    -- the name at a class's place is the class's
    name_of_class : (object w : ℕ) → w < length (firsts object) → slice_index (class_names F next firsts object) w ≡ class_name F next object (slice_index (firsts object) w)
    name_of_class object w within = get_or-map (class_name F next object) (firsts object) w 0 0 within

    -- a class stands at its number
    spot_of_class : (object w : ℕ) → object < C.objects → w < length (firsts object)
        → spot (class_names F next firsts object) (slice_index (class_names F next firsts object) w) ≡ w
    spot_of_class object w known within =
        let long : length (class_names F next firsts object) ≡ length (firsts object) = length-map (firsts object) (class_name F next object) in
        spot_at (class_names F next firsts object) w (names_distinct object known) (omega arith)

    -- the class of a part has a number
    class_within : (object e : ℕ) → object < C.objects → e < count_at F object → slice_index (numbers object) e < length (firsts object)
    class_within object e known within = (joined.classes object known).numbered.within e within

    -- where an arrow leads from a class
    value_is : (a : ℕ) (ends : ArrowEnds) (w : ℕ) → slice_get C.arrows a ≡ Some ends
        → (glued_of C F next numbers firsts).value a w
        ≡ value_of_class F next numbers firsts ends.source.0 ends.target.0 a (slice_index (firsts ends.source.0) (spot (class_names F next firsts ends.source.0) w))
    value_is a ends w there =
        ap (λ (source : ℕ). value_of_class F next numbers firsts source (target_of C a) a (slice_index (firsts source) (spot (class_names F next firsts source) w))) (source_is C a ends there)
        ∙ ap (λ (target : ℕ). value_of_class F next numbers firsts ends.source.0 target a (slice_index (firsts ends.source.0) (spot (class_names F next firsts ends.source.0) w))) (target_is C a ends there)

    -- the cell of a class
    cell_is : (c : ℕ) (ends : AttrEnds) (w : ℕ) → slice_get C.attributes c ≡ Some ends
        → (glued_of C F next numbers firsts).cell c w ≡ class_atom F (numbers ends.object.0) ends.object.0 c (spot (class_names F next firsts ends.object.0) w)
    cell_is c ends w there =
        ap (λ (object : ℕ). class_atom F (numbers object) object c (spot (class_names F next firsts object) w)) (holder_is C c ends there)

    -- the cell at the name of a class is the atom of the class
    cell_of_class : (c : ℕ) (ends : AttrEnds) (w : ℕ) → slice_get C.attributes c ≡ Some ends → w < length (firsts ends.object.0)
        → (glued_of C F next numbers firsts).cell c (slice_index (class_names F next firsts ends.object.0) w) ≡ class_atom F (numbers ends.object.0) ends.object.0 c w
    cell_of_class c ends w there within =
        cell_is c ends (slice_index (class_names F next firsts ends.object.0) w) there
        ∙ ap (class_atom F (numbers ends.object.0) ends.object.0 c) (spot_of_class ends.object.0 w (category.holders c ends there) within)

    -- an atom of a class is that of one of its parts
    atom_of_part : (object c w : ℕ) (atom : Atom) → class_atom F (numbers object) object c w ≡ Some atom
        → (e : ℕ) × (e < count_at F object) × (slice_index (numbers object) e ≡ w) × (cell_of F object c e ≡ Some atom)
    atom_of_part object c w atom is =
        let test : ℕ → Bool = λ e. slice_index (numbers object) e == w && is_some (cell_of F object c e) in
        let range : List ℕ = range_with_len 0 (count_at F object) in
        let found = chained (cell_of F object c) (find test range) atom is in
        let known = found_is test range found.0 found.1 in
        let both = and_parts (slice_index (numbers object) found.0 == w) (is_some (cell_of F object c found.0)) known.1 in
        (found.0, range_below (count_at F object) found.0 known.0, eqb-true (slice_index (numbers object) found.0) w both.0, found.2)

    module _ (one : HaveOneAtom C F numbers) where
      -- the atom of a part is its class's
      atom_at_class : (c : ℕ) (ends : AttrEnds) (e : ℕ) (atom : Atom) → slice_get C.attributes c ≡ Some ends → e < count_at F ends.object.0
          → cell_of F ends.object.0 c e ≡ Some atom → (glued_of C F next numbers firsts).cell c (name_at F next numbers firsts ends.object.0 e) ≡ Some atom
      atom_at_class c ends e atom there within is =
          let object : ℕ = ends.object.0 in
          let known : object < C.objects = category.holders c ends there in
          let w : ℕ = slice_index (numbers object) e in
          let w_within : w < length (firsts object) = class_within object e known within in
          let test : ℕ → Bool = λ e. slice_index (numbers object) e == w && is_some (cell_of F object c e) in
          let range : List ℕ = range_with_len 0 (count_at F object) in
          let some : list_any test range ≡ true =
          some_at test range e (range_has (count_at F object) e within) (and_from (w == w) (is_some (cell_of F object c e)) (eq-eqb w w refl) (ap is_some is)) in
          let found = found_some test range some in
          let both = and_parts (slice_index (numbers object) found.0 == w) (is_some (cell_of F object c found.0)) found.3 in
          let own = there_is (cell_of F object c found.0) both.1 in
          let same : own.0 ≡ atom =
          one c ends found.0 e own.0 atom there (range_below (count_at F object) found.0 found.2) within (eqb-true (slice_index (numbers object) found.0) w both.0) own.1 is in
          let reads : (glued_of C F next numbers firsts).cell c (name_at F next numbers firsts object e) ≡ class_atom F (numbers object) object c w =
          ap ((glued_of C F next numbers firsts).cell c) (sym (name_of_class object w w_within)) ∙ cell_of_class c ends w there w_within in
          reads ∙ found_gives (cell_of F object c) (find test range) found.0 own.0 atom found.1 own.1 same

      -- the instance of the classes is glued of both sides
      glued : AreGlued C F (glued_of C F next numbers firsts) (left_name F next numbers firsts) (right_name F next numbers firsts) numbers firsts
      glued = record {
        classes = joined.classes;
        each = λ object known. length-map (firsts object) (class_name F next object);
        apart = names_distinct;
        left = λ object x known has.
            let place_within : spot (F.left.names object) x < length (F.left.names object) = spot_within (F.left.names object) x has in
            sym (name_of_class object (slice_index (numbers object) (spot (F.left.names object) x)) (class_within object (spot (F.left.names object) x) known (omega arith)));
        right = λ object y known has.
            let place_within : spot (F.right.names object) y < length (F.right.names object) = spot_within (F.right.names object) y has in
            let place : ℕ = length (F.left.names object) + spot (F.right.names object) y in
            sym (name_of_class object (slice_index (numbers object) place) (class_within object place known (omega arith)));
        values = λ a ends w there within.
            value_is a ends (slice_index (class_names F next firsts ends.source.0) w) there
            ∙ ap (λ (k : ℕ). value_of_class F next numbers firsts ends.source.0 ends.target.0 a (slice_index (firsts ends.source.0) k))
            (spot_of_class ends.source.0 w (category.sources a ends there) within);
        left_cells = λ c ends x atom there has is.
            let object : ℕ = ends.object.0 in
            let place_within : spot (F.left.names object) x < length (F.left.names object) = spot_within (F.left.names object) x has in
            atom_at_class c ends (spot (F.left.names object) x) atom there (omega arith)
            (either_spot_left (F.left.names object) (F.right.names object) (F.left.cell c) (F.right.cell c) x has ∙ is);
        right_cells = λ c ends y atom there has is.
            let object : ℕ = ends.object.0 in
            let place_within : spot (F.right.names object) y < length (F.right.names object) = spot_within (F.right.names object) y has in
            atom_at_class c ends (length (F.left.names object) + spot (F.right.names object) y) atom there (omega arith)
            (either_spot_right (F.left.names object) (F.right.names object) (F.left.cell c) (F.right.cell c) y has ∙ is);
        cells = λ c ends w atom there within is.
            let object : ℕ = ends.object.0 in
            atom_of_part object c w atom (sym (cell_of_class c ends w there within) ∙ is);
      }

      -- it is an initial cocone
      pub glued_is_initial : IsInitialCocone C F (glued_of C F next numbers firsts) (left_name F next numbers firsts) (right_name F next numbers firsts)
      glued_is_initial =
          pushout_from_gluing C category F left right (glued_of C F next numbers firsts) (left_name F next numbers firsts) (right_name F next numbers firsts)
          (gluing_from_classes C category F left right apex to_left to_right left_distinct right_distinct (glued_of C F next numbers firsts)
          (left_name F next numbers firsts) (right_name F next numbers firsts) numbers firsts glued)

      -- it is named as a double pushout is
      pub glued_is_named : IsNamed C F next (left_name F next numbers firsts) (right_name F next numbers firsts)
      glued_is_named = record {
        kept = λ object x known has.
            let lefts : List ℕ = F.left.names object in
            let numbered = (joined.classes object known).numbered in
            let p : ℕ = spot lefts x in
            let p_within : p < length lefts = spot_within lefts x has in
            let w : ℕ = slice_index (numbers object) p in
            let w_within : w < length (firsts object) = class_within object p known (omega arith) in
            let e : ℕ = slice_index (firsts object) w in
            let least : e ≤ p = numbered.least p (omega arith) in
            let e_within : e < length lefts = omega arith in
            let name : left_name F next numbers firsts object x ≡ slice_index lefts e = name_left object e e_within in
            let again : left_name F next numbers firsts object (slice_index lefts e) ≡ left_name F next numbers firsts object x =
            ap (name_at F next numbers firsts object) (spot_at lefts e (left_distinct object known) e_within)
            ∙ ap (λ (class : ℕ). class_name F next object (slice_index (firsts object) class)) (numbered.found w w_within) in
            let low : slice_index lefts e ≤ x =
            subst (λ (n : ℕ). slice_index lefts e ≤ n) (spot_here lefts x has) (ascends_far lefts (joined.left_ascends object known) e p least p_within) in (
              subst (Has F.left object) (sym name) (Contains-get_or lefts e 0 e_within),
              ap (left_name F next numbers firsts object) name ∙ again,
              subst (λ (n : ℕ). n ≤ x) (sym name) low,
            );
        fresh = λ object y known has fresh.
            let lefts : List ℕ = F.left.names object in
            let rights : List ℕ = F.right.names object in
            let p : ℕ = length lefts + spot rights y in
            let after : p - length lefts ≡ spot rights y = omega arith in
            ap (class_name F next object) (new_alone object y known has fresh)
            ∙ name_right object p (omega arith)
            ∙ ap (λ (k : ℕ). slice_index next object + new_before F object (slice_index rights k)) after
            ∙ ap (λ (y : ℕ). slice_index next object + new_before F object y) (spot_here rights y has);
      }
