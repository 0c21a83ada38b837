-- The first clash of touched names and right parts is the first of the whole; and either there is one, or the result.
use Rattle.std.proofs.Common.{◌≡◌, ◌∙◌, ◌⊎◌, ◌<◌, ◌+◌, ◌-◌, ℕ, true, false, List, Contains, length, slice_index, refl, sym, ap, subst, inl, inr, arith}
use Rattle.std.proofs.lemmas.Bool.{both_ways, cases_lt, cases_order}
use Rattle.std.proofs.lemmas.List.Elements.{Contains-get_or}
use Rattle.rw_schema.specs.declared.atom.Atom.{Atom}
use Rattle.rw_schema.specs.Signature.{Signature, IsCategory}
use Rattle.rw_spec.specs.Cocone.{Frame}
use Rattle.rw_spec.specs.Instance.{Has}
use Rattle.rw_spec.specs.Ascending.{ascends}
use Rattle.rw_spec.proofs.Look.{found_contained}
use Rattle.rw_spec.proofs.Ascending.{ascends_apart, ascends_distinct}
use Rattle.rw_classes.specs.Places.{count_at, spot, either, cell_of}
use Rattle.rw_classes.proofs.Sides.{spot_within, spot_here, either_left, either_right}
use Rattle.rw_delta.specs.ContextLists.{is_in}
use Rattle.rw_complement.specs.Named.{new_before}
use Rattle.rw_glued.specs.Clash.{part_of_place, IsClashOf, IsFirstClashOf}
use Rattle.rw_glued.specs.OneGluing.{IsNaturalFrame}
use Rattle.rw_glued.specs.Result.{Classing, left_name, right_name}
use Rattle.rw_local.specs.inner.Local.{AreLocal, narrow, renamed, placed}
use Rattle.rw_local.proofs.Classes.{renamed_other, renamed_touched, small_agrees, small_stays, small_fresh, touched_or_not}
use Rattle.rw_local.proofs.Renamed.{new_or_old}

module _ (C : Signature) (category : IsCategory C) (F : Frame) (frame : IsNaturalFrame C F)
    (next : List ℕ) (touched : ℕ → List ℕ) (numbers firsts : Classing) (local : AreLocal C F next touched numbers firsts)
    (left_ascends : (object : ℕ) → object < C.objects → ascends (F.left.names object) ≡ true)
  where
    -- the place among all names and right parts of one among the touched names and right parts
    big : ℕ → ℕ → ℕ
    big object e = either (touched object) (F.right.names object) (spot (F.left.names object)) (λ y. y) e

    -- where a part of the touched names stands
    at_left : (object e : ℕ) → object < C.objects → e < length (touched object)
        → (p : ℕ) × (p < length (F.left.names object)) × (slice_index (F.left.names object) p ≡ slice_index (touched object) e)
    at_left object e known here =
        let x : ℕ = slice_index (touched object) e in
        let has : Has F.left object x = local.in_left object x known (Contains-get_or (touched object) e 0 here) in
        (spot (F.left.names object) x, spot_within (F.left.names object) x has, spot_here (F.left.names object) x has)

    -- a place among touched names and right parts, and its place among all
    record AreBeside (object e p : ℕ) : Type 0 where
      within : p < count_at F object
      within_small : e < count_at (narrow F touched) object
      part : part_of_place F (renamed F next touched numbers firsts) (placed F next touched numbers firsts) object p
          ≡ part_of_place (narrow F touched) (left_name (narrow F touched) next numbers firsts) (right_name (narrow F touched) next numbers firsts) object e
      cell : (c : ℕ) → cell_of F object c p ≡ cell_of (narrow F touched) object c e
      side : ((e < length (touched object)) × (p < length (F.left.names object)) × (slice_index (F.left.names object) p ≡ slice_index (touched object) e))
          ⊎ ((k : ℕ) × (e ≡ length (touched object) + k) × (p ≡ length (F.left.names object) + k))

    -- places of one touched name stand beside each other
    beside_left : (object e p : ℕ) → object < C.objects → e < length (touched object) → p < length (F.left.names object)
        → slice_index (F.left.names object) p ≡ slice_index (touched object) e → AreBeside object e p
    beside_left object e p known here there same =
        let lefts : List ℕ = F.left.names object in
        let smalls : List ℕ = touched object in
        let rights : List ℕ = F.right.names object in
        let d : ℕ → ℕ = renamed F next touched numbers firsts object in
        let s : ℕ → ℕ = placed F next touched numbers firsts object in
        let l : ℕ → ℕ = left_name (narrow F touched) next numbers firsts object in
        record {
          within = omega arith;
          within_small = omega arith;
          part = either_left lefts rights d s p there ∙ ap d same
              ∙ renamed_touched C category F frame next touched numbers firsts local object (slice_index smalls e) (Contains-get_or smalls e 0 here)
              ∙ sym (either_left smalls rights l s e here);
          cell = λ c. either_left lefts rights (F.left.cell c) (F.right.cell c) p there ∙ ap (F.left.cell c) same ∙ sym (either_left smalls rights (F.left.cell c) (F.right.cell c) e here);
          side = inl (here, there, same);
        }

    -- and places of one right part
    beside_right : (object k : ℕ) → k < length (F.right.names object) → AreBeside object (length (touched object) + k) (length (F.left.names object) + k)
    beside_right object k within =
        let lefts : List ℕ = F.left.names object in
        let smalls : List ℕ = touched object in
        let rights : List ℕ = F.right.names object in
        let d : ℕ → ℕ = renamed F next touched numbers firsts object in
        let s : ℕ → ℕ = placed F next touched numbers firsts object in
        let l : ℕ → ℕ = left_name (narrow F touched) next numbers firsts object in
        let one : (length lefts + k) - length lefts ≡ k = omega arith in
        let two : (length smalls + k) - length smalls ≡ k = omega arith in
        record {
          within = omega arith;
          within_small = omega arith;
          part = either_right lefts rights d s (length lefts + k) (omega arith) ∙ ap (λ (k : ℕ). s (slice_index rights k)) (one ∙ sym two)
              ∙ sym (either_right smalls rights l s (length smalls + k) (omega arith));
          cell = λ c. either_right lefts rights (F.left.cell c) (F.right.cell c) (length lefts + k) (omega arith) ∙ ap (λ (k : ℕ). F.right.cell c (slice_index rights k)) (one ∙ sym two)
              ∙ sym (either_right smalls rights (F.left.cell c) (F.right.cell c) (length smalls + k) (omega arith));
          side = inr (k, refl, refl);
        }

    -- each small place stands beside one among all
    widen : (object e : ℕ) → object < C.objects → e < count_at (narrow F touched) object → (p : ℕ) × AreBeside object e p
    widen object e known within =
        elim (cases_lt e (length (touched object))) [
          | inl here ↦ let at = at_left object e known here in (at.0, beside_left object e at.0 known here at.1 at.2)
          | inr past ↦
              let k : ℕ = e - length (touched object) in
              let k_within : k < length (F.right.names object) = omega arith in
              let whole : length (touched object) + k ≡ e = omega arith in
              (length (F.left.names object) + k, subst (λ (e : ℕ). AreBeside object e (length (F.left.names object) + k)) whole (beside_right object k k_within))
        ]

    -- a place among all stands beside a small one, or it is that of an untouched name
    narrowed : (object p : ℕ) → object < C.objects → p < count_at F object
        → ((e : ℕ) × AreBeside object e p) ⊎ ((p < length (F.left.names object)) × (is_in (touched object) (slice_index (F.left.names object) p) ≡ false))
    narrowed object p known within =
        elim (cases_lt p (length (F.left.names object))) [
          | inl here ↦
              let x : ℕ = slice_index (F.left.names object) p in
              elim (touched_or_not C category F frame next touched numbers firsts local object x) [
                | inl there ↦
                    inl (spot (touched object) x, beside_left object (spot (touched object) x) p known (spot_within (touched object) x there) here (sym (spot_here (touched object) x there)))
                | inr other ↦ inr (here, other)
              ]
          | inr past ↦
              let k : ℕ = p - length (F.left.names object) in
              let k_within : k < length (F.right.names object) = omega arith in
              let whole : length (F.left.names object) + k ≡ p = omega arith in
              inl (length (touched object) + k, subst (λ (p : ℕ). AreBeside object (length (touched object) + k) p) whole (beside_right object k k_within))
        ]

    -- places beside each other have one order
    kept_order : (object e p f q : ℕ) → object < C.objects → AreBeside object e p → AreBeside object f q → e < f → p < q
    kept_order object e p f q known first second less =
        elim first.side [
          | inl (e_here, p_here, p_is) ↦ elim second.side [
            | inl (f_here, q_here, q_is) ↦
                let low : slice_index (touched object) e < slice_index (touched object) f = ascends_apart (touched object) e f (local.touched_ascends object known) less f_here in
                elim (cases_order p q) [
                  | inl same ↦
                      let equal : slice_index (F.left.names object) p ≡ slice_index (F.left.names object) q = ap (slice_index (F.left.names object)) same in
                      absurd (omega (arith, low, p_is, q_is, equal))
                  | inr apart ↦ elim apart [
                    | inl before ↦ before
                    | inr after ↦
                        let high : slice_index (F.left.names object) q < slice_index (F.left.names object) p = ascends_apart (F.left.names object) q p (left_ascends object known) after p_here in
                        absurd (omega (arith, low, p_is, q_is, high))
                  ]
                ]
            | inr (k, f_is, q_is) ↦ omega arith
          ]
          | inr (k, e_is, p_is) ↦ elim second.side [
            | inl (f_here, q_here, q_is) ↦ absurd (omega arith)
            | inr (j, f_is, q_is) ↦ omega arith
          ]
        ]

    -- and the other way round
    back_order : (object e p f q : ℕ) → object < C.objects → AreBeside object e p → AreBeside object f q → p < q → e < f
    back_order object e p f q known first second less =
        elim (cases_order e f) [
          | inl same ↦ elim first.side [
            | inl (e_here, p_here, p_is) ↦ elim second.side [
              | inl (f_here, q_here, q_is) ↦
                  let equal : slice_index (touched object) e ≡ slice_index (touched object) f = ap (slice_index (touched object)) same in
                  let high : slice_index (F.left.names object) p < slice_index (F.left.names object) q = ascends_apart (F.left.names object) p q (left_ascends object known) less q_here in
                  absurd (omega (arith, equal, p_is, q_is, high))
              | inr (k, f_is, q_is) ↦ absurd (omega arith)
            ]
            | inr (k, e_is, p_is) ↦ elim second.side [
              | inl (f_here, q_here, q_is) ↦ absurd (omega arith)
              | inr (j, f_is, q_is) ↦ absurd (omega arith)
            ]
          ]
          | inr apart ↦ elim apart [
            | inl before ↦ before
            | inr after ↦ let more : q < p = kept_order object f q e p known second first after in absurd (omega (arith, less, more))
          ]
        ]

    -- a small place is not that of an untouched name: no other part goes there
    alone : (object p e q : ℕ) → object < C.objects → p < length (F.left.names object) → is_in (touched object) (slice_index (F.left.names object) p) ≡ false
        → AreBeside object e q
        → part_of_place F (renamed F next touched numbers firsts) (placed F next touched numbers firsts) object p
        ≡ part_of_place F (renamed F next touched numbers firsts) (placed F next touched numbers firsts) object q → ⊥
    alone object p e q known here other beside same =
        let lefts : List ℕ = F.left.names object in
        let smalls : List ℕ = touched object in
        let rights : List ℕ = F.right.names object in
        let x : ℕ = slice_index lefts p in
        let d : ℕ → ℕ = renamed F next touched numbers firsts object in
        let s : ℕ → ℕ = placed F next touched numbers firsts object in
        let l : ℕ → ℕ = left_name (narrow F touched) next numbers firsts object in
        let is : x ≡ part_of_place (narrow F touched) (left_name (narrow F touched) next numbers firsts) (right_name (narrow F touched) next numbers firsts) object e =
        sym (renamed_other C category F frame next touched numbers firsts local object x other) ∙ sym (either_left lefts rights d s p here) ∙ same ∙ beside.part in
        let small : Contains smalls x → ⊥ = λ there. untouched object x other there in
        let has : Has F.left object x = Contains-get_or lefts p 0 here in
        elim (cases_lt e (length smalls)) [
          | inl e_here ↦
              small (subst (Contains smalls) (sym (is ∙ either_left smalls rights l s e e_here))
              (small_stays C category F frame next touched numbers firsts local object (slice_index smalls e) known (Contains-get_or smalls e 0 e_here)))
          | inr past ↦
              let k : ℕ = e - length smalls in
              let e_within : e < length smalls + length rights = beside.within_small in
              let k_within : k < length rights = omega arith in
              let y : ℕ = slice_index rights k in
              let has_y : Has F.right object y = Contains-get_or rights k 0 k_within in
              let goes : x ≡ s y = is ∙ either_right smalls rights l s e past in
              elim (new_or_old F object y) [
                | inl new ↦
                    let name : s y ≡ slice_index next object + new_before F object y =
                    small_fresh C category F frame next touched numbers firsts local object y known has_y new in
                    let under : x < slice_index next object = local.below object x known has in
                    omega (arith, goes, name, under)
                | inr (z, has_z, old) ↦
                    small (subst (Contains smalls)
                    (small_agrees C category F frame next touched numbers firsts local object z known has_z ∙ ap s old ∙ sym goes)
                    (small_stays C category F frame next touched numbers firsts local object (F.to_left object z) known (local.under object z known has_z)))
              ]
        ]
      where
        untouched : (object x : ℕ) → is_in (touched object) x ≡ false → Contains (touched object) x → ⊥
        untouched object x other there = both_ways (is_in (touched object) x) other (found_contained (touched object) x there)

    -- of two parts that go to one name both are small
    both_small : (object p q : ℕ) → object < C.objects → p < count_at F object → q < count_at F object → (p ≡ q → ⊥)
        → part_of_place F (renamed F next touched numbers firsts) (placed F next touched numbers firsts) object p
        ≡ part_of_place F (renamed F next touched numbers firsts) (placed F next touched numbers firsts) object q
        → (e : ℕ) × AreBeside object e p
    both_small object p q known p_within q_within differ same =
        elim (narrowed object p known p_within) [
          | inl small ↦ small
          | inr (here, other) ↦ elim (narrowed object q known q_within) [
            | inl (e, beside) ↦ absurd (alone object p e q known here other beside same)
            | inr (there, another) ↦
                let lefts : List ℕ = F.left.names object in
                let rights : List ℕ = F.right.names object in
                let d : ℕ → ℕ = renamed F next touched numbers firsts object in
                let s : ℕ → ℕ = placed F next touched numbers firsts object in
                let equal : slice_index lefts p ≡ slice_index lefts q =
                sym (renamed_other C category F frame next touched numbers firsts local object (slice_index lefts p) other)
                ∙ sym (either_left lefts rights d s p here) ∙ same ∙ either_left lefts rights d s q there
                ∙ renamed_other C category F frame next touched numbers firsts local object (slice_index lefts q) another in
                absurd (differ (ascends_distinct lefts (left_ascends object known) p q here there equal))
          ]
        ]

    -- a small clash is one of the whole
    clash_widens : (object c w : ℕ) (a b : Atom) → object < C.objects
        → IsClashOf (narrow F touched) (left_name (narrow F touched) next numbers firsts) (right_name (narrow F touched) next numbers firsts) object c w a b
        → IsClashOf F (renamed F next touched numbers firsts) (placed F next touched numbers firsts) object c w a b
    clash_widens object c w a b known clash =
        let order : clash.first < clash.second = clash.order in
        let second_within : clash.second < count_at (narrow F touched) object = clash.within in
        let first = widen object clash.first known (omega arith) in
        let second = widen object clash.second known second_within in
        let q_within : second.0 < count_at F object = second.1.within in
        let p_before : first.0 < second.0 = kept_order object clash.first first.0 clash.second second.0 known first.1 second.1 order in
        let goes : part_of_place F (renamed F next touched numbers firsts) (placed F next touched numbers firsts) object first.0 ≡ w = first.1.part ∙ clash.first_part in
        record {
          first = first.0;
          second = second.0;
          order = p_before;
          within = q_within;
          first_part = goes;
          second_part = second.1.part ∙ clash.second_part;
          first_atom = first.1.cell c ∙ clash.first_atom;
          second_atom = second.1.cell c ∙ clash.second_atom;
          differ = clash.differ;
          none_before = λ p before is.
              let small = both_small object p first.0 known (omega arith) (omega arith) (λ same. omega arith) (is ∙ sym goes) in
              small.1.cell c ∙ clash.none_before small.0 (back_order object small.0 p clash.first first.0 known small.1 first.1 before) (sym small.1.part ∙ is);
          same_between = λ p atom after before is has.
              let small = both_small object p first.0 known (omega arith) (omega arith) (λ same. omega arith) (is ∙ sym goes) in
              clash.same_between small.0 atom (back_order object clash.first first.0 small.0 p known first.1 small.1 after)
              (back_order object small.0 p clash.second second.0 known small.1 second.1 before) (sym small.1.part ∙ is) (sym (small.1.cell c) ∙ has);
        }

    -- and a clash of the whole is a small one
    clash_narrows : (object c w : ℕ) (a b : Atom) → object < C.objects
        → IsClashOf F (renamed F next touched numbers firsts) (placed F next touched numbers firsts) object c w a b
        → IsClashOf (narrow F touched) (left_name (narrow F touched) next numbers firsts) (right_name (narrow F touched) next numbers firsts) object c w a b
    clash_narrows object c w a b known clash =
        let order : clash.first < clash.second = clash.order in
        let second_within : clash.second < count_at F object = clash.within in
        let first = both_small object clash.first clash.second known (omega arith) second_within (λ same. omega arith) (clash.first_part ∙ sym clash.second_part) in
        let second = both_small object clash.second clash.first known second_within (omega arith) (λ same. omega arith) (clash.second_part ∙ sym clash.first_part) in
        let e_before : first.0 < second.0 = back_order object first.0 clash.first second.0 clash.second known first.1 second.1 order in
        let f_within : second.0 < count_at (narrow F touched) object = second.1.within_small in
        record {
          first = first.0;
          second = second.0;
          order = e_before;
          within = f_within;
          first_part = sym first.1.part ∙ clash.first_part;
          second_part = sym second.1.part ∙ clash.second_part;
          first_atom = sym (first.1.cell c) ∙ clash.first_atom;
          second_atom = sym (second.1.cell c) ∙ clash.second_atom;
          differ = clash.differ;
          none_before = λ e before is.
              let wide = widen object e known (omega arith) in
              sym (wide.1.cell c) ∙ clash.none_before wide.0 (kept_order object e wide.0 first.0 clash.first known wide.1 first.1 before) (wide.1.part ∙ is);
          same_between = λ e atom after before is has.
              let wide = widen object e known (omega arith) in
              clash.same_between wide.0 atom (kept_order object first.0 clash.first e wide.0 known first.1 wide.1 after)
              (kept_order object e wide.0 second.0 clash.second known wide.1 second.1 before) (wide.1.part ∙ is) (wide.1.cell c ∙ has);
        }

    -- so the first small clash is the first of the whole
    pub first_clash_widens : (object w c : ℕ) (a b : Atom)
        → IsFirstClashOf C (narrow F touched) (left_name (narrow F touched) next numbers firsts) (right_name (narrow F touched) next numbers firsts) object w c a b
        → IsFirstClashOf C F (renamed F next touched numbers firsts) (placed F next touched numbers firsts) object w c a b
    first_clash_widens object w c a b found =
        let known : object < C.objects = subst (λ (o : ℕ). o < C.objects) found.holder (category.holders c found.ends found.there) in
        record {
          ends = found.ends;
          there = found.there;
          holder = found.holder;
          clash = clash_widens object c w a b known found.clash;
          least = λ object' w' c' ends' a' b' there' holder' clash' earlier.
              let known' : object' < C.objects = subst (λ (o : ℕ). o < C.objects) holder' (category.holders c' ends' there') in
              found.least object' w' c' ends' a' b' there' holder' (clash_narrows object' c' w' a' b' known' clash') earlier;
        }
