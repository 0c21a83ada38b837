-- The first clash of attributes, one attribute after the other.
use Rattle.std.proofs.Common.{◌≡◌, ◌∙◌, ◌⊎◌, ◌==◌, ◌&&◌, ℕ, ◌+◌, ◌<◌, Bool, true, false, nat_lt, List, [], ◌∷◌, ◌++◌, length, Option, Some, None, slice_get, refl, ap, sym, subst, inl, inr, arith}
use Rattle.std.proofs.lemmas.Bool.{and_parts, and_from, or_cases, or_parts, both_ways, cases_Bool, ltb-true, lt-ltb, eqb-true, eq-eqb, cases_lt}
use Rattle.std.proofs.lemmas.List.{length_push, get_or_append_left, get_or_push}
use Rattle.std.proofs.lemmas.Option.{same_Some, slice_get_within, slice_get-get_or, get_or_from_slice_get}
use Rattle.rw_schema.specs.declared.signature.AttrEnds.{AttrEnds}
use Rattle.rw_schema.specs.RowLists.{RowLists}
use Rattle.rw_classes.specs.Clashes.{MergesAt, MergesEach, IsFirstOf, FirstOf}
use Rattle.rw_classes.specs.inner.Clashes.{clash_at, comes_earlier, lesser}
use Rattle.rw_classes.specs.FirstClash.{IsEarlierPlace}
use Rattle.rw_classes.specs.declared.clashes.ClashAt.{ClashAt}
use Rattle.rw_classes.specs.declared.merge.Difference.{Difference}
use Rattle.rw_classes.specs.declared.merge.Merged.{Merged}
use Rattle.rw_classes.specs.declared.merge.Merged.TheVariants.{Firsts, Differ}

-- what stands at a place stands there also where one more is put behind
stands_before : {X : Type 0} (xs : List X) (new : X) (k : ℕ) (x : X) → slice_get xs k ≡ Some x → slice_get (xs ++ new ∷ []) k ≡ Some x
stands_before xs new k x there =
    let within : k < length xs = slice_get_within xs k x there in
    let long : length (xs ++ new ∷ []) ≡ length xs + 1 = length_push xs new in
    slice_get-get_or (xs ++ new ∷ []) k x (omega arith)
    ∙ ap (λ y. Some y) (get_or_append_left xs (new ∷ []) x k within ∙ get_or_from_slice_get xs k x x there)

-- what is put behind stands last
stands_last : {X : Type 0} (xs : List X) (new : X) → slice_get (xs ++ new ∷ []) (length xs) ≡ Some new
stands_last xs new =
    let long : length (xs ++ new ∷ []) ≡ length xs + 1 = length_push xs new in
    slice_get-get_or (xs ++ new ∷ []) (length xs) new (omega arith) ∙ ap (λ y. Some y) (get_or_push xs new new (length xs) refl)

-- the cells of one attribute more are merged
pub merges_more : (left right : RowLists) (numbers firsts : List (List ℕ)) (attributes : List AttrEnds) (merged : List Merged) (ends : AttrEnds) (new : Merged)
    → MergesEach left right numbers firsts attributes merged → slice_get attributes (length merged) ≡ Some ends
    → MergesAt left right numbers firsts (length merged) ends new → MergesEach left right numbers firsts attributes (merged ++ new ∷ [])
merges_more left right numbers firsts attributes merged ends new so_far there here c other within other_there =
    let long : length (merged ++ new ∷ []) ≡ length merged + 1 = length_push merged new in
    elim (cases_lt c (length merged)) [
      | inl before ↦
          let found = so_far c other before other_there in
          (found.0, stands_before merged new c found.0 found.1, found.2)
      | inr past ↦
          let last : length merged ≡ c = omega arith in
          let same : ends ≡ other = same_Some ends other (sym there ∙ ap (slice_get attributes) last ∙ other_there) in (
            new,
            subst (λ (k : ℕ). slice_get (merged ++ new ∷ []) k ≡ Some new) last (stands_last merged new),
            subst (λ each. MergesAt left right numbers firsts c each new) same
                (subst (λ (k : ℕ). MergesAt left right numbers firsts k ends new) last here),
          )
    ]

-- no place comes before itself
before_itself : (object w c : ℕ) → IsEarlierPlace object w c object w c → ⊥
before_itself object w c before =
    elim before [
      | inl less ↦ omega arith
      | inr parts ↦ elim parts.1 [
        | inl less ↦ omega arith
        | inr last ↦ let less : c < c = last.1 in omega arith
      ]
    ]

-- the object is earlier, or it is the same and the class is earlier
abbrev IsEarlier : ℕ → ℕ → ℕ → ℕ → Type 0
IsEarlier object w object' w' = (object < object') ⊎ ((object ≡ object') × (w < w'))

-- what comes before something earlier comes before all that is later
before_earlier : (o w c o' w' c' o'' w'' c'' : ℕ) → IsEarlierPlace o w c o' w' c' → IsEarlier o' w' o'' w'' → IsEarlierPlace o w c o'' w'' c''
before_earlier o w c o' w' c' o'' w'' c'' before earlier =
    elim before [
      | inl less ↦ elim earlier [
        | inl more ↦ inl (omega arith)
        | inr more ↦ let same : o' ≡ o'' = more.0 in inl (omega arith)
      ]
      | inr parts ↦
          let same : o ≡ o' = parts.0 in
          elim earlier [
            | inl more ↦ inl (omega arith)
            | inr more ↦
                let same' : o' ≡ o'' = more.0 in
                let less : w' < w'' = more.1 in
                elim parts.1 [
                  | inl below ↦ inr (omega arith, inl (omega arith))
                  | inr last ↦ let equal : w ≡ w' = last.0 in inr (omega arith, inl (omega arith))
                ]
          ]
    ]

-- a clash that comes before another is earlier
earlier_from : (new found : ClashAt) → comes_earlier new found ≡ true → IsEarlier new.object.0 new.difference.class found.object.0 found.difference.class
earlier_from new found passed =
    let same_object : Bool = new.object.0 == found.object.0 in
    let lesser_class : Bool = nat_lt new.difference.class found.difference.class in
    elim (or_cases (nat_lt new.object.0 found.object.0) (same_object && lesser_class) passed) [
      | inl less ↦ inl (ltb-true new.object.0 found.object.0 less)
      | inr both ↦
          let parts = and_parts same_object lesser_class both in
          inr (eqb-true new.object.0 found.object.0 parts.0, ltb-true new.difference.class found.difference.class parts.1)
    ]

-- a clash that does not come before an earlier attribute's is nowhere before it
not_before : (new found : ClashAt) (c : ℕ) → comes_earlier new found ≡ false → found.attr.0 < c
    → IsEarlierPlace new.object.0 new.difference.class c found.object.0 found.difference.class found.attr.0 → ⊥
not_before new found c failed later before =
    let same_object : Bool = new.object.0 == found.object.0 in
    let lesser_class : Bool = nat_lt new.difference.class found.difference.class in
    let parts = or_parts (nat_lt new.object.0 found.object.0) (same_object && lesser_class) failed in
    elim before [
      | inl less ↦ both_ways (nat_lt new.object.0 found.object.0) parts.0 (lt-ltb new.object.0 found.object.0 less)
      | inr rest ↦ elim rest.1 [
        | inl less ↦
            both_ways (same_object && lesser_class) parts.1
            (and_from same_object lesser_class (eq-eqb new.object.0 found.object.0 rest.0) (lt-ltb new.difference.class found.difference.class less))
        | inr last ↦ let earlier : c < found.attr.0 = last.1 in omega arith
      ]
    ]

-- the attribute at the end, and what merging its cells gave
module _ (n : ℕ) (attributes : List AttrEnds) (merged : List Merged) (ends : AttrEnds) (there : slice_get attributes n ≡ Some ends) where
  -- where no clash is new the one that was found stays
  first_kept : (found : Option ClashAt) → ((difference : Difference) → slice_get merged n ≡ Some (Differ difference) → ⊥)
      → FirstOf n attributes merged found → FirstOf (n + 1) attributes merged found
  first_kept None none so_far = λ c other difference below other_there is.
      elim (cases_lt c n) [
        | inl before ↦ so_far c other difference before other_there is
        | inr past ↦
            let last : c ≡ n = omega arith in
            none difference (ap (slice_get merged) (sym last) ∙ is)
      ]
  first_kept (Some found) none so_far = record {
    before = let earlier : found.attr.0 < n = so_far.before in omega arith;
    ends = so_far.ends;
    there = so_far.there;
    holder = so_far.holder;
    differs = so_far.differs;
    least = λ c other difference below other_there is.
        elim (cases_lt c n) [
          | inl before ↦ so_far.least c other difference before other_there is
          | inr past ↦
              let last : c ≡ n = omega arith in
              absurd (none difference (ap (slice_get merged) (sym last) ∙ is))
        ];
  }

  -- a new clash where none of the earlier attributes has one before it
  first_new : (new : Difference) → slice_get merged n ≡ Some (Differ new)
      → ((c : ℕ) (other : AttrEnds) (difference : Difference) → c < n → slice_get attributes c ≡ Some other → slice_get merged c ≡ Some (Differ difference)
      → IsEarlierPlace other.object.0 difference.class c ends.object.0 new.class n → ⊥)
      → IsFirstOf (n + 1) attributes merged (record { object = ends.object; attr = record { 0 = n }; difference = new })
  first_new new is none = record {
    before = omega arith;
    ends = ends;
    there = there;
    holder = refl;
    differs = is;
    least = λ c other difference below other_there other_is before.
        elim (cases_lt c n) [
          | inl earlier ↦ none c other difference earlier other_there other_is before
          | inr past ↦
              let last : c ≡ n = omega arith in
              let same : ends ≡ other = same_Some ends other (sym there ∙ ap (slice_get attributes) (sym last) ∙ other_there) in
              let same_new : Differ new ≡ Differ difference = same_Some (Differ new) (Differ difference) (sym is ∙ ap (slice_get merged) (sym last) ∙ other_is) in
              let equal : new ≡ difference = cc in
              before_itself ends.object.0 new.class n
              (subst (λ (k : ℕ). IsEarlierPlace ends.object.0 new.class k ends.object.0 new.class n) last
              (subst (λ (each : Difference). IsEarlierPlace ends.object.0 each.class c ends.object.0 new.class n) (sym equal)
              (subst (λ (each : AttrEnds). IsEarlierPlace each.object.0 difference.class c ends.object.0 new.class n) (sym same) before)))
        ];
  }

  -- the lesser of the clash that was found and the new one is the first of all
  pub first_more : (each : Merged) (found : Option ClashAt) → slice_get merged n ≡ Some each → FirstOf n attributes merged found
      → FirstOf (n + 1) attributes merged (lesser found (clash_at n ends each))
  first_more (Firsts firsts) None is so_far =
      first_kept None (λ difference differs. let same : Firsts firsts ≡ Differ difference = same_Some (Firsts firsts) (Differ difference) (sym is ∙ differs) in cc) so_far
  first_more (Firsts firsts) (Some found) is so_far =
      first_kept (Some found) (λ difference differs. let same : Firsts firsts ≡ Differ difference = same_Some (Firsts firsts) (Differ difference) (sym is ∙ differs) in cc) so_far
  first_more (Differ new) None is so_far = first_new new is (λ c other difference below other_there other_is before. so_far c other difference below other_there other_is)
  first_more (Differ new) (Some found) is so_far =
      let clash : ClashAt = record { object = ends.object; attr = record { 0 = n }; difference = new } in
      elim (cases_Bool (comes_earlier clash found)) [
        | inl passes ↦
            rw passes
            (first_new new is (λ c other difference below other_there other_is before.
            so_far.least c other difference below other_there other_is
            (before_earlier other.object.0 difference.class c ends.object.0 new.class n found.object.0 found.difference.class found.attr.0 before (earlier_from clash found passes))))
        | inr fails ↦
            rw fails record {
              before = let earlier : found.attr.0 < n = so_far.before in omega arith;
              ends = so_far.ends;
              there = so_far.there;
              holder = so_far.holder;
              differs = so_far.differs;
              least = λ c other difference below other_there other_is before.
                  elim (cases_lt c n) [
                    | inl earlier ↦ so_far.least c other difference earlier other_there other_is before
                    | inr past ↦
                        let last : c ≡ n = omega arith in
                        let same : ends ≡ other = same_Some ends other (sym there ∙ ap (slice_get attributes) (sym last) ∙ other_there) in
                        let same_new : Differ new ≡ Differ difference = same_Some (Differ new) (Differ difference) (sym is ∙ ap (slice_get merged) (sym last) ∙ other_is) in
                        let equal : new ≡ difference = cc in
                        not_before clash found n fails so_far.before
                        (subst (λ (k : ℕ). IsEarlierPlace ends.object.0 new.class k found.object.0 found.difference.class found.attr.0) last
                        (subst (λ (each : Difference). IsEarlierPlace ends.object.0 each.class c found.object.0 found.difference.class found.attr.0) (sym equal)
                        (subst (λ (each : AttrEnds). IsEarlierPlace each.object.0 difference.class c found.object.0 found.difference.class found.attr.0) (sym same) before)))
                  ];
            }
      ]
