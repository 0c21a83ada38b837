-- There is a pushout complement exactly where no parts are identified and no arrow dangles.
use Rattle.std.proofs.Common.{◌≡◌, ◌∙◌, ◌==◌, ◌<◌, ◌+◌, ◌&&◌, ℕ, zero, suc, Bool, true, false, not, nat_lt, List, [], ◌∷◌, length, Option, Some, None, slice_get, refl, sym, ap, subst, inl, inr, arith, zero-add, add-zero, eqb-true, lt-ltb}
use Rattle.std.specs.List.{Contains}
use Rattle.std.proofs.lemmas.Bool.{and_parts, and_from, and_cases, both_ways, cases_order, eq-eqb, false_from_ne_true, ltb-true, not-true, not-false, not_from_false}
use Rattle.std.proofs.lemmas.List.FromFn.{length-range_with_len, get_or-range_with_len}
use Rattle.std.proofs.lemmas.Option.{slice_get-get_or, slice_get_within}
use Rattle.rw_schema.specs.declared.signature.ArrowEnds.{ArrowEnds}
use Rattle.rw_schema.specs.First.{first_in, fault_unless}
use Rattle.rw_schema.specs.Signature.{Signature, IsCategory}
use Rattle.rw_schema.proofs.Firsts.{first_none, passed_unless, unless_true}
use Rattle.rw_spec.specs.Instance.{Instance, Has}
use Rattle.rw_spec.specs.Natural.{Map}
use Rattle.rw_spec.proofs.Sequences.{contains_at}
use Rattle.rw_pattern.specs.PatternLists.{PatternLists, size_of, map_of_tuple}
use Rattle.rw_pattern.proofs.PartNames.{part_below, has_part}
use Rattle.rw_rule.specs.Images.{is_image, parts_of}
use Rattle.rw_rule.specs.RuleLists.{RuleLists}
use Rattle.rw_rule.specs.declared.refusal.Refusal.{Refusal}
use Rattle.rw_rule.specs.declared.refusal.Refusal.TheVariants.{Identification, Dangling}
use Rattle.rw_redex.specs.Obstructions.{dangles, dangling, dangling_at}
use Rattle.rw_redex.specs.Matched.{is_matched, is_removed}
use Rattle.rw_redex.specs.RuleParts.{IsSpanOver}
use Rattle.rw_redex.proofs.Parts.{part_passes, some_passes, image_from, image_found}
use Rattle.rw_redex.proofs.RuleMaps.{keep_known, left_is, left_shape}
use Rattle.rw_complement.specs.Complement.{IsComplement}
use Rattle.rw_complement.specs.Redex.{IsRedex, CanBeGlued, IsKept, IsMatched, IsRemoved}
use Rattle.rw_complement.proofs.Apart.{can_be_glued}
use Rattle.rw_redex.specs.Gluing.{identifies, identification, identification_at, identification_of}
use Rattle.rw_redex.specs.Instantiated.{redex_of}

-- a part stands at its number among the parts
part_at : (pattern : PatternLists) (object part : ℕ) → part < size_of pattern object → slice_get (parts_of pattern object) part ≡ Some part
part_at pattern object part below =
    let size : ℕ = size_of pattern object in
    let within : part < length (parts_of pattern object) = rw (length-range_with_len 0 size) below in
    slice_get-get_or (parts_of pattern object) part 0 within ∙ ap Some (get_or-range_with_len 0 size part 0 below ∙ zero-add part)

-- where no item at any place has a fault, there is none
first_none_from : {X A : Type 0} (f : ℕ → X → Option A) (i : ℕ) (xs : List X) → ((k : ℕ) (x : X) → slice_get xs k ≡ Some x → f (i + k) x ≡ None) → first_in f i xs ≡ None
first_none_from f i [] each = refl
first_none_from f i (x ∷ xs) each =
    let here : f i x ≡ None = rw add-zero at (each zero x refl) in
    let later : first_in f (i + 1) xs ≡ None =
    first_none_from f (i + 1) xs (λ k y there.
    let same : (i + 1) + k ≡ i + suc k = omega arith in
    rw same (each (suc k) y there)) in
    rw (here, later) refl

module _ (C : Signature) (category : IsCategory C) (rule : RuleLists) (over : IsSpanOver C rule) (tuple : List ℕ) (X : Instance) where
  -- an image of l is kept
  kept_from_image : (object y : ℕ) → object < C.objects → is_image rule.l object y ≡ true → IsKept (redex_of rule tuple X) object y
  kept_from_image object y known is =
      let from = image_from rule.keep rule.l object y (left_shape C rule over) (keep_known C rule object over known) is in
      (from.0, has_part rule.keep object from.0 from.1, from.2)

  -- and a kept part is an image
  image_from_kept : (object y : ℕ) → object < C.objects → IsKept (redex_of rule tuple X) object y → is_image rule.l object y ≡ true
  image_from_kept object y known (z, has, is) =
      subst (λ (y : ℕ). is_image rule.l object y ≡ true) is
      (image_found rule.keep rule.l object z (left_shape C rule over) (keep_known C rule object over known) (part_below rule.keep object z has))

  -- a removed name passes the test for it
  removed_passes : (object w : ℕ) → object < C.objects → IsRemoved (redex_of rule tuple X) object w → is_removed rule tuple object w ≡ true
  removed_passes object w known (y, has, is, out) =
      let outside : is_image rule.l object y ≡ false = false_from_ne_true (is_image rule.l object y) (λ inside. out (kept_from_image object y known inside)) in
      some_passes rule.goal.left object (λ part. not (is_image rule.l object part) && map_of_tuple rule.goal.left tuple object part == w) y (part_below rule.goal.left object y has)
      (and_from (not (is_image rule.l object y)) (map_of_tuple rule.goal.left tuple object y == w) (not_from_false (is_image rule.l object y) outside)
      (eq-eqb (map_of_tuple rule.goal.left tuple object y) w is))

  -- and one that passes is removed
  removed_from_test : (object w : ℕ) → object < C.objects → is_removed rule tuple object w ≡ true → IsRemoved (redex_of rule tuple X) object w
  removed_from_test object w known passes =
      let left = rule.goal.left in
      let found = part_passes left object (λ part. not (is_image rule.l object part) && map_of_tuple left tuple object part == w) passes in
      let both = and_parts (not (is_image rule.l object found.0)) (map_of_tuple left tuple object found.0 == w) found.2 in (
        found.0,
        has_part left object found.0 found.1,
        eqb-true (map_of_tuple left tuple object found.0) w both.1,
        (λ kept. both_ways (is_image rule.l object found.0) (not-true (is_image rule.l object found.0) both.0) (image_from_kept object found.0 known kept)),
      )

  -- a name that passes is matched
  matched_from_test : (object w : ℕ) → is_matched rule tuple object w ≡ true → IsMatched (redex_of rule tuple X) object w
  matched_from_test object w passes =
      let found = part_passes rule.goal.left object (λ part. map_of_tuple rule.goal.left tuple object part == w) passes in
      (found.0, has_part rule.goal.left object found.0 found.1, eqb-true (map_of_tuple rule.goal.left tuple object found.0) w found.2)

  -- and a matched name passes
  matched_passes : (object w : ℕ) → IsMatched (redex_of rule tuple X) object w → is_matched rule tuple object w ≡ true
  matched_passes object w (y, has, is) =
      some_passes rule.goal.left object (λ part. map_of_tuple rule.goal.left tuple object part == w) y (part_below rule.goal.left object y has)
      (eq-eqb (map_of_tuple rule.goal.left tuple object y) w is)

  -- an object has a size in the left pattern
  size_at : (object : ℕ) → object < C.objects → slice_get rule.goal.left.sizes object ≡ Some (size_of rule.goal.left object)
  size_at object known = slice_get-get_or rule.goal.left.sizes object 0 (rw (left_is C rule over).sizes_long known)

  -- where nothing is identified, two parts with one name both stay
  both_stay : (object x y : ℕ) → identification rule tuple ≡ None → object < C.objects → x < size_of rule.goal.left object → y < size_of rule.goal.left object → x < y
      → map_of_tuple rule.goal.left tuple object x ≡ map_of_tuple rule.goal.left tuple object y
      → IsKept (redex_of rule tuple X) object x × IsKept (redex_of rule tuple X) object y
  both_stay object x y none known x_below y_below order same =
      let left = rule.goal.left in
      let at_object : identification_at rule tuple object (size_of left object) ≡ None =
      rw zero-add at (first_none (identification_at rule tuple) 0 left.sizes none object (size_of left object) (size_at object known)) in
      let at_first : identification_of rule tuple object x ≡ None =
      first_none (λ place first. identification_of rule tuple object first) 0 (parts_of left object) at_object x x (part_at left object x x_below) in
      let fault : ℕ → Refusal = λ second. Identification (record { 0 = object }) x second in
      let at_second : fault_unless (not (identifies rule tuple object x y)) (fault y) ≡ None =
      first_none (λ place second. fault_unless (not (identifies rule tuple object x second)) (fault second)) 0 (parts_of left object) at_first y y (part_at left object y y_below) in
      let ordered : Bool = nat_lt x y && map_of_tuple left tuple object x == map_of_tuple left tuple object y in
      let both : Bool = is_image rule.l object x && is_image rule.l object y in
      let fails : identifies rule tuple object x y ≡ false =
      not-true (identifies rule tuple object x y) (passed_unless (not (identifies rule tuple object x y)) (fault y) at_second) in
      elim (and_cases ordered (not both) fails) [
        | inl not_ordered ↦
            absurd (both_ways ordered not_ordered
            (and_from (nat_lt x y) (map_of_tuple left tuple object x == map_of_tuple left tuple object y) (lt-ltb x y order)
            (eq-eqb (map_of_tuple left tuple object x) (map_of_tuple left tuple object y) same)))
        | inr stay ↦
            let images = and_parts (is_image rule.l object x) (is_image rule.l object y) (not-false both stay) in
            (kept_from_image object x known images.0, kept_from_image object y known images.1)
      ]

  -- the arrow does not dangle at the name
  safe_at : (a : ℕ) (ends : ArrowEnds) (w : ℕ) → dangling C rule tuple X ≡ None → slice_get C.arrows a ≡ Some ends → Has X ends.source.0 w → dangles rule tuple X a ends w ≡ false
  safe_at a ends w none there (k, within, is) =
      let names = X.names ends.source.0 in
      let fault : ℕ → ℕ → Option Refusal = λ place name. fault_unless (not (dangles rule tuple X a ends name)) (Dangling (record { 0 = a }) name) in
      let at_arrow : dangling_at rule tuple X a ends ≡ None = rw zero-add at (first_none (dangling_at rule tuple X) 0 C.arrows none a ends there) in
      let here : fault (0 + k) w ≡ None = first_none fault 0 names at_arrow k w (slice_get-get_or names k w within ∙ ap Some is) in
      not-true (dangles rule tuple X a ends w) (passed_unless (not (dangles rule tuple X a ends w)) (Dangling (record { 0 = a }) w) here)

  -- where nothing is identified and no arrow dangles, the gluing condition holds
  pub can_be_glued_at : identification rule tuple ≡ None → dangling C rule tuple X ≡ None → CanBeGlued C (redex_of rule tuple X)
  can_be_glued_at none safe = record {
    identification = λ object x y known has_x has_y same.
        let left = rule.goal.left in
        let x_below : x < size_of left object = part_below left object x has_x in
        let y_below : y < size_of left object = part_below left object y has_y in
        elim (cases_order x y) [
          | inl one ↦ inl one
          | inr apart ↦
              elim apart [
                | inl before ↦ inr (both_stay object x y none known x_below y_below before same)
                | inr after ↦ let both = both_stay object y x none known y_below x_below after (sym same) in inr (both.1, both.0)
              ]
        ];
    dangling = λ a ends w there has removed.
        let source : ℕ = ends.source.0 in
        let v : ℕ = X.value a w in
        elim (and_cases (not (is_matched rule tuple source w)) (is_removed rule tuple ends.target.0 v) (safe_at a ends w safe there has)) [
          | inl matched ↦ matched_from_test source w (not-false (is_matched rule tuple source w) matched)
          | inr stays ↦ absurd (both_ways (is_removed rule tuple ends.target.0 v) stays (removed_passes ends.target.0 v (category.targets a ends there) removed))
        ];
  }

  -- where the gluing condition holds, two parts are not identified
  not_identified : CanBeGlued C (redex_of rule tuple X) → (object x y : ℕ) → object < C.objects → Contains (parts_of rule.goal.left object) x → Contains (parts_of rule.goal.left object) y
      → identifies rule tuple object x y ≡ false
  not_identified can object x y known has_x has_y =
      let left = rule.goal.left in
      let named : Bool = map_of_tuple left tuple object x == map_of_tuple left tuple object y in
      let both : Bool = is_image rule.l object x && is_image rule.l object y in
      false_from_ne_true (identifies rule tuple object x y) (λ so.
      let parts = and_parts (nat_lt x y && named) (not both) so in
      let ordered = and_parts (nat_lt x y) named parts.0 in
      let order : x < y = ltb-true x y ordered.0 in
      elim (can.identification object x y known has_x has_y (eqb-true (map_of_tuple left tuple object x) (map_of_tuple left tuple object y) ordered.1)) [
        | inl same ↦ omega arith
        | inr kept ↦
            both_ways both (not-true both parts.1)
            (and_from (is_image rule.l object x) (is_image rule.l object y) (image_from_kept object x known kept.0) (image_from_kept object y known kept.1))
      ])

  -- and no arrow dangles at a name
  not_dangling : CanBeGlued C (redex_of rule tuple X) → (a : ℕ) (ends : ArrowEnds) (w : ℕ) → slice_get C.arrows a ≡ Some ends → Has X ends.source.0 w → dangles rule tuple X a ends w ≡ false
  not_dangling can a ends w there has =
      let source : ℕ = ends.source.0 in
      let v : ℕ = X.value a w in
      false_from_ne_true (dangles rule tuple X a ends w) (λ so.
      let parts = and_parts (not (is_matched rule tuple source w)) (is_removed rule tuple ends.target.0 v) so in
      let matched = can.dangling a ends w there has (removed_from_test ends.target.0 v (category.targets a ends there) parts.1) in
      both_ways (is_matched rule tuple source w) (not-true (is_matched rule tuple source w) parts.0) (matched_passes source w matched))

  -- where the gluing condition holds, nothing is identified
  none_identified : CanBeGlued C (redex_of rule tuple X) → identification rule tuple ≡ None
  none_identified can =
      let left = rule.goal.left in
      first_none_from (identification_at rule tuple) 0 left.sizes (λ object size there.
      let short : object < length left.sizes = slice_get_within left.sizes object size there in
      let known : object < C.objects = rw (left_is C rule over).sizes_long at short in
      rw (zero-add object) (first_none_from (λ place first. identification_of rule tuple object first) 0 (parts_of left object) (λ i x x_there.
      first_none_from (λ place second. fault_unless (not (identifies rule tuple object x second)) (Identification (record { 0 = object }) x second)) 0
      (parts_of left object) (λ j y y_there.
      unless_true (not (identifies rule tuple object x y)) (Identification (record { 0 = object }) x y)
      (not_from_false (identifies rule tuple object x y)
      (not_identified can object x y known (contains_at (parts_of left object) i x x_there) (contains_at (parts_of left object) j y y_there)))))))

  -- and no arrow dangles
  none_dangling : CanBeGlued C (redex_of rule tuple X) → dangling C rule tuple X ≡ None
  none_dangling can =
      first_none_from (dangling_at rule tuple X) 0 C.arrows (λ a ends there.
      rw (zero-add a) (first_none_from (λ place name. fault_unless (not (dangles rule tuple X a ends name)) (Dangling (record { 0 = a }) name)) 0 (X.names ends.source.0)
      (λ k w w_there.
      unless_true (not (dangles rule tuple X a ends w)) (Dangling (record { 0 = a }) w)
      (not_from_false (dangles rule tuple X a ends w) (not_dangling can a ends w there (contains_at (X.names ends.source.0) k w w_there))))))

  -- where there is a pushout complement, nothing is identified and no arrow dangles
  pub complement_unobstructed : IsRedex C (redex_of rule tuple X) → (D : Instance) (k e : Map) → IsComplement C (redex_of rule tuple X) D k e
      → (identification rule tuple ≡ None) × (dangling C rule tuple X ≡ None)
  complement_unobstructed redex D k e complement =
      let can = can_be_glued C category (redex_of rule tuple X) redex D k e complement in
      (none_identified can, none_dangling can)
