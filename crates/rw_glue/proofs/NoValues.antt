-- Where no set lacks a value, each has one.
use Rattle.std.proofs.Common.{◌≡◌, ◌∙◌, ◌⊎◌, ◌==◌, ◌&&◌, ◌<◌, ◌+◌, ℕ, zero, suc, Bool, true, false, not, filter, is_none, is_some, map, nat_lt, option_and_then, option_map, List, [], ◌∷◌, length, Option, Some, None, slice_get, refl, sym, ap, subst, inl, inr, arith}
use Rattle.std.proofs.lemmas.Bool.{and_from, cases_Bool, eq-eqb, ltb-true}
use Rattle.std.proofs.lemmas.List.Elements.{All-contains}
use Rattle.std.proofs.lemmas.List.Folds.{list_any_at}
use Rattle.std.proofs.lemmas.Option.{get_or_from_slice_get, same_Some, slice_get-map, slice_get_cases, slice_get_within}
use Rattle.rw_schema.specs.declared.atom.Atom.{Atom}
use Rattle.rw_schema.specs.declared.ids.AttrId.{AttrId}
use Rattle.rw_schema.specs.declared.signature.AttrEnds.{AttrEnds}
use Rattle.rw_schema.specs.First.{first_in, fault_unless, or_else}
use Rattle.rw_schema.specs.Signature.{Signature}
use Rattle.rw_schema.proofs.Firsts.{none_at}
use Rattle.rw_schema.proofs.Lists.{list_all_at}
use Rattle.rw_spec.specs.Instance.{Instance}
use Rattle.rw_spec.proofs.Sequences.{contains_at}
use Rattle.rw_terms.specs.declared.code.OpCode.{OpCode}
use Rattle.rw_terms.specs.Terms.{value_of}
use Rattle.rw_pattern.specs.PatternLists.{holder, size_of}
use Rattle.rw_rule.specs.Images.{parts_of}
use Rattle.rw_rule.specs.RuleFaults.{IsRuleOver}
use Rattle.rw_rule.specs.RuleLists.{RuleLists}
use Rattle.rw_rule.specs.Sets.{is_on_cell, is_on_part}
use Rattle.rw_rule.specs.declared.refusal.Refusal.{Refusal}
use Rattle.rw_rule.specs.declared.refusal.Refusal.TheVariants.{Identification, Dangling, NoValue, TooLarge, Clash}
use Rattle.rw_rule.specs.declared.set.SetCell.{SetCell}
use Rattle.rw_redex.specs.SetValues.{lacks_value, no_value, no_value_on, set_value, set_values, valuation}
use Rattle.rw_redex.proofs.Attributes.{holder_at}
use Rattle.rw_redex.proofs.Ranges.{range_at}
use Rattle.rw_redex.proofs.RuleKnown.{IsKnown, rule_known}
use Rattle.rw_glue.specs.inner.Refused.{set_told}
use Rattle.rw_glue.proofs.Matched.{size_within}

-- a place within a list has an item
item_at : {A : Type 0} (xs : List A) (k : ℕ) → k < length xs → (x : A) × (slice_get xs k ≡ Some x)
item_at xs k within =
    elim (slice_get_cases xs k).1 [
      | inl (x, inside, there, same) ↦ (x, there)
      | inr (past, none) ↦ absurd (omega (arith, within, past))
    ]

-- what is not nothing is something
some_there : {A : Type 0} (found : Option A) → is_none found ≡ false → is_some found ≡ true
some_there None there = cc
some_there (Some a) there = refl

-- a list of which each item is there has no other items
all_there : (values : List (Option Atom)) → ((k : ℕ) (value : Option Atom) → slice_get values k ≡ Some value → is_some value ≡ true) → filter is_some values ≡ values
all_there [] each = refl
all_there (value ∷ values) each = rw (each zero value refl, all_there values (λ k other there. each (suc k) other there)) refl

-- what is found is a set without a value, if anything
abbrev IsNoOther : Option Refusal → Type 0
IsNoOther None = Unit {0}
IsNoOther (Some (NoValue part attr)) = Unit {0}
IsNoOther (Some (Identification object first second)) = ⊥
IsNoOther (Some (Dangling arrow part)) = ⊥
IsNoOther (Some (TooLarge object)) = ⊥
IsNoOther (Some (Clash object name attr first second)) = ⊥

-- so it is of two findings
no_other_of : (first second : Option Refusal) → IsNoOther first → IsNoOther second → IsNoOther (or_else first second)
no_other_of None second one other = other
no_other_of (Some refusal) second one other = one

-- and of a list of findings
no_other_in : {X : Type 0} (f : ℕ → X → Option Refusal) → ((k : ℕ) (x : X) → IsNoOther (f k x)) → (i : ℕ) (xs : List X) → IsNoOther (first_in f i xs)
no_other_in f each i [] = tt
no_other_in f each i (x ∷ xs) = no_other_of (f i x) (first_in f (i + 1) xs) (each i x) (no_other_in f each (i + 1) xs)

-- a test finds a set without a value, if it finds anything
no_other_unless : (passes : Bool) (part : ℕ) (attr : AttrId) → IsNoOther (fault_unless passes (NoValue part attr))
no_other_unless true part attr = tt
no_other_unless false part attr = tt

-- nothing else is found than a set without a value
no_other : (C : Signature) (codes : List OpCode) (rule : RuleLists) (tuple : List ℕ) (X : Instance) → IsNoOther (no_value C codes rule tuple X)
no_other C codes rule tuple X =
    no_other_in (λ object size. first_in (λ place part. no_value_on C codes rule tuple X object part) 0 (parts_of rule.right object))
    (λ object size. no_other_in (λ place part. no_value_on C codes rule tuple X object part)
    (λ place part. no_other_in
    (λ attr (ends : AttrEnds). fault_unless (not (ends.object.0 == object && lacks_value codes rule tuple X attr part)) (NoValue part (record { 0 = attr })))
    (λ attr ends. no_other_unless (not (ends.object.0 == object && lacks_value codes rule tuple X attr part)) part (record { 0 = attr })) 0 C.attributes)
    0 (parts_of rule.right object))
    0 rule.right.sizes

-- so where something is found, it is one
pub value_missing : (C : Signature) (codes : List OpCode) (rule : RuleLists) (tuple : List ℕ) (X : Instance) (found : Option Refusal) → found ≡ no_value C codes rule tuple X
    → (found ≡ None) ⊎ ((part : ℕ) × (attr : AttrId) × (found ≡ Some (NoValue part attr)))
value_missing C codes rule tuple X found is = at found (subst IsNoOther (sym is) (no_other C codes rule tuple X))
  where
    at : (found : Option Refusal) → IsNoOther found → (found ≡ None) ⊎ ((part : ℕ) × (attr : AttrId) × (found ≡ Some (NoValue part attr)))
    at None known = inl refl
    at (Some (NoValue part attr)) known = inr (part, attr, refl)
    at (Some (Identification object first second)) known = absurd known
    at (Some (Dangling arrow part)) known = absurd known
    at (Some (TooLarge object)) known = absurd known
    at (Some (Clash object name attr first second)) known = absurd known

-- what tells of a set without a value is the first such set
pub told_missing : (C : Signature) (codes : List OpCode) (rule : RuleLists) (tuple : List ℕ) (X : Instance) (found : Option Refusal) (part : ℕ) (attr : AttrId)
    → found ≡ no_value C codes rule tuple X → option_and_then set_told found ≡ Some (part, attr) → no_value C codes rule tuple X ≡ Some (NoValue part attr)
told_missing C codes rule tuple X found part attr is told =
    elim (value_missing C codes rule tuple X found is) [
      | inl none ↦
          let nothing : option_and_then set_told None ≡ Some (part, attr) = ap (option_and_then set_told) (sym none) ∙ told in
          let no : ⊥ = cc in
          absurd no
      | inr (part', attr', there) ↦
          let same : Some (part', attr') ≡ Some (part, attr) = ap (option_and_then set_told) (sym there) ∙ told in
          let pair : (part', attr') ≡ (part, attr) = same_Some (part', attr') (part, attr) same in
          sym is ∙ there ∙ ap (λ (both : ℕ × AttrId). Some (NoValue both.0 both.1)) pair
    ]

-- where nothing tells of one, there is none
pub none_missing : (C : Signature) (codes : List OpCode) (rule : RuleLists) (tuple : List ℕ) (X : Instance) (found : Option Refusal)
    → found ≡ no_value C codes rule tuple X → option_and_then set_told found ≡ None → no_value C codes rule tuple X ≡ None
none_missing C codes rule tuple X found is told =
    elim (value_missing C codes rule tuple X found is) [
      | inl none ↦ sym is ∙ none
      | inr (part, attr, there) ↦
          let nothing : ◌≡◌ {A = Option (ℕ × AttrId)} (Some (part, attr)) None = ap (option_and_then set_told) (sym there) ∙ told in
          let no : ⊥ = cc in
          absurd no
    ]

-- the values of terms where variables have the match's values are the values of sets
pub values_are : (codes : List OpCode) (rule : RuleLists) (tuple : List ℕ) (X : Instance) (given : List Atom) (found : List (Option Atom)) → given ≡ valuation rule tuple X
    → found ≡ map (λ (set : SetCell). value_of codes given set.term) rule.sets → found ≡ set_values codes rule tuple X
values_are codes rule tuple X given found same is = is ∙ ap (λ (values : List Atom). map (λ (set : SetCell). value_of codes values set.term) rule.sets) same

module _ (C : Signature) (ops : ℕ) (codes : List OpCode) (rule : RuleLists) (tuple : List ℕ) (X : Instance) (over : IsRuleOver C ops rule)
    (none : no_value C codes rule tuple X ≡ None)
  where
    -- the rule is over the schema
    known : IsKnown C ops rule
    known = rule_known C ops rule over

    -- no set lacks a value
    none_lacks : (k : ℕ) (set : SetCell) → slice_get rule.sets k ≡ Some set → is_none (set_value codes rule tuple X set) ≡ true → ⊥
    none_lacks k set there lacks =
        let c : ℕ = set.attr.0 in
        let part : ℕ = set.part in
        let within : c < length C.attributes = All-contains (λ (set : SetCell). set.attr.0 < length C.attributes) rule.sets set over.parts.attributes (contains_at rule.sets k set there) in
        let found = item_at C.attributes c within in
        let ends : AttrEnds = found.0 in
        let object : ℕ = ends.object.0 in
        let holds : holder rule.right c ≡ object = holder_at C rule.right c ends over.parts.right.holders found.1 in
        let on : nat_lt part (size_of rule.right (holder rule.right c)) ≡ true = list_all_at (is_on_part rule.right) rule.sets k set known.span.sets there in
        let below : part < size_of rule.right object = subst (λ (o : ℕ). part < size_of rule.right o) holds (ltb-true part (size_of rule.right (holder rule.right c)) on) in
        let size = item_at rule.right.sizes object (size_within rule.right.sizes object part below) in
        let of_object : first_in (λ place part. no_value_on C codes rule tuple X object part) 0 (parts_of rule.right object) ≡ None =
        none_at (λ object size. first_in (λ place part. no_value_on C codes rule tuple X object part) 0 (parts_of rule.right object)) rule.right.sizes object size.0 none size.1 in
        let of_part : no_value_on C codes rule tuple X object part ≡ None =
        none_at (λ place part. no_value_on C codes rule tuple X object part) (parts_of rule.right object) part part of_object (range_at (size_of rule.right object) part below) in
        let of_cell : fault_unless (not (object == object && lacks_value codes rule tuple X c part)) (NoValue part (record { 0 = c })) ≡ None =
        none_at (λ attr (ends : AttrEnds). fault_unless (not (ends.object.0 == object && lacks_value codes rule tuple X attr part)) (NoValue part (record { 0 = attr })))
        C.attributes c ends of_part found.1 in
        let here : is_on_cell c part set ≡ true = and_from (c == c) (part == part) (eq-eqb c c refl) (eq-eqb part part refl) in
        let test : SetCell → Bool = λ (set : SetCell). is_on_cell c part set && is_none (set_value codes rule tuple X set) in
        let passes : test set ≡ true = and_from (is_on_cell c part set) (is_none (set_value codes rule tuple X set)) here lacks in
        let some : lacks_value codes rule tuple X c part ≡ true =
        list_any_at test rule.sets k set (slice_get_within rule.sets k set there) (ap test (get_or_from_slice_get rule.sets k set set there) ∙ passes) in
        let both : (object == object && lacks_value codes rule tuple X c part) ≡ true = and_from (object == object) (lacks_value codes rule tuple X c part) (eq-eqb object object refl) some in
        let fault : fault_unless (not true) (NoValue part (record { 0 = c })) ≡ None =
        subst (λ (lacking : Bool). fault_unless (not lacking) (NoValue part (record { 0 = c })) ≡ None) both of_cell in
        cc

    -- so each set has one
    pub values_there : filter is_some (set_values codes rule tuple X) ≡ set_values codes rule tuple X
    values_there =
        all_there (set_values codes rule tuple X)
        (λ k value there. at k value (slice_get rule.sets k) refl (sym (slice_get-map (set_value codes rule tuple X) rule.sets k) ∙ there))
      where
        at : (k : ℕ) (value : Option Atom) (found : Option SetCell) → slice_get rule.sets k ≡ found
            → option_map (set_value codes rule tuple X) (slice_get rule.sets k) ≡ Some value → is_some value ≡ true
        at k value None is mapped =
            let nothing : option_map (set_value codes rule tuple X) None ≡ Some value = ap (option_map (set_value codes rule tuple X)) (sym is) ∙ mapped in
            cc
        at k value (Some set) is mapped =
            let same : Some (set_value codes rule tuple X set) ≡ Some value = ap (option_map (set_value codes rule tuple X)) (sym is) ∙ mapped in
            let one : set_value codes rule tuple X set ≡ value = cc in
            elim (cases_Bool (is_none (set_value codes rule tuple X set))) [
              | inl lacks ↦ absurd (none_lacks k set is lacks)
              | inr there ↦ ap is_some (sym one) ∙ some_there (set_value codes rule tuple X set) there
            ]
