-- Names from which an arrow leads to parts that go.
use Rattle.std.proofs.Common.{◌≡◌, ◌∙◌, ◌==◌, ◌++◌, ℕ, ◌+◌, Bool, true, false, not, ◌&&◌, ◌||◌, List, [], ◌∷◌, filter, find, None, slice_get, Some, refl, sym, ap, zero-add, inl, inr}
use Rattle.std.specs.List.{list_any, range_with_len}
use Rattle.std.proofs.lemmas.Bool.{both_ways, cases_Bool, eq-eqb, false_from_ne_true}
use Rattle.std.proofs.Common.{eqb-true}
use Rattle.std.proofs.lemmas.List.Folds.{list_any-append}
use Rattle.rw_schema.specs.declared.signature.ArrowEnds.{ArrowEnds}
use Rattle.rw_schema.specs.Signature.{Signature}
use Rattle.rw_spec.specs.Ascending.{ascends}
use Rattle.rw_spec.specs.Instance.{Instance}
use Rattle.rw_spec.proofs.Signatures.{source_is}
use Rattle.rw_columns.specs.Columned.{preimage_of}
use Rattle.rw_pattern.specs.PatternLists.{map_of_tuple}
use Rattle.rw_complement.proofs.Tests.{find_none}
use Rattle.rw_redex.specs.Matched.{is_matched}
use Rattle.rw_redex.proofs.Ranges.{range_more}
use Rattle.rw_rule.specs.Images.{is_image}
use Rattle.rw_rule.specs.RuleLists.{RuleLists}
use Rattle.rw_dpo.specs.inner.Dangling.{dangles_to, leaves_name, lesser}
use Rattle.rw_dpo.proofs.Least.{find_filter, find_lesser}

-- what is beside one of two things is beside the first or beside the second
split : (a b c : Bool) → (a && (b || c)) ≡ ((a && b) || (a && c))
split true b c = refl
split false b c = refl

-- the order of two numbers does not matter to whether they are one
either_way : (x y : ℕ) → (x == y) ≡ (y == x)
either_way x y =
    elim (cases_Bool (x == y)) [
      | inl same ↦ same ∙ sym (eq-eqb y x (sym (eqb-true x y same)))
      | inr other ↦ other ∙ sym (false_from_ne_true (y == x) (λ same. both_ways (x == y) other (eq-eqb x y (sym (eqb-true y x same)))))
    ]

-- the least name that leads to one part more
pub find_more : (rule : RuleLists) (tuple : List ℕ) (X : Instance) (arrow : ℕ) (ends : ArrowEnds) (n : ℕ) → ascends (X.names ends.source.0) ≡ true
    → lesser (find (dangles_to rule tuple X arrow ends (range_with_len 0 n)) (X.names ends.source.0)) (find (dangles_to rule tuple X arrow ends (n ∷ [])) (X.names ends.source.0))
    ≡ find (dangles_to rule tuple X arrow ends (range_with_len 0 (n + 1))) (X.names ends.source.0)
find_more rule tuple X arrow ends n up =
    find_lesser (dangles_to rule tuple X arrow ends (range_with_len 0 n)) (dangles_to rule tuple X arrow ends (n ∷ []))
    (dangles_to rule tuple X arrow ends (range_with_len 0 (n + 1))) (X.names ends.source.0) up
    (λ name.
    let test : ℕ → Bool = leaves_name rule tuple ends.target.0 (X.value arrow name) in
    let more : list_any test (range_with_len 0 (n + 1)) ≡ (list_any test (range_with_len 0 n) || list_any test (n ∷ [])) =
    ap (list_any test) (range_more 0 n) ∙ ap (λ k. list_any test (range_with_len 0 n ++ k ∷ [])) (zero-add n) ∙ list_any-append test (range_with_len 0 n) (n ∷ []) in
    ap (λ b. not (is_matched rule tuple ends.source.0 name) && b) more
    ∙ split (not (is_matched rule tuple ends.source.0 name)) (list_any test (range_with_len 0 n)) (list_any test (n ∷ [])))

-- no name leads to none of the parts
pub find_nothing : (rule : RuleLists) (tuple : List ℕ) (X : Instance) (arrow : ℕ) (ends : ArrowEnds) → find (dangles_to rule tuple X arrow ends []) (X.names ends.source.0) ≡ None
find_nothing rule tuple X arrow ends =
    find_none (dangles_to rule tuple X arrow ends []) (X.names ends.source.0)
    (λ name has passes. both_ways (not (is_matched rule tuple ends.source.0 name) && false) (and_false (not (is_matched rule tuple ends.source.0 name))) passes)
  where
    and_false : (b : Bool) → (b && false) ≡ false
    and_false true = refl
    and_false false = refl

-- no name leads to a part that goes, where the part is kept
pub find_kept : (rule : RuleLists) (tuple : List ℕ) (X : Instance) (arrow : ℕ) (ends : ArrowEnds) (part : ℕ) → is_image rule.l ends.target.0 part ≡ true
    → find (dangles_to rule tuple X arrow ends (part ∷ [])) (X.names ends.source.0) ≡ None
find_kept rule tuple X arrow ends part kept =
    find_none (dangles_to rule tuple X arrow ends (part ∷ [])) (X.names ends.source.0)
    (λ name has passes.
    let test : Bool = map_of_tuple rule.goal.left tuple ends.target.0 part == X.value arrow name in
    both_ways (not (is_matched rule tuple ends.source.0 name) && ((not (is_image rule.l ends.target.0 part) && test) || false)) (fails (not (is_matched rule tuple ends.source.0 name)) (is_image rule.l ends.target.0 part) test kept) passes)
  where
    fails : (a b c : Bool) → b ≡ true → (a && ((not b && c) || false)) ≡ false
    fails true b c on = rw on refl
    fails false b c on = refl

-- the least name that leads to a part that goes is found in the preimage of its name
pub find_walked : (C : Signature) (rule : RuleLists) (tuple : List ℕ) (X : Instance) (arrow : ℕ) (ends : ArrowEnds) (part : ℕ) → slice_get C.arrows arrow ≡ Some ends
    → is_image rule.l ends.target.0 part ≡ false
    → find (λ name. not (is_matched rule tuple ends.source.0 name)) (preimage_of C X arrow (map_of_tuple rule.goal.left tuple ends.target.0 part))
    ≡ find (dangles_to rule tuple X arrow ends (part ∷ [])) (X.names ends.source.0)
find_walked C rule tuple X arrow ends part there goes =
    let w : ℕ = map_of_tuple rule.goal.left tuple ends.target.0 part in
    ap (λ object. find (λ name. not (is_matched rule tuple ends.source.0 name)) (filter (λ name. X.value arrow name == w) (X.names object))) (source_is C arrow ends there)
    ∙ find_filter (λ name. not (is_matched rule tuple ends.source.0 name)) (λ name. X.value arrow name == w) (dangles_to rule tuple X arrow ends (part ∷ [])) (X.names ends.source.0)
    (λ name. turned (not (is_matched rule tuple ends.source.0 name)) (is_image rule.l ends.target.0 part) (w == X.value arrow name) (X.value arrow name == w) goes (either_way w (X.value arrow name)))
  where
    turned : (a b c d : Bool) → b ≡ false → c ≡ d → (a && ((not b && c) || false)) ≡ (d && a)
    turned true b true d off same = rw (off, ← same) refl
    turned true b false d off same = rw (off, ← same) refl
    turned false b true d off same = rw (← same) refl
    turned false b false d off same = rw (← same) refl
