-- The faults of lists without entries.
use Rattle.std.proofs.Common.{◌≡◌, ◌∙◌, ℕ, ◌+◌, Bool, true, false, ◌&&◌, Option, Some, None, List, [], ◌∷◌, refl, sym, ap, subst}
use Rattle.std.specs.List.{range_with_len}
use Rattle.rw_schema.specs.First.{or_else, first_in, fault_unless}
use Rattle.rw_schema.specs.Signature.{Signature}
use Rattle.rw_spec.specs.Instance.{agrees_at}
use Rattle.rw_pattern.specs.declared.fault.PatternFault.{PatternFault}
use Rattle.rw_pattern.specs.declared.fault.PatternFault.TheVariants.{Shape, Limit, Range, Kind, Variable, Equation, OutOfMemory}
use Rattle.rw_pattern.specs.PatternFaults.{pattern_fault, has_shape, has_few_parts, are_in_range, equation_fault, failure_of}
use Rattle.rw_pattern.specs.PatternLists.{PatternLists, instance_of_pattern, size_of}
use Rattle.rw_docpattern.specs.Bare.{IsBare, lists_of}

-- the fault is that of an equation
abbrev IsOfEquation : PatternFault → Type 0
IsOfEquation Shape = ⊥
IsOfEquation Limit = ⊥
IsOfEquation Range = ⊥
IsOfEquation (Kind cell) = ⊥
IsOfEquation (Variable cell) = ⊥
IsOfEquation (Equation equation part) = Unit {0}
IsOfEquation OutOfMemory = ⊥

-- what is the first of two holds where each holds
one_of : {A : Type 0} (P : A → Type 0) (first second : Option A) (a : A)
    → (first ≡ Some a → P a) → (second ≡ Some a → P a) → or_else first second ≡ Some a → P a
one_of P None second a here later is = later is
one_of P (Some b) second a here later is = here is

-- what is first in a list holds where each holds
first_holds : {X A : Type 0} (P : A → Type 0) (f : ℕ → X → Option A) → ((i : ℕ) (x : X) (a : A) → f i x ≡ Some a → P a)
    → (i : ℕ) (xs : List X) (a : A) → first_in f i xs ≡ Some a → P a
first_holds P f holds i [] a is = let never : ⊥ = cc in absurd never
first_holds P f holds i (x ∷ xs) a is = one_of P (f i x) (first_in f (i + 1) xs) a (holds i x a) (first_holds P f holds (i + 1) xs a) is

-- a fault holds where it comes of a test that failed
unless_holds : {A : Type 0} (P : A → Type 0) (test : Bool) (fault a : A) → P fault → fault_unless test fault ≡ Some a → P a
unless_holds P true fault a holds is = let never : ⊥ = cc in absurd never
unless_holds P false fault a holds is = let same : fault ≡ a = cc in subst P same holds

-- the first fault of the equations is that of one
only_equations : (C : Signature) (lists : PatternLists) (fault : PatternFault) → equation_fault C lists ≡ Some fault → IsOfEquation fault
only_equations C lists =
    first_holds IsOfEquation (failure_of lists)
    (λ place equation. first_holds IsOfEquation (λ position part. fault_unless (agrees_at (instance_of_pattern lists) equation part) (Equation place part))
    (λ position part fault. unless_holds IsOfEquation (agrees_at (instance_of_pattern lists) equation part) (Equation place part) fault tt)
    0 (range_with_len 0 (size_of lists equation.object.0)))
    0 C.equations

-- the first fault by these three tests, or that of an equation
abbrev first_fault : Bool → Bool → Bool → Option PatternFault → Option PatternFault
first_fault shape few range equation = or_else (fault_unless shape Shape) (or_else (fault_unless few Limit) (or_else (fault_unless range Range) equation))

-- a test beside one that passes
and_true : (test : Bool) → (test && true) ≡ test
and_true true = refl
and_true false = refl

-- the fault of lists without entries is the first by these tests
bare_fault : (C : Signature) (sizes : List ℕ) (rows : List (List ℕ))
    → pattern_fault C [] (lists_of C sizes rows)
    ≡ first_fault (has_shape C (lists_of C sizes rows)) (has_few_parts (lists_of C sizes rows)) (are_in_range C (lists_of C sizes rows)) (equation_fault C (lists_of C sizes rows))
bare_fault C sizes rows =
    let lists : PatternLists = lists_of C sizes rows in
    ap (λ few. first_fault (has_shape C lists) few (are_in_range C lists) (equation_fault C lists)) (and_true (has_few_parts lists))

-- the fault that lengths are wrong
shape_fails : (shape few range : Bool) (equation : Option PatternFault) → ((fault : PatternFault) → equation ≡ Some fault → IsOfEquation fault)
    → first_fault shape few range equation ≡ Some Shape → shape ≡ false
shape_fails false few range equation only is = refl
shape_fails true false range equation only is = cc
shape_fails true true false equation only is = cc
shape_fails true true true equation only is = absurd (only Shape is)

-- the fault that there are too many parts
few_fails : (shape few range : Bool) (equation : Option PatternFault) → ((fault : PatternFault) → equation ≡ Some fault → IsOfEquation fault)
    → first_fault shape few range equation ≡ Some Limit → (shape ≡ true) × (few ≡ false)
few_fails false few range equation only is = let never : ⊥ = cc in absurd never
few_fails true false range equation only is = (refl, refl)
few_fails true true false equation only is = let never : ⊥ = cc in absurd never
few_fails true true true equation only is = absurd (only Limit is)

-- the fault that an image is not there
range_fails : (shape few range : Bool) (equation : Option PatternFault) → ((fault : PatternFault) → equation ≡ Some fault → IsOfEquation fault)
    → first_fault shape few range equation ≡ Some Range → (shape ≡ true) × (few ≡ true) × (range ≡ false)
range_fails false few range equation only is = let never : ⊥ = cc in absurd never
range_fails true false range equation only is = let never : ⊥ = cc in absurd never
range_fails true true false equation only is = (refl, refl, refl)
range_fails true true true equation only is = absurd (only Range is)

-- lists with wrong lengths
pub misshapen : (C : Signature) (sizes : List ℕ) (rows : List (List ℕ)) → pattern_fault C [] (lists_of C sizes rows) ≡ Some Shape
    → has_shape C (lists_of C sizes rows) ≡ false
misshapen C sizes rows is =
    let lists : PatternLists = lists_of C sizes rows in
    shape_fails (has_shape C lists) (has_few_parts lists) (are_in_range C lists) (equation_fault C lists) (only_equations C lists) (sym (bare_fault C sizes rows) ∙ is)

-- lists with too many parts
pub too_many : (C : Signature) (sizes : List ℕ) (rows : List (List ℕ)) → pattern_fault C [] (lists_of C sizes rows) ≡ Some Limit
    → IsBare C (lists_of C sizes rows) (record { few = false; in_range = false; pattern = None })
too_many C sizes rows is =
    let lists : PatternLists = lists_of C sizes rows in
    let found = few_fails (has_shape C lists) (has_few_parts lists) (are_in_range C lists) (equation_fault C lists) (only_equations C lists) (sym (bare_fault C sizes rows) ∙ is) in
    record {
      shape = found.0;
      few = sym found.1;
      range = λ few. let never : ⊥ = cc in absurd never;
      pattern = λ few in_range. let never : ⊥ = cc in absurd never;
    }

-- lists with an image that is not there
pub astray : (C : Signature) (sizes : List ℕ) (rows : List (List ℕ)) → pattern_fault C [] (lists_of C sizes rows) ≡ Some Range
    → IsBare C (lists_of C sizes rows) (record { few = true; in_range = false; pattern = None })
astray C sizes rows is =
    let lists : PatternLists = lists_of C sizes rows in
    let found = range_fails (has_shape C lists) (has_few_parts lists) (are_in_range C lists) (equation_fault C lists) (only_equations C lists) (sym (bare_fault C sizes rows) ∙ is) in
    record {
      shape = found.0;
      few = sym found.1;
      range = λ few. sym found.2;
      pattern = λ few in_range. let never : ⊥ = cc in absurd never;
    }
