-- The first failure of an equation, as a table and as a document have it.
use Rattle.std.proofs.Common.{◌≡◌, ◌∙◌, ℕ, ◌+◌, Bool, true, false, Option, Some, None, option_map, Ok, Err, List, [], ◌∷◌, refl, sym, subst}
use Rattle.rw_schema.specs.declared.section.Section.TheVariants as sections
use Rattle.rw_schema.specs.First.{or_else, first_in, fault_unless}
use Rattle.rw_schema.specs.RowLists.{RowLists}
use Rattle.rw_schema.specs.Signature.{Signature}
use Rattle.rw_spec.specs.Instance.{agrees_at, instance_of}
use Rattle.rw_table.specs.declared.fault.TableFault.{TableFault}
use Rattle.rw_table.specs.declared.fault.TableFault.TheVariants.{Shape, Names, Range, Kind, Equation, OutOfMemory}
use Rattle.rw_table.specs.TableFaults.{table_fault, equation_fault, failure_of, BuildsTable}
use Rattle.rw_doc.specs.declared.fault.DocFault.{DocFault}
use Rattle.rw_doc.specs.Faults.{fault_at, fault_of}
use Rattle.rw_doc.specs.Instances as spec

-- what comes where lists are an instance unless an equation fails: want of memory, or an equation's failure
abbrev pub CanCome : TableFault → Type 0
CanCome Shape = ⊥
CanCome (Names object) = ⊥
CanCome (Range arrow position) = ⊥
CanCome (Kind attribute position) = ⊥
CanCome (Equation equation name) = Unit {0}
CanCome OutOfMemory = Unit {0}

-- what is the first of two holds where each holds
one_of : {A : Type 0} (P : A → Type 0) (first second : Option A) (a : A)
    → (first ≡ Some a → P a) → (second ≡ Some a → P a) → or_else first second ≡ Some a → P a
one_of P None second a here later is = later is
one_of P (Some b) second a here later is = here is

-- a fault holds where it comes of a test that failed
unless_holds : {A : Type 0} (P : A → Type 0) (test : Bool) (fault a : A) → P fault → fault_unless test fault ≡ Some a → P a
unless_holds P true fault a holds is = let never : ⊥ = cc in absurd never
unless_holds P false fault a holds is = let same : fault ≡ a = cc in subst P same holds

-- what is first holds where each holds
first_holds : {X A : Type 0} (P : A → Type 0) (f : ℕ → X → Option A) → ((i : ℕ) (x : X) (a : A) → f i x ≡ Some a → P a)
    → (i : ℕ) (xs : List X) (a : A) → first_in f i xs ≡ Some a → P a
first_holds P f holds i [] a is = let never : ⊥ = cc in absurd never
first_holds P f holds i (x ∷ xs) a is = one_of P (f i x) (first_in f (i + 1) xs) a (holds i x a) (first_holds P f holds (i + 1) xs a) is

-- only an equation's failure is first among those of equations
only_equations : (C : Signature) (rows : RowLists) (fault : TableFault) → equation_fault C rows ≡ Some fault → CanCome fault
only_equations C rows =
    let X = instance_of C rows in
    first_holds CanCome (failure_of X)
    (λ place equation. first_holds CanCome (λ position name. fault_unless (agrees_at X equation name) (Equation place name))
    (λ position name fault. unless_holds CanCome (agrees_at X equation name) (Equation place name) fault tt) 0 (X.names equation.object.0))
    0 C.equations

-- so it is of lists that are an instance otherwise
pub can_come : (C : Signature) (rows : RowLists) (fault : TableFault) → table_fault C rows ≡ equation_fault C rows → BuildsTable C rows (Err fault) → CanCome fault
can_come C rows Shape only built = only_equations C rows Shape (sym only ∙ built)
can_come C rows (Names object) only built = only_equations C rows (Names object) (sym only ∙ built)
can_come C rows (Range arrow position) only built = only_equations C rows (Range arrow position) (sym only ∙ built)
can_come C rows (Kind attribute position) only built = only_equations C rows (Kind attribute position) (sym only ∙ built)
can_come C rows (Equation equation name) only built = tt
can_come C rows OutOfMemory only built = tt

-- a document's fault for that of a table
abbrev told : TableFault → DocFault
told Shape = fault_of 10 sections.Equation
told (Names object) = fault_of 10 sections.Equation
told (Range arrow position) = fault_of 10 sections.Equation
told (Kind attribute position) = fault_of 10 sections.Equation
told (Equation equation name) = fault_at 10 sections.Equation equation name
told OutOfMemory = fault_of 10 sections.Equation

-- the first of two, told otherwise
told_first : {A B : Type 0} (h : A → B) (first second : Option A)
    → or_else (option_map h first) (option_map h second) ≡ option_map h (or_else first second)
told_first h None second = refl
told_first h (Some a) second = refl

-- a fault of a test, told otherwise
told_unless : {A B : Type 0} (h : A → B) (test : Bool) (fault : A) → fault_unless test (h fault) ≡ option_map h (fault_unless test fault)
told_unless h true fault = refl
told_unless h false fault = refl

-- what is first, told otherwise
first_told : {X A B : Type 0} (h : A → B) (f : ℕ → X → Option A) (g : ℕ → X → Option B) → ((i : ℕ) (x : X) → g i x ≡ option_map h (f i x))
    → (i : ℕ) (xs : List X) → first_in g i xs ≡ option_map h (first_in f i xs)
first_told h f g same i [] = refl
first_told h f g same i (x ∷ xs) = rw (same i x, first_told h f g same (i + 1) xs) (told_first h (f i x) (first_in f (i + 1) xs))

-- the document's first failure is the table's
pub failure_told : (C : Signature) (rows : RowLists) → spec.first_failure C (instance_of C rows) ≡ option_map told (equation_fault C rows)
failure_told C rows =
    let X = instance_of C rows in
    first_told told (failure_of X) (spec.failure_at X)
    (λ place equation. first_told told (λ position name. fault_unless (agrees_at X equation name) (Equation place name))
    (λ position name. fault_unless (agrees_at X equation name) (fault_at 10 sections.Equation place name))
    (λ position name. told_unless told (agrees_at X equation name) (Equation place name)) 0 (X.names equation.object.0))
    0 C.equations

-- the first failure of an equation is the fault of the instance
pub equation_refused : (C : Signature) (rows : RowLists) (equation name : ℕ) → equation_fault C rows ≡ Some (Equation equation name)
    → spec.with_equations C rows ≡ Err (fault_at 10 sections.Equation equation name)
equation_refused C rows equation name is = rw (failure_told C rows, is) refl

-- where no equation fails, the lists are the instance
pub equations_hold : (C : Signature) (rows : RowLists) → equation_fault C rows ≡ None
    → spec.with_equations C rows ≡ Ok (record { signature = C; rows = rows })
equations_hold C rows none = rw (failure_told C rows, none) refl

-- where an equation fails, so does the document's reading of the equations
pub failure_read : (C : Signature) (rows : RowLists) (fault : TableFault) → equation_fault C rows ≡ Some fault
    → (given : DocFault) × (spec.with_equations C rows ≡ Err given)
failure_read C rows fault is = (told fault, rw (failure_told C rows, is) refl)
