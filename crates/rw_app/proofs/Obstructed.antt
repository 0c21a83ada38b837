-- What an obstruction names.
use Rattle.std.proofs.Common.{◌≡◌, ◌==◌, ℕ, ◌+◌, ◌<◌, Bool, true, false, not, ◌&&◌, nat_le, Option, Some, None, List, [], ◌∷◌, length, map, subst, arith}
use Rattle.std.specs.List.{All}
use Rattle.std.proofs.lemmas.List.{length-map}
use Rattle.std.proofs.lemmas.List.Elements.{All-weaker}
use Rattle.std.proofs.lemmas.Option.{slice_get_within}
use Rattle.rw_schema.specs.declared.signature.ArrowEnds.{ArrowEnds}
use Rattle.rw_schema.specs.declared.signature.AttrEnds.{AttrEnds}
use Rattle.rw_schema.specs.First.{or_else, first_in, fault_unless}
use Rattle.rw_schema.specs.Presentation.{Presentation, signature_of, ends_of_arrow, ends_of_attribute}
use Rattle.rw_schema.specs.RowLists.{RowLists}
use Rattle.rw_schema.specs.Signature.{IsCategory}
use Rattle.rw_schema.specs.declared.atom.Atom.{Atom}
use Rattle.rw_spec.specs.Cocone.{Frame}
use Rattle.rw_spec.specs.Instance.{Instance, instance_of}
use Rattle.rw_terms.specs.declared.code.OpCode.{OpCode}
use Rattle.rw_rule.specs.Images.{parts_of}
use Rattle.rw_rule.specs.RuleLists.{RuleLists}
use Rattle.rw_rule.specs.declared.refusal.Refusal.{Refusal}
use Rattle.rw_rule.specs.declared.refusal.Refusal.TheVariants.{Identification, Dangling, NoValue, TooLarge, Clash}
use Rattle.rw_redex.specs.NewParts.{next_after}
use Rattle.rw_redex.specs.Obstructions.{most_names, dangles, dangling_at, dangling, too_large}
use Rattle.rw_redex.specs.SetValues.{lacks_value, no_value, no_value_on}
use Rattle.rw_redex.specs.Gluing.{identification, identification_at, identification_of, identifies}
use Rattle.rw_redex.specs.Verdicts.{Obstructs, early, step_frame}
use Rattle.rw_glued.specs.Clash.{Clashes}
use Rattle.rw_print.specs.Lines.{IsKnown}
use Rattle.rw_app.specs.Runs.{AreRefused, IsObstructed}

-- what holds of the first of two answers, where it is there, and of the second holds of what is answered
or_else_holds : {A : Type 0} (P : A → Type 0) (first second : Option A) (answer : A) → (first ≡ Some answer → P answer) → (second ≡ Some answer → P answer)
    → or_else first second ≡ Some answer → P answer
or_else_holds P None second answer of_first of_second found = of_second found
or_else_holds P (Some first) second answer of_first of_second found = of_first found

-- what holds of each answer of an item holds of the first answer
first_holds : {X A : Type 0} (P : A → Type 0) (f : ℕ → X → Option A) (i : ℕ) (xs : List X) (answer : A)
    → ((k : ℕ) (x : X) → k < i + length xs → f k x ≡ Some answer → P answer) → first_in f i xs ≡ Some answer → P answer
first_holds P f i [] answer each found = let no : ⊥ = cc in absurd no
first_holds P f i (x ∷ xs) answer each found =
    or_else_holds P (f i x) (first_in f (i + 1) xs) answer
    (each i x (omega arith))
    (first_holds P f (i + 1) xs answer (λ k y within. each k y (omega arith)))
    found

-- what holds of a fault holds of the answer of its test
unless_holds : {A : Type 0} (P : A → Type 0) (test : Bool) (fault answer : A) → P fault → fault_unless test fault ≡ Some answer → P answer
unless_holds P true fault answer holds found = let no : ⊥ = cc in absurd no
unless_holds P false fault answer holds found = let same : fault ≡ answer = cc in subst P same holds

-- the obstruction of an arrow that dangles names the arrow
dangling_at_known : (schema : Presentation) (rule : RuleLists) (tuple : List ℕ) (X : Instance) (arrow : ℕ) (ends : ArrowEnds) (refusal : Refusal)
    → arrow < length schema.arrows → dangling_at rule tuple X arrow ends ≡ Some refusal → IsKnown schema refusal
dangling_at_known schema rule tuple X arrow ends refusal within found =
    let test : ℕ → Bool = λ name. not (dangles rule tuple X arrow ends name) in
    let fault : ℕ → Refusal = λ name. Dangling (record { 0 = arrow }) name in
    first_holds (IsKnown schema) (λ place name. fault_unless (test name) (fault name)) 0 (X.names ends.source.0) refusal
    (λ place name inside here. unless_holds (IsKnown schema) (test name) (fault name) refusal within here) found

-- an arrow that dangles is an arrow of the schema
dangling_known : (schema : Presentation) (rule : RuleLists) (tuple : List ℕ) (X : Instance) (refusal : Refusal)
    → dangling (signature_of schema) rule tuple X ≡ Some refusal → IsKnown schema refusal
dangling_known schema rule tuple X refusal found =
    let arrows : length (map ends_of_arrow schema.arrows) ≡ length schema.arrows = length-map schema.arrows ends_of_arrow in
    first_holds (IsKnown schema) (dangling_at rule tuple X) 0 (map ends_of_arrow schema.arrows) refusal
    (λ arrow ends within here. dangling_at_known schema rule tuple X arrow ends refusal (omega arith) here) found

-- an object with too many names is an object of the schema, where each object has one next name
too_large_known : (schema : Presentation) (rule : RuleLists) (next : List ℕ) (refusal : Refusal) → length next ≡ length schema.objects
    → too_large rule next ≡ Some refusal → IsKnown schema refusal
too_large_known schema rule next refusal each found =
    let test : ℕ → Bool = λ object. nat_le (next_after rule next object) most_names in
    let fault : ℕ → Refusal = λ object. TooLarge (record { 0 = object }) in
    first_holds (IsKnown schema) (λ object name. fault_unless (test object) (fault object)) 0 next refusal
    (λ object name within here. unless_holds (IsKnown schema) (test object) (fault object) refusal (omega arith) here) found

-- an attribute whose set has no value is one of the schema
no_value_on_known : (schema : Presentation) (codes : List OpCode) (rule : RuleLists) (tuple : List ℕ) (X : Instance) (holder part : ℕ) (refusal : Refusal)
    → no_value_on (signature_of schema) codes rule tuple X holder part ≡ Some refusal → IsKnown schema refusal
no_value_on_known schema codes rule tuple X holder part refusal found =
    let attributes : length (map ends_of_attribute schema.attributes) ≡ length schema.attributes = length-map schema.attributes ends_of_attribute in
    let test : ℕ → AttrEnds → Bool = λ attr ends. not (ends.object.0 == holder && lacks_value codes rule tuple X attr part) in
    let fault : ℕ → Refusal = λ attr. NoValue part (record { 0 = attr }) in
    first_holds (IsKnown schema) (λ attr ends. fault_unless (test attr ends) (fault attr)) 0 (map ends_of_attribute schema.attributes) refusal
    (λ attr ends within here. unless_holds (IsKnown schema) (test attr ends) (fault attr) refusal (omega arith) here) found

-- and so is the first
no_value_known : (schema : Presentation) (codes : List OpCode) (rule : RuleLists) (tuple : List ℕ) (X : Instance) (refusal : Refusal)
    → no_value (signature_of schema) codes rule tuple X ≡ Some refusal → IsKnown schema refusal
no_value_known schema codes rule tuple X refusal found =
    first_holds (IsKnown schema) (λ holder size. first_in (λ place part. no_value_on (signature_of schema) codes rule tuple X holder part) 0 (parts_of rule.right holder)) 0 rule.right.sizes refusal
    (λ holder size inside there. first_holds (IsKnown schema) (λ place part. no_value_on (signature_of schema) codes rule tuple X holder part) 0 (parts_of rule.right holder) refusal
    (λ place part within here. no_value_on_known schema codes rule tuple X holder part refusal here) there) found

-- parts that are identified are of an object of the schema
identification_known : (schema : Presentation) (rule : RuleLists) (tuple : List ℕ) (refusal : Refusal) → length rule.goal.left.sizes ≡ length schema.objects
    → identification rule tuple ≡ Some refusal → IsKnown schema refusal
identification_known schema rule tuple refusal each found =
    let left = parts_of rule.goal.left in
    first_holds (IsKnown schema) (identification_at rule tuple) 0 rule.goal.left.sizes refusal
    (λ object size inside there. first_holds (IsKnown schema) (λ place first. identification_of rule tuple object first) 0 (left object) refusal
    (λ place first within here.
    let test : ℕ → Bool = λ second. not (identifies rule tuple object first second) in
    let fault : ℕ → Refusal = λ second. Identification (record { 0 = object }) first second in
    first_holds (IsKnown schema) (λ place second. fault_unless (test second) (fault second)) 0 (left object) refusal
    (λ place second within later. unless_holds (IsKnown schema) (test second) (fault second) refusal (omega arith) later) here) there) found

-- atoms clash at an attribute of an object of the schema
clash_known : (schema : Presentation) (F : Frame) (next : List ℕ) (object name attr : ℕ) (first second : Atom) → IsCategory (signature_of schema)
    → Clashes (signature_of schema) F next object name attr first second → (object < length schema.objects) × (attr < length schema.attributes)
clash_known schema F next object name attr first second category clashes =
    let C = signature_of schema in
    let ends : AttrEnds = clashes.clash.ends in
    let known : ends.object.0 < C.objects = category.holders attr ends clashes.clash.there in
    let within : attr < length C.attributes = slice_get_within C.attributes attr ends clashes.clash.there in
    let attributes : length C.attributes ≡ length schema.attributes = length-map schema.attributes ends_of_attribute in
    (subst (λ (other : ℕ). other < length schema.objects) clashes.clash.holder known, omega arith)

-- what obstructs a match before atoms are compared names an arrow, an attribute or an object of the schema
early_known : (schema : Presentation) (codes : List OpCode) (rule : RuleLists) (tuple : List ℕ) (X : Instance) (next : List ℕ) (refusal : Refusal)
    → length rule.goal.left.sizes ≡ length schema.objects → length next ≡ length schema.objects
    → early (signature_of schema) codes rule tuple X next ≡ Some refusal → IsKnown schema refusal
early_known schema codes rule tuple X next refusal objects each found =
    let C = signature_of schema in
    or_else_holds (IsKnown schema) (identification rule tuple) (or_else (dangling C rule tuple X) (or_else (no_value C codes rule tuple X) (too_large rule next))) refusal
    (identification_known schema rule tuple refusal objects)
    (or_else_holds (IsKnown schema) (dangling C rule tuple X) (or_else (no_value C codes rule tuple X) (too_large rule next)) refusal
    (dangling_known schema rule tuple X refusal)
    (or_else_holds (IsKnown schema) (no_value C codes rule tuple X) (too_large rule next) refusal
    (no_value_known schema codes rule tuple X refusal) (too_large_known schema rule next refusal each))) found

-- and so does each obstruction
obstruction_known : (schema : Presentation) (codes : List OpCode) (rule : RuleLists) (tuple : List ℕ) (X : Instance) (next : List ℕ) (refusal : Refusal)
    → IsCategory (signature_of schema) → length rule.goal.left.sizes ≡ length schema.objects → length next ≡ length schema.objects
    → Obstructs (signature_of schema) codes rule tuple X next refusal → IsKnown schema refusal
obstruction_known schema codes rule tuple X next (Identification object first second) category objects each is =
    early_known schema codes rule tuple X next (Identification object first second) objects each is
obstruction_known schema codes rule tuple X next (Dangling arrow part) category objects each is =
    early_known schema codes rule tuple X next (Dangling arrow part) objects each is
obstruction_known schema codes rule tuple X next (NoValue part attr) category objects each is =
    early_known schema codes rule tuple X next (NoValue part attr) objects each is
obstruction_known schema codes rule tuple X next (TooLarge object) category objects each is =
    early_known schema codes rule tuple X next (TooLarge object) objects each is
obstruction_known schema codes rule tuple X next (Clash object name attr first second) category objects each is =
    clash_known schema (step_frame (signature_of schema) codes rule tuple X) next object.0 name attr.0 first second category is.1

-- and so do those of the refused matches
pub refused_known : (schema : Presentation) (codes : List OpCode) (rule : RuleLists) (rows : RowLists) (refused : List (List ℕ × Refusal))
    → IsCategory (signature_of schema) → length rule.goal.left.sizes ≡ length schema.objects → length rows.next ≡ length schema.objects
    → AreRefused (signature_of schema) codes rule rows refused → All (λ (entry : List ℕ × Refusal). IsKnown schema entry.1) refused
refused_known schema codes rule rows refused category objects each are =
    All-weaker (λ (entry : List ℕ × Refusal). IsObstructed (signature_of schema) codes rule rows entry.0 entry.1) (λ (entry : List ℕ × Refusal). IsKnown schema entry.1)
    (λ entry found. obstruction_known schema codes rule entry.0 (instance_of (signature_of schema) rows) rows.next entry.1 category objects each found) refused are
