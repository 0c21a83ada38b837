-- Where paths of arrows lead.
use Rattle.std.proofs.Common.{◌≡◌, ℕ, zero, suc, ◌<◌, ◌==◌, Bool, true, false, nat_lt, Option, Some, None, option_and_then, List, [], ◌∷◌, length, map, slice_index, slice_get, refl, sym, ap, ◌∙◌, arith, ltb-true, if◌then◌else◌}
use Rattle.std.proofs.lemmas.Bool.{and_parts, eqb-true}
use Rattle.std.proofs.lemmas.Option.{slice_get-map}
use Rattle.std.specs.Option.{option_map}
use Rattle.rw_schema.specs.declared.ids.ArrowId.{ArrowId}
use Rattle.rw_schema.specs.declared.parts.ArrowDef.{ArrowDef}
use Rattle.rw_schema.specs.declared.parts.Equation.{Equation}
use Rattle.rw_schema.specs.Presentation.{Presentation, signature_of, ends_of_arrow}
use Rattle.rw_schema.specs.SchemaFaults.{has_arrows, end_of_path, is_same_end, sides_meet}
use Rattle.rw_schema.specs.Signature.{IsPath}

-- a list has an item at each place within
pub item_at : {X : Type 0} (xs : List X) (k : ℕ) → k < length xs → (x : X) × (slice_get xs k ≡ Some x)
item_at [] k within = absurd (omega arith)
item_at (x ∷ xs) zero within = (x, refl)
item_at (x ∷ xs) (suc k) within = item_at xs k (omega arith)

-- the number at a place of a mapped list comes from what stands there in the list
pub number_at : {X : Type 0} (h : X → ℕ) (xs : List X) (k : ℕ) (x : X) → slice_get xs k ≡ Some x → slice_index (map h xs) k ≡ h x
number_at h [] k x there = cc
number_at h (y ∷ xs) zero x there =
    let same : y ≡ x = cc in
    ap h same
number_at h (y ∷ xs) (suc k) x there = number_at h xs k x there

-- where a choice goes on and something comes of it, the test passed
pub went_on : {A B : Type 0} (test : Bool) (next : A) (more : A → Option B) (y : B)
    → option_and_then more (if test then Some next else None) ≡ Some y → (test ≡ true) × (more next ≡ Some y)
went_on true next more y came = (refl, came)
went_on false next more y came = cc

-- a path of arrows that has an end leads there
pub leads : (schema : Presentation) (from : ℕ) (path : List ArrowId) (to : ℕ)
    → has_arrows (length schema.arrows) path ≡ true → end_of_path schema.arrows from path ≡ Some to → IsPath (signature_of schema) from path to
leads schema from [] to known ends = cc
leads schema from (arrow ∷ path) to known ends =
    let parts = and_parts (nat_lt arrow.0 (length schema.arrows)) (has_arrows (length schema.arrows) path) known in
    let entry = item_at schema.arrows arrow.0 (ltb-true arrow.0 (length schema.arrows) parts.0) in
    let source = slice_index (map (λ (a : ArrowDef). a.source.0) schema.arrows) arrow.0 in
    let target = slice_index (map (λ (a : ArrowDef). a.target.0) schema.arrows) arrow.0 in
    let source_is : source ≡ entry.0.source.0 = number_at (λ (a : ArrowDef). a.source.0) schema.arrows arrow.0 entry.0 entry.1 in
    let target_is : target ≡ entry.0.target.0 = number_at (λ (a : ArrowDef). a.target.0) schema.arrows arrow.0 entry.0 entry.1 in
    let on = went_on (source == from) target (λ next. end_of_path schema.arrows next path) to ends in
    let leaves : entry.0.source.0 ≡ from = sym source_is ∙ eqb-true source from on.0 in
    let rest : end_of_path schema.arrows entry.0.target.0 path ≡ Some to = ap (λ next. end_of_path schema.arrows next path) (sym target_is) ∙ on.1 in (
      ends_of_arrow entry.0,
      slice_get-map ends_of_arrow schema.arrows arrow.0 ∙ ap (option_map ends_of_arrow) entry.1,
      leaves,
      leads schema entry.0.target.0 path to parts.1 rest,
    )

-- ends that are the same are one object
pub one_end : (left right : Option ℕ) → is_same_end left right ≡ true → (to : ℕ) × (left ≡ Some to) × (right ≡ Some to)
one_end None other same = let no : ⊥ = cc in absurd no
one_end (Some left) None same = let no : ⊥ = cc in absurd no
one_end (Some left) (Some right) same = (left, refl, ap (λ end. Some end) (sym (eqb-true left right same)))

-- sides that meet are paths to one object
pub sides_lead : (schema : Presentation) (equation : Equation) → has_arrows (length schema.arrows) equation.left ≡ true → has_arrows (length schema.arrows) equation.right ≡ true
    → sides_meet schema.arrows equation ≡ true
    → (to : ℕ) × IsPath (signature_of schema) equation.object.0 equation.left to × IsPath (signature_of schema) equation.object.0 equation.right to
sides_lead schema equation left right meet =
    let end = one_end (end_of_path schema.arrows equation.object.0 equation.left) (end_of_path schema.arrows equation.object.0 equation.right) meet in
    (end.0, leads schema equation.object.0 equation.left end.0 left end.1, leads schema equation.object.0 equation.right end.0 right end.2)
