-- Touched names are names of the host.
use Rattle.std.proofs.Common.{◌≡◌, ◌∙◌, ◌<◌, ℕ, All, Contains, List, [], Some, get_or, length, map, sym, ap, subst}
use Rattle.std.proofs.lemmas.List.{length-map}
use Rattle.std.proofs.lemmas.List.Elements.{Contains-get_or}
use Rattle.rw_schema.specs.RowLists.{list_at}
use Rattle.rw_schema.specs.Signature.{Signature}
use Rattle.rw_schema.proofs.Lists.{list_at_map}
use Rattle.rw_spec.specs.Instance.{Instance, Has}
use Rattle.rw_spec.proofs.Sequences.{contains_map}
use Rattle.rw_rule.specs.RuleLists.{RuleLists}
use Rattle.rw_columns.specs.inner.Filled.{AreAll}
use Rattle.rw_delta.specs.ContextLists.{ContextLists}
use Rattle.rw_glue.specs.inner.Sides.{CanTouch, IsTouched}

-- so it is where each kept part has a name of the host
pub touched_there : (C : Signature) (X : Instance) (rule : RuleLists) (context : ContextLists) (images touched : List (List ℕ)) → CanTouch C X rule context
    → map (map (λ name. Some name)) images ≡ context.of_keep → AreAll [] (IsTouched images) C.objects touched
    → (object : ℕ) → object < C.objects → All (Has X object) (list_at touched object)
touched_there C X rule context images touched can same are object within = λ k d below.
    let x : ℕ = get_or (list_at touched object) k d in
    let among : Contains (list_at images object) x = ((are.each object within).members x).0 (Contains-get_or (list_at touched object) k d below) in
    let long : length images ≡ C.objects = sym (length-map images (map (λ name. Some name))) ∙ ap length same ∙ can.counted in
    let wrapped : list_at context.of_keep object ≡ map (λ name. Some name) (list_at images object) =
    ap (λ lists. list_at lists object) (sym same) ∙ list_at_map (map (λ name. Some name)) images object [] (rw long within) in
    can.names object x within
    (subst (λ names. Contains names (Some x)) (sym wrapped) (contains_map (λ (name : ℕ). Some name) (list_at images object) x among))
