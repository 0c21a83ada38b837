-- Paths: following one stays among the names, and a natural map commutes with it. So the path equations of a limit follow
-- from those of its sides.
use Rattle.std.proofs.Common.{◌≡◌, ◌∙◌, ℕ, ◌<◌, List, [], ◌∷◌, ap, sym, subst}
use Rattle.rw_schema.specs.declared.ids.ArrowId.{ArrowId}
use Rattle.rw_schema.specs.Signature.{Signature, IsCategory, IsPath}
use Rattle.rw_spec.specs.Instance.{Instance, Has, follow}
use Rattle.rw_spec.specs.Natural.{Map, IsNatural}
use Rattle.rw_spec.specs.Values.{HasValues}

-- a path from an object leads to an object
pub path_end : (C : Signature) → IsCategory C → (from : ℕ) (path : List ArrowId) (to : ℕ) → IsPath C from path to → from < C.objects → to < C.objects
path_end C category from [] to leads below = subst (λ (object : ℕ). object < C.objects) leads below
path_end C category from (arrow ∷ path) to (ends, there, leaves, leads) below =
    path_end C category ends.target.0 path to leads (category.targets arrow.0 ends there)

-- a path leads from a name to a name
pub follow_has : (C : Signature) (X : Instance) → HasValues C X → (from : ℕ) (path : List ArrowId) (to : ℕ) → IsPath C from path to
    → (x : ℕ) → Has X from x → Has X to (follow X path x)
follow_has C X values from [] to leads x part = subst (λ (object : ℕ). Has X object x) leads part
follow_has C X values from (arrow ∷ path) to (ends, there, leaves, leads) x part =
    let source : Has X ends.source.0 x = subst (λ (object : ℕ). Has X object x) (sym leaves) part in
    follow_has C X values ends.target.0 path to leads (X.value arrow.0 x) (values arrow.0 ends x there source)

-- a natural map commutes with a path
pub follow_natural : (C : Signature) (X Y : Instance) (f : Map) → HasValues C X → IsNatural C X Y f
    → (from : ℕ) (path : List ArrowId) (to : ℕ) → IsPath C from path to
    → (x : ℕ) → Has X from x → f to (follow X path x) ≡ follow Y path (f from x)
follow_natural C X Y f values natural from [] to leads x part = ap (λ object. f object x) (sym leads)
follow_natural C X Y f values natural from (arrow ∷ path) to (ends, there, leaves, leads) x part =
    let source : Has X ends.source.0 x = subst (λ (object : ℕ). Has X object x) (sym leaves) part in
    let onward : f to (follow X path (X.value arrow.0 x)) ≡ follow Y path (f ends.target.0 (X.value arrow.0 x)) =
    follow_natural C X Y f values natural ends.target.0 path to leads (X.value arrow.0 x) (values arrow.0 ends x there source) in
    let step : f ends.target.0 (X.value arrow.0 x) ≡ Y.value arrow.0 (f from x) =
    natural.commutes arrow.0 ends x there source ∙ ap (λ object. Y.value arrow.0 (f object x)) leaves in
    onward ∙ ap (follow Y path) step
