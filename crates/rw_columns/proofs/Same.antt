-- What is the same as an instance is one.
use Rattle.std.proofs.Common.{◌≡◌, ◌∙◌, ℕ, List, [], ◌∷◌, refl, sym, ap, subst}
use Rattle.rw_schema.specs.declared.ids.ArrowId.{ArrowId}
use Rattle.rw_schema.specs.Signature.{Signature, IsPath, IsCategory}
use Rattle.rw_spec.specs.Instance.{Instance, Has, IsInstance, follow}
use Rattle.rw_spec.specs.Same.{AreSame}

-- a path leads to the same name
same_follow : (C : Signature) (X Y : Instance) → AreSame C X Y → IsInstance C X → (path : List ArrowId) (from to x : ℕ) → IsPath C from path to → Has X from x
    → follow X path x ≡ follow Y path x
same_follow C X Y same is [] from to x leads has = refl
same_follow C X Y same is (arrow ∷ path) from to x (ends, arrow_is, leaves, rest) has =
    let has_now : Has X ends.source.0 x = subst (λ (object : ℕ). Has X object x) (sym leaves) has in
    same_follow C X Y same is path ends.target.0 to (X.value arrow.0 x) rest (is.values arrow.0 ends x arrow_is has_now)
    ∙ ap (follow Y path) (same.values arrow.0 ends x arrow_is has_now)

-- what has the same names, and at these the same values and cells, is an instance too
pub same_instance : (C : Signature) (X Y : Instance) → IsCategory C → AreSame C X Y → IsInstance C X → IsInstance C Y
same_instance C X Y category same is = record {
  values = λ a ends x there has.
      let has_first = (same.names ends.source.0 x (category.sources a ends there)).1 has in
      subst (Has Y ends.target.0) (same.values a ends x there has_first)
      ((same.names ends.target.0 (X.value a x) (category.targets a ends there)).0 (is.values a ends x there has_first));
  atoms = λ c ends x atom there has is_cell.
      let has_first = (same.names ends.object.0 x (category.holders c ends there)).1 has in
      is.atoms c ends x atom there has_first (same.cells c ends x there has_first ∙ is_cell);
  equations = λ e equation x there has.
      let has_first = (same.names equation.object.0 x (category.starts e equation there)).1 has in
      let paths = category.paths e equation there in
      sym (same_follow C X Y same is equation.left equation.object.0 paths.0 x paths.1 has_first)
      ∙ is.equations e equation x there has_first
      ∙ same_follow C X Y same is equation.right equation.object.0 paths.0 x paths.2 has_first;
}
