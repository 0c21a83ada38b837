-- Over a host part from which no path leads into the match there is exactly one part.
use Rattle.std.proofs.Common.{◌≡◌, ◌∙◌, ◌<◌, ℕ, zero, suc, List, [], ◌∷◌, Some, slice_get, refl, sym, ap, subst, arith}
use Rattle.rw_schema.specs.declared.ids.ArrowId.{ArrowId}
use Rattle.rw_schema.specs.declared.signature.ArrowEnds.{ArrowEnds}
use Rattle.rw_schema.specs.Signature.{Signature, IsCategory, IsPath}
use Rattle.rw_spec.specs.Instance.{Instance, Has, follow}
use Rattle.rw_spec.specs.Natural.{Map}
use Rattle.rw_universal.proofs.Paths.{path_end, follow_has, follow_natural}
use Rattle.rw_spec.specs.Redex.{Redex}
use Rattle.rw_copies.specs.Copying.{IsRank, IsInjectiveMatch, IsOutside, follow_from, IsCopying}
use Rattle.rw_copies.proofs.Final.{answer_of, rank_falls}

-- no path leads from the host part into the match, the empty one included
abbrev pub IsClear : Signature → Redex → ℕ → ℕ → Type 0
IsClear C R object g = (to : ℕ) (path : List ArrowId) → IsPath C object path to → IsOutside R to (follow R.host path g)

module _ (C : Signature) (category : IsCategory C) (rank : ℕ → ℕ) (ranked : IsRank C rank) (R : Redex) (match : IsInjectiveMatch C R) (D : Instance) (k e : Map) (copying : IsCopying C R D k e) where
  clear_value : (object g a : ℕ) (ends : ArrowEnds) → slice_get C.arrows a ≡ Some ends → ends.source.0 ≡ object → IsClear C R object g → IsClear C R ends.target.0 (R.host.value a g)
  clear_value object g a ends there leaves clear to path leads = clear to (record { 0 = a } ∷ path) (ends, there, leaves, leads)

  falls : (n object a : ℕ) (ends : ArrowEnds) → slice_get C.arrows a ≡ Some ends → ends.source.0 ≡ object → rank object < suc n → rank ends.target.0 < n
  falls n object a ends there leaves low =
      let less : rank ends.target.0 < rank object = subst (λ (o : ℕ). rank ends.target.0 < rank o) leaves (ranked a ends there) in
      omega arith

  -- there is at most one
  clear_once : (n object g v w : ℕ) → rank object < n → object < C.objects → IsClear C R object g → Has D object v → Has D object w → e object v ≡ g → e object w ≡ g → v ≡ w
  clear_once zero object g v w low below clear v_part w_part v_over w_over = absurd (omega arith)
  clear_once (suc n) object g v w low below clear v_part w_part v_over w_over =
      copying.once object v w below v_part w_part (λ x left is. clear object [] refl x left (is ∙ v_over)) (v_over ∙ sym w_over) (λ a ends there leaves.
      let v_source = subst (λ (o : ℕ). Has D o v) (sym leaves) v_part in
      let w_source = subst (λ (o : ℕ). Has D o w) (sym leaves) w_part in
      clear_once n ends.target.0 (R.host.value a g) (D.value a v) (D.value a w) (falls n object a ends there leaves low) (category.targets a ends there)
      (clear_value object g a ends there leaves clear) (copying.instance.values a ends v there v_source) (copying.instance.values a ends w there w_source)
      (copying.to_host.commutes a ends v there v_source ∙ ap (λ (o : ℕ). R.host.value a (e o v)) leaves ∙ ap (R.host.value a) v_over)
      (copying.to_host.commutes a ends w there w_source ∙ ap (λ (o : ℕ). R.host.value a (e o w)) leaves ∙ ap (R.host.value a) w_over))

  -- where the sides of an equation meet at a clear host part, they agree on a family with nothing read
  clear_meet : (object g : ℕ) → object < C.objects → (family : ℕ → ℕ)
      → ((a : ℕ) (ends : ArrowEnds) → slice_get C.arrows a ≡ Some ends → ends.source.0 ≡ object → Has D ends.target.0 (family a) × (e ends.target.0 (family a) ≡ R.host.value a g))
      → (to : ℕ) (left right : List ArrowId) → IsPath C object left to → IsPath C object right to → follow R.host left g ≡ follow R.host right g
      → IsClear C R to (follow R.host left g) → follow_from D family left ≡ follow_from D family right
  clear_meet object g below family over to [] [] first second same clear = refl
  clear_meet object g below family over to [] (b ∷ right) first (ends, there, leaves, leads) same clear =
      let less = falls (rank object) object b.0 ends there leaves (omega arith) in let rest = rank_falls C rank ranked ends.target.0 right to leads in let one : rank object ≡ rank to = ap rank first in absurd (omega arith)
  clear_meet object g below family over to (a ∷ left) [] (ends, there, leaves, leads) second same clear =
      let less = falls (rank object) object a.0 ends there leaves (omega arith) in let rest = rank_falls C rank ranked ends.target.0 left to leads in let one : rank object ≡ rank to = ap rank second in absurd (omega arith)
  clear_meet object g below family over to (a ∷ left) (b ∷ right) (a_ends, a_there, a_leaves, a_leads) (b_ends, b_there, b_leaves, b_leads) same clear =
      let a_over = over a.0 a_ends a_there a_leaves in
      let b_over = over b.0 b_ends b_there b_leaves in
      let a_end : e to (follow D left (family a.0)) ≡ follow R.host (a ∷ left) g =
      follow_natural C D R.host e copying.instance.values copying.to_host a_ends.target.0 left to a_leads (family a.0) a_over.0 ∙ ap (follow R.host left) a_over.1 in
      let b_end : e to (follow D right (family b.0)) ≡ follow R.host (b ∷ right) g =
      follow_natural C D R.host e copying.instance.values copying.to_host b_ends.target.0 right to b_leads (family b.0) b_over.0 ∙ ap (follow R.host right) b_over.1 in
      clear_once (suc (rank to)) to (follow R.host (a ∷ left) g) (follow D left (family a.0)) (follow D right (family b.0)) (omega arith)
      (path_end C category a_ends.target.0 left to a_leads (category.targets a.0 a_ends a_there)) clear
      (follow_has C D copying.instance.values a_ends.target.0 left to a_leads (family a.0) a_over.0)
      (follow_has C D copying.instance.values b_ends.target.0 right to b_leads (family b.0) b_over.0)
      a_end (b_end ∙ sym same)

  -- what is reached from a clear host part is clear
  clear_along : (from : ℕ) (path : List ArrowId) (to g : ℕ) → IsPath C from path to → IsClear C R from g → IsClear C R to (follow R.host path g)
  clear_along from [] to g leads clear = subst (λ (o : ℕ). IsClear C R o g) leads clear
  clear_along from (a ∷ path) to g (ends, there, leaves, leads) clear =
      clear_along ends.target.0 path to (R.host.value a.0 g) leads (clear_value from g a.0 ends there leaves clear)

  -- there is one
  clear_exists : (n object g : ℕ) → rank object < n → object < C.objects → Has R.host object g → IsClear C R object g → (v : ℕ) × Has D object v × (e object v ≡ g)
  clear_exists zero object g low below has clear = absurd (omega arith)
  clear_exists (suc n) object g low below has clear =
      let answers : (a : ℕ) → (y : ℕ) × ((ends : ArrowEnds) → slice_get C.arrows a ≡ Some ends → ends.source.0 ≡ object → Has D ends.target.0 y × (e ends.target.0 y ≡ R.host.value a g)) =
      λ a. answer_of object (λ ends y. Has D ends.target.0 y × (e ends.target.0 y ≡ R.host.value a g)) (slice_get C.arrows a) (λ ends there leaves.
      let found = clear_exists n ends.target.0 (R.host.value a g) (falls n object a ends there leaves low) (category.targets a ends there)
      (match.host.values a ends g there (subst (λ (o : ℕ). Has R.host o g) (sym leaves) has)) (clear_value object g a ends there leaves clear) in
      (found.0, (found.1, found.2))) in
      let family : ℕ → ℕ = λ a. (answers a).0 in
      let over : (a : ℕ) (ends : ArrowEnds) → slice_get C.arrows a ≡ Some ends → ends.source.0 ≡ object → Has D ends.target.0 (family a) × (e ends.target.0 (family a) ≡ R.host.value a g) = λ a. (answers a).1 in
      let made = copying.each object g family below has (λ x left is. clear object [] refl x left is) (record {
        parts = λ a ends there leaves. (over a ends there leaves).0;
        over = λ a ends there leaves. (over a ends there leaves).1;
        equations = λ number equation there starts.
            let paths = category.paths number equation there in
            let left_path = subst (λ (o : ℕ). IsPath C o equation.left paths.0) starts paths.1 in
            clear_meet object g below family over paths.0 equation.left equation.right left_path (subst (λ (o : ℕ). IsPath C o equation.right paths.0) starts paths.2)
            (match.host.equations number equation g there (subst (λ (o : ℕ). Has R.host o g) (sym starts) has)) (clear_along object equation.left paths.0 g left_path clear);
      }) in
      (made.0, made.1, made.2)
