-- A copying is made object by object.
use Rattle.std.proofs.Common.{◌≡◌, ◌∙◌, ◌<◌, ℕ, inl, inr, List, [], ◌∷◌, Contains, Some, slice_get, refl, sym, ap, subst}
use Rattle.rw_schema.specs.declared.ids.ArrowId.{ArrowId}
use Rattle.rw_schema.specs.declared.signature.ArrowEnds.{ArrowEnds}
use Rattle.rw_schema.specs.Signature.{Signature, IsCategory, IsPath}
use Rattle.rw_spec.specs.Instance.{Instance, Has, follow}
use Rattle.rw_spec.specs.Natural.{Map}
use Rattle.rw_spec.specs.Redex.{Redex}
use Rattle.rw_copies.specs.Copying.{IsInjectiveMatch, follow_from, IsCopying}
use Rattle.rw_copies.specs.CopyingAt.{IsCopyingAt, AreSameAt}
use Rattle.rw_copies.proofs.Final.{sides}

-- a copying at each object is a copying
pub copying_from_at : (C : Signature) → IsCategory C → (R : Redex) → IsInjectiveMatch C R → (D : Instance) (k e : Map) → ((object : ℕ) → object < C.objects → IsCopyingAt C R D k e object) → IsCopying C R D k e
copying_from_at C category R match D k e at = record {
  instance = record {
    values = λ a ends v there part. (at ends.source.0 (category.sources a ends there)).values a ends v there refl part;
    atoms = λ c ends v atom there part is.
        let object : ℕ = ends.object.0 in
        let here = at object (category.holders c ends there) in
        elim (sides R object (e object v)) [
          | inl (x, left, same) ↦
              let found = here.kept x v left part (sym same) in
              match.keep.atoms c ends found.0 atom there found.1 (sym (here.kept_cells c ends found.0 there refl found.1) ∙ ap (D.cell c) found.2 ∙ is)
          | inr outside ↦ match.host.atoms c ends (e object v) atom there (here.over v part) (sym (here.host_cells c ends v there refl part outside) ∙ is)
        ];
    equations = λ n equation v there part. (at equation.object.0 (category.starts n equation there)).equations n equation v there refl part;
  };
  to_host = record {
    parts = λ object v below part. (at object below).over v part;
    commutes = λ a ends v there part. (at ends.source.0 (category.sources a ends there)).over_values a ends v there refl part;
  };
  from_keep = record {
    parts = λ object z below part. (at object below).keep_parts z part;
    commutes = λ a ends z there part. (at ends.source.0 (category.sources a ends there)).keep_values a ends z there refl part;
  };
  square = λ object z below part. (at object below).square z part;
  kept = λ object x v below left part same. (at object below).kept x v left part same;
  kept_once = λ object y z below y_part z_part same. (at object below).kept_once y z y_part z_part same;
  each = λ object g family below part outside is. (at object below).each g family part outside is;
  once = λ object v w below v_part w_part outside over same. (at object below).once v w v_part w_part outside over same;
  kept_cells = λ c ends z there part. (at ends.object.0 (category.holders c ends there)).kept_cells c ends z there refl part;
  host_cells = λ c ends v there part outside. (at ends.object.0 (category.holders c ends there)).host_cells c ends v there refl part outside;
}

module _ (C : Signature) (category : IsCategory C) (P : ℕ → Type 0) (onward : (a : ℕ) (ends : ArrowEnds) → slice_get C.arrows a ≡ Some ends → P ends.source.0 → P ends.target.0)
    (R : Redex) (D : Instance) (k e : Map) (E : Instance) (j i : Map) (same : AreSameAt C P D k e E j i) where
  -- a path leads to the same part
  pub follow_same : (from : ℕ) (path : List ArrowId) (to v : ℕ) → IsPath C from path to → P from → follow E path v ≡ follow D path v
  follow_same from [] to v leads here = refl
  follow_same from (arrow ∷ path) to v (ends, there, leaves, leads) here =
      let source : P ends.source.0 = subst P (sym leaves) here in
      ap (follow E path) (same.values arrow.0 ends v there source) ∙ follow_same ends.target.0 path to (D.value arrow.0 v) leads (onward arrow.0 ends there source)

  follow_from_same : (from : ℕ) (path : List ArrowId) (to : ℕ) (family : ℕ → ℕ) → IsPath C from path to → P from → follow_from E family path ≡ follow_from D family path
  follow_from_same from [] to family leads here = refl
  follow_from_same from (arrow ∷ path) to family (ends, there, leaves, leads) here =
      follow_same ends.target.0 path to (family arrow.0) leads (onward arrow.0 ends there (subst P (sym leaves) here))

  has_there : (object v : ℕ) → P object → Has D object v → Has E object v
  has_there object v here part = subst (λ (names : List ℕ). Contains names v) (sym (same.names object here)) part

  has_back : (object v : ℕ) → P object → Has E object v → Has D object v
  has_back object v here part = subst (λ (names : List ℕ). Contains names v) (same.names object here) part

  target_in : (object a : ℕ) (ends : ArrowEnds) → P object → slice_get C.arrows a ≡ Some ends → ends.source.0 ≡ object → P ends.source.0 × P ends.target.0
  target_in object a ends here there leaves = let source : P ends.source.0 = subst P (sym leaves) here in (source, onward a ends there source)

  -- a copying at an object stays one where nothing has changed at the objects that it speaks of
  pub at_same : (object : ℕ) → P object → IsCopyingAt C R D k e object → IsCopyingAt C R E j i object
  at_same object here at = record {
    values = λ a ends v there leaves part.
        let ins = target_in object a ends here there leaves in
        subst (λ (y : ℕ). Has E ends.target.0 y) (sym (same.values a ends v there ins.0))
        (has_there ends.target.0 (D.value a v) ins.1 (at.values a ends v there leaves (has_back object v here part)));
    over_values = λ a ends v there leaves part.
        let ins = target_in object a ends here there leaves in
        ap (i ends.target.0) (same.values a ends v there ins.0) ∙ same.to_host ends.target.0 (D.value a v) ins.1
        ∙ at.over_values a ends v there leaves (has_back object v here part) ∙ ap (R.host.value a) (sym (same.to_host object v here));
    equations = λ n equation v there starts part.
        let paths = category.paths n equation there in
        let from : P equation.object.0 = subst P (sym starts) here in
        follow_same equation.object.0 equation.left paths.0 v paths.1 from ∙ at.equations n equation v there starts (has_back object v here part)
        ∙ sym (follow_same equation.object.0 equation.right paths.0 v paths.2 from);
    over = λ v part. subst (λ (y : ℕ). Has R.host object y) (sym (same.to_host object v here)) (at.over v (has_back object v here part));
    keep_parts = λ z part. subst (λ (y : ℕ). Has E object y) (sym (same.from_keep object z here)) (has_there object (k object z) here (at.keep_parts z part));
    keep_values = λ a ends z there leaves part.
        let ins = target_in object a ends here there leaves in
        same.from_keep ends.target.0 (R.keep.value a z) ins.1 ∙ at.keep_values a ends z there leaves part
        ∙ sym (same.values a ends (k object z) there ins.0) ∙ ap (E.value a) (sym (same.from_keep object z here));
    square = λ z part. ap (i object) (same.from_keep object z here) ∙ same.to_host object (k object z) here ∙ at.square z part;
    kept = λ x v left part over.
        let found = at.kept x v left (has_back object v here part) (sym (same.to_host object v here) ∙ over) in
        (found.0, found.1, same.from_keep object found.0 here ∙ found.2);
    kept_once = λ y z y_part z_part one. at.kept_once y z y_part z_part (sym (same.from_keep object y here) ∙ one ∙ same.from_keep object z here);
    each = λ g family part outside is.
        let found = at.each g family part outside (record {
          parts = λ a ends there leaves. has_back ends.target.0 (family a) (target_in object a ends here there leaves).1 (is.parts a ends there leaves);
          over = λ a ends there leaves. sym (same.to_host ends.target.0 (family a) (target_in object a ends here there leaves).1) ∙ is.over a ends there leaves;
          equations = λ n equation there starts.
              let paths = category.paths n equation there in
              let from : P equation.object.0 = subst P (sym starts) here in
              sym (follow_from_same equation.object.0 equation.left paths.0 family paths.1 from) ∙ is.equations n equation there starts
              ∙ follow_from_same equation.object.0 equation.right paths.0 family paths.2 from;
        }) in (
          found.0,
          has_there object found.0 here found.1,
          same.to_host object found.0 here ∙ found.2,
          λ a ends there leaves. same.values a ends found.0 there (target_in object a ends here there leaves).0 ∙ found.3 a ends there leaves,
        );
    once = λ v w v_part w_part outside over values.
        let v_over = same.to_host object v here in
        at.once v w (has_back object v here v_part) (has_back object w here w_part) (λ x left is. outside x left (is ∙ sym v_over))
        (sym v_over ∙ over ∙ same.to_host object w here)
        (λ a ends there leaves.
        let source = (target_in object a ends here there leaves).0 in
        sym (same.values a ends v there source) ∙ values a ends there leaves ∙ same.values a ends w there source);
    kept_cells = λ c ends z there holds part.
        let held : P ends.object.0 = subst P (sym holds) here in
        same.cells c ends (j object z) there held ∙ ap (D.cell c) (same.from_keep object z here) ∙ at.kept_cells c ends z there holds part;
    host_cells = λ c ends v there holds part outside.
        let held : P ends.object.0 = subst P (sym holds) here in
        let v_over = same.to_host object v here in
        same.cells c ends v there held ∙ at.host_cells c ends v there holds (has_back object v here part) (λ x left is. outside x left (is ∙ sym v_over))
        ∙ ap (R.host.cell c) (sym v_over);
  }
