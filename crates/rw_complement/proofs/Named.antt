-- There is only one double pushout under the names that it takes.
use Rattle.std.proofs.Common.{◌≡◌, ◌∙◌, ◌==◌, ◌<◌, ◌≤◌, ℕ, List, Some, slice_get, slice_index, sym, ap, subst, inl, inr, arith, eqb-true}
use Rattle.std.specs.List.{list_any}
use Rattle.std.proofs.lemmas.Bool.{cases_Bool, not-false}
use Rattle.rw_schema.specs.declared.atom.Atom.{Atom}
use Rattle.rw_schema.specs.declared.signature.ArrowEnds.{ArrowEnds}
use Rattle.rw_schema.specs.declared.signature.AttrEnds.{AttrEnds}
use Rattle.rw_schema.specs.Signature.{Signature, IsCategory}
use Rattle.rw_spec.specs.Cocone.{Frame, IsCocone, IsMediating, IsInitialCocone}
use Rattle.rw_spec.specs.Homomorphism.{IsHomomorphism}
use Rattle.rw_spec.specs.Instance.{Instance, IsInstance, Has}
use Rattle.rw_spec.specs.Natural.{Map, IsNatural, SameOn}
use Rattle.rw_spec.specs.Redex.{Redex}
use Rattle.rw_spec.specs.Same.{AreSame}
use Rattle.rw_complement.specs.Complement.{identity}
use Rattle.rw_complement.specs.Named.{IsNamed, IsDoublePushout, is_new, right_frame}
use Rattle.rw_complement.proofs.Initial.{covers}
use Rattle.rw_complement.proofs.Least.{only_context}
use Rattle.rw_complement.proofs.Tests.{some_from, same_answer}

-- being one has no direction
pub same_back : (C : Signature) → IsCategory C → (X Y : Instance) → AreSame C X Y → AreSame C Y X
same_back C category X Y same = record {
  names = λ object x below. ((same.names object x below).1, (same.names object x below).0);
  values = λ a ends x there has. sym (same.values a ends x there ((same.names ends.source.0 x (category.sources a ends there)).1 has));
  cells = λ c ends x there has. sym (same.cells c ends x there ((same.names ends.object.0 x (category.holders c ends there)).1 has));
}

-- a homomorphism from one instance is one from the other
pub same_homomorphism : (C : Signature) → IsCategory C → (X Y T : Instance) (f : Map) → AreSame C X Y → IsHomomorphism C Y T f → IsHomomorphism C X T f
same_homomorphism C category X Y T f same from = record {
  natural = record {
    parts = λ object x below has. from.natural.parts object x below ((same.names object x below).0 has);
    commutes = λ a ends x there has.
        ap (f ends.target.0) (same.values a ends x there has)
        ∙ from.natural.commutes a ends x there ((same.names ends.source.0 x (category.sources a ends there)).0 has);
  };
  keeps = λ c ends x atom there has is.
      from.keeps c ends x atom there ((same.names ends.object.0 x (category.holders c ends there)).0 has) (sym (same.cells c ends x there has) ∙ is);
}

module _ (C : Signature) (category : IsCategory C) (apex right : Instance) (to_right : Map) (D D' : Instance) (k k' : Map)
    (same : AreSame C D D') (same_map : SameOn C apex k k')
  where
    -- an instance and the right side, to be glued along the apex
    abbrev pub frame : Instance → Map → Frame
    frame D k = record { apex = apex; left = D; right = right; to_left = k; to_right = to_right }

    -- a cocone over one frame is one over the other
    same_cocone : (natural : IsNatural C apex D k) (T : Instance) (d s : Map) → IsCocone C (frame D' k') T d s → IsCocone C (frame D k) T d s
    same_cocone natural T d s cocone = record {
      instance = cocone.instance;
      from_left = same_homomorphism C category D D' T d same cocone.from_left;
      from_right = cocone.from_right;
      agrees = λ object z below has. ap (d object) (same_map object z below has) ∙ cocone.agrees object z below has;
    }

-- an initial cocone over one frame is one over the other
pub same_initial : (C : Signature) → IsCategory C → (apex right : Instance) (to_right : Map) (D D' : Instance) (k k' : Map)
    → AreSame C D D' → SameOn C apex k k' → IsNatural C apex D k → IsNatural C apex D' k' → (H : Instance) (d s : Map)
    → IsInitialCocone C (record { apex = apex; left = D'; right = right; to_left = k'; to_right = to_right }) H d s
    → IsInitialCocone C (record { apex = apex; left = D; right = right; to_left = k; to_right = to_right }) H d s
same_initial C category apex right to_right D D' k k' same same_map natural natural' H d s initial =
    let back : AreSame C D' D = same_back C category D D' same in
    let back_map : SameOn C apex k' k = λ object z below has. sym (same_map object z below has) in
    let F : Frame = record { apex = apex; left = D; right = right; to_left = k; to_right = to_right } in
    let F' : Frame = record { apex = apex; left = D'; right = right; to_left = k'; to_right = to_right } in
    let other : (T : Instance) (d' s' : Map) → IsCocone C F T d' s' → IsCocone C F' T d' s' =
    λ T d' s' cocone. same_cocone C category apex right to_right D' D k' k back back_map natural' T d' s' cocone in
    let onward : (T : Instance) (d' s' u : Map) → IsMediating C F H d s T d' s' u → IsMediating C F' H d s T d' s' u =
    λ T d' s' u mediating. record {
      homomorphism = mediating.homomorphism;
      from_left = λ object x below has. mediating.from_left object x below ((same.names object x below).1 has);
      from_right = mediating.from_right;
    } in
    record {
      cocone = same_cocone C category apex right to_right D D' k k' same same_map natural H d s initial.cocone;
      mediating = λ T d' s' cocone.
          let found = initial.mediating T d' s' (other T d' s' cocone) in (
            found.0,
            record {
              homomorphism = found.1.homomorphism;
              from_left = λ object x below has. found.1.from_left object x below ((same.names object x below).0 has);
              from_right = found.1.from_right;
            },
          );
      unique = λ T d' s' u v cocone first second.
          initial.unique T d' s' u v (other T d' s' cocone) (onward T d' s' u first) (onward T d' s' v second);
    }

-- the maps of one initial cocone give no greater names than those of the other
not_greater : (C : Signature) (F : Frame) (next : List ℕ) (H H' : Instance) (d s d' s' u : Map) → IsNamed C F next d s → IsNamed C F next d' s'
    → IsMediating C F H d s H' d' s' u → (object x : ℕ) → object < C.objects → Has F.left object x → d' object x ≤ d object x
not_greater C F next H H' d s d' s' u named named' mediating object x below has =
    let known = named.kept object x below has in
    let same : d' object (d object x) ≡ d' object x =
    sym (mediating.from_left object (d object x) below known.0) ∙ ap (u object) known.1 ∙ mediating.from_left object x below has in
    subst (λ (n : ℕ). n ≤ d object x) same (named'.kept object (d object x) below known.0).2

module _ (C : Signature) (category : IsCategory C) (F : Frame) (left : IsInstance C F.left) (right : IsInstance C F.right) (natural : IsNatural C F.apex F.left F.to_left)
    (next : List ℕ) (H H' : Instance) (d s d' s' : Map)
    (initial : IsInitialCocone C F H d s) (initial' : IsInitialCocone C F H' d' s') (named : IsNamed C F next d s) (named' : IsNamed C F next d' s')
  where
    -- from H a homomorphism leads to the other
    onward : (u : Map) × IsMediating C F H d s H' d' s' u
    onward = initial.mediating H' d' s' initial'.cocone

    -- left parts have the same names in both
    pub same_left : SameOn C F.left d d'
    same_left object x below has =
        let back = initial'.mediating H d s initial.cocone in
        let one : d' object x ≤ d object x = not_greater C F next H H' d s d' s' onward.0 named named' onward.1 object x below has in
        let other : d object x ≤ d' object x = not_greater C F next H' H d' s' d s back.0 named' named back.1 object x below has in
        omega arith

    -- and so have right parts
    pub same_right : SameOn C F.right s s'
    same_right object y below has =
        elim (cases_Bool (is_new F object y)) [
          | inl fresh ↦ named.fresh object y below has fresh ∙ sym (named'.fresh object y below has fresh)
          | inr old ↦
              let found = some_from (λ z. F.to_right object z == y) (F.apex.names object) (not-false (list_any (λ z. F.to_right object z == y) (F.apex.names object)) old) in
              let z : ℕ = found.0 in
              let is : F.to_right object z ≡ y = eqb-true (F.to_right object z) y found.2 in
              ap (s object) (sym is)
              ∙ sym (initial.cocone.agrees object z below found.1)
              ∙ same_left object (F.to_left object z) below (natural.parts object z below found.1)
              ∙ initial'.cocone.agrees object z below found.1
              ∙ ap (s' object) is
        ]

    -- the homomorphism moves no name
    onward_fixed : SameOn C H onward.0 identity
    onward_fixed object w below has =
        elim (covers C category F left right H d s initial object w below has) [
          | inl (x, has_x, is, done) ↦
              ap (onward.0 object) (sym is) ∙ onward.1.from_left object x below has_x ∙ sym (same_left object x below has_x) ∙ is
          | inr (y, has_y, is, done) ↦
              ap (onward.0 object) (sym is) ∙ onward.1.from_right object y below has_y ∙ sym (same_right object y below has_y) ∙ is
        ]

    -- each part of H is one of the other
    name_there : (object w : ℕ) → object < C.objects → Has H object w → Has H' object w
    name_there object w below has = subst (Has H' object) (onward_fixed object w below has) (onward.1.homomorphism.natural.parts object w below has)

    -- arrows lead from it to the same part in both
    value_same : (a : ℕ) (ends : ArrowEnds) (w : ℕ) → slice_get C.arrows a ≡ Some ends → Has H ends.source.0 w → H.value a w ≡ H'.value a w
    value_same a ends w there has =
        sym (onward_fixed ends.target.0 (H.value a w) (category.targets a ends there) (initial.cocone.instance.values a ends w there has))
        ∙ onward.1.homomorphism.natural.commutes a ends w there has
        ∙ ap (H'.value a) (onward_fixed ends.source.0 w (category.sources a ends there) has)

    -- and each of its atoms is an atom of the other
    atom_same : (c : ℕ) (ends : AttrEnds) (w : ℕ) (atom : Atom) → slice_get C.attributes c ≡ Some ends → Has H ends.object.0 w → H.cell c w ≡ Some atom → H'.cell c w ≡ Some atom
    atom_same c ends w atom there has is =
        ap (H'.cell c) (sym (onward_fixed ends.object.0 w (category.holders c ends there) has)) ∙ onward.1.homomorphism.keeps c ends w atom there has is

-- there is only one initial cocone that is named so
pub only_result : (C : Signature) → IsCategory C → (F : Frame) → IsInstance C F.left → IsInstance C F.right → IsNatural C F.apex F.left F.to_left
    → (next : List ℕ) (H H' : Instance) (d s d' s' : Map) → IsInitialCocone C F H d s → IsInitialCocone C F H' d' s' → IsNamed C F next d s → IsNamed C F next d' s'
    → AreSame C H H'
only_result C category F left right natural next H H' d s d' s' initial initial' named named' = record {
  names = λ object w below. (
    λ has. name_there C category F left right natural next H H' d s d' s' initial initial' named named' object w below has,
    λ has. name_there C category F left right natural next H' H d' s' d s initial' initial named' named object w below has,
  );
  values = value_same C category F left right natural next H H' d s d' s' initial initial' named named';
  cells = λ c ends w there has.
      same_answer (H.cell c w) (H'.cell c w)
      (λ atom is. atom_same C category F left right natural next H H' d s d' s' initial initial' named named' c ends w atom there has is)
      (λ atom is. atom_same C category F left right natural next H' H d' s' d s initial' initial named' named c ends w atom there
      (name_there C category F left right natural next H H' d s d' s' initial initial' named named' ends.object.0 w (category.holders c ends there) has) is);
}

-- the names of what is glued do not depend on which of two instances that are one is glued
same_named : (C : Signature) (R : Redex) (right : Instance) (r : Map) (D D' : Instance) (k k' : Map) (next : List ℕ) (d s : Map) → AreSame C D D'
    → IsNamed C (right_frame R right r D' k') next d s → IsNamed C (right_frame R right r D k) next d s
same_named C R right r D D' k k' next d s same named = record {
  kept = λ object x below has.
      let known = named.kept object x below ((same.names object x below).0 has) in
      ((same.names object (d object x) below).1 known.0, known.1, known.2);
  fresh = named.fresh;
}

-- a double pushout is the only one, names and next names included
pub only_double_pushout : (C : Signature) → IsCategory C → (R : Redex) (right : Instance) (r : Map) (next : List ℕ) → IsInstance C right
    → (H H' : Instance) (after after' : List ℕ) → IsDoublePushout C R right r next H after → IsDoublePushout C R right r next H' after'
    → AreSame C H H' × ((object : ℕ) → object < C.objects → slice_index after object ≡ slice_index after' object)
only_double_pushout C category R right r next instance H H' after after' first second =
    let contexts = only_context C category R first.context second.context first.k second.k first.is_context second.is_context in
    let natural = first.is_context.complement.from_keep.natural in
    let initial' : IsInitialCocone C (right_frame R right r first.context first.k) H' second.d second.s =
    same_initial C category R.keep right r first.context second.context first.k second.k contexts.0 contexts.1 natural
    second.is_context.complement.from_keep.natural H' second.d second.s second.pushout in (
      only_result C category (right_frame R right r first.context first.k) first.is_context.complement.instance instance natural next H H'
          first.d first.s second.d second.s first.pushout initial' first.named
          (same_named C R right r first.context second.context first.k second.k next second.d second.s contexts.0 second.named),
      (λ object below. first.grown object below ∙ sym (second.grown object below)),
    )
