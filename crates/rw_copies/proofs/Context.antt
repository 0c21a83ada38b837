-- Where no arrows lead round a cycle, the context of a sesqui-pushout step exists, under its names.
use Rattle.std.proofs.Common.{true, ◌≡◌, ◌≢◌, ◌∙◌, ◌⊎◌, ◌<◌, ◌+◌, ◌==◌, ℕ, inl, inr, cond, List, [], ◌∷◌, Contains, Some, None, length, slice_get, slice_index, refl, sym, ap, subst, arith}
use Rattle.std.proofs.lemmas.Bool.{eq-eqb, ne_eqb}
use Rattle.rw_schema.specs.declared.signature.ArrowEnds.{ArrowEnds}
use Rattle.rw_schema.specs.Signature.{Signature, IsCategory, source_of, holder_of}
use Rattle.rw_spec.specs.Instance.{Instance, Has}
use Rattle.rw_spec.specs.Natural.{Map}
use Rattle.rw_spec.proofs.Sequences.{contains_first, contains_later}
use Rattle.rw_spec.proofs.Signatures.{source_is, holder_is}
use Rattle.rw_copies.specs.Copying.{IsRank, IsInjectiveMatch, IsCopying}
use Rattle.rw_copies.specs.CopyingAt.{IsCopyingAt, AreSameAt}
use Rattle.rw_copies.specs.CopyLists.{more_parts, named_parts, part_names}
use Rattle.rw_copies.specs.CopyNames.{AreCopyNamesAt, IsCopyContext}
use Rattle.rw_copies.specs.Made.{Made, Copied, made_host, made_value, AreMade, made_at, ArePlaced, with_parts, with_hosts, with_keep}
use Rattle.rw_copies.specs.Order.{IsInOrder, ArePlacedSoFar}
use Rattle.rw_copies.proofs.CopyingAt.{copying_from_at, at_same}
use Rattle.rw_spec.proofs.Look.{contains_cases}
use Rattle.rw_copies.proofs.Final.{final_from_copying}
use Rattle.rw_copies.proofs.Naming.{named_made, names_ascend, all_beside, old_is_host, names_below, names_all, first_has, new_ascend}
use Rattle.rw_copies.proofs.Naming as naming
use Rattle.rw_copies.proofs.Placed.{placed_at, keep_stands, keep_has, kinds, kept_inside}
use Rattle.rw_spec.specs.Ascending.{ascends}
use Rattle.rw_spec.proofs.Ascending.{ascends_distinct}
use Rattle.rw_spec.specs.Redex.{Redex}

-- names at an object stay right where nothing has changed there
names_same : (C : Signature) (P : ℕ → Type 0) (R : Redex) (next last : ℕ) (D : Instance) (k e : Map) (E : Instance) (j i : Map) → AreSameAt C P D k e E j i → (object : ℕ) → P object
    → AreCopyNamesAt C R next D k e last object → AreCopyNamesAt C R next E j i last object
names_same C P R next last D k e E j i same object here at =
    let back : (v : ℕ) → Has E object v → Has D object v = λ v part. subst (λ (ns : List ℕ). Contains ns v) (same.names object here) part in
    let there : (v : ℕ) → Has D object v → Has E object v = λ v part. subst (λ (ns : List ℕ). Contains ns v) (sym (same.names object here)) part in
    let hosts : (v : ℕ) → i object v ≡ e object v = λ v. same.to_host object v here in
    let keeps : (z : ℕ) → j object z ≡ k object z = λ z. same.from_keep object z here in
    record {
      grows = at.grows;
      old = λ v part old. hosts v ∙ at.old v (back v part) old;
      below = λ v part. at.below v (back v part);
      all = λ v new low. there v (at.all v new low);
      first = λ v part. subst (λ (g : ℕ). Has E object g) (sym (hosts v)) (there (e object v) (at.first v (back v part)));
      ascend = λ v w v_part w_part new less. let order = at.ascend v w (back v v_part) (back w w_part) new less in let v_host = hosts v in let w_host = hosts w in omega arith;
      kept_order = λ y z y_has z_has one less.
          let y_name = keeps y in
          let z_name = keeps z in
          at.kept_order y z y_has z_has (sym (hosts (k object y)) ∙ ap (i object) (sym y_name) ∙ one ∙ ap (i object) z_name ∙ hosts (k object z)) (omega arith);
      copy_order = λ v w a ends v_part w_part outside one less first.
          let value : (b : ℕ) (its : ArrowEnds) (x : ℕ) → slice_get C.arrows b ≡ Some its → its.source.0 ≡ object → E.value b x ≡ D.value b x =
          λ b its x is leaves. same.values b its x is (subst P (sym leaves) here) in
          let v_value = value a ends v first.there first.leaves in
          let w_value = value a ends w first.there first.leaves in
          let order = at.copy_order v w a ends (back v v_part) (back w w_part) (λ x left is. outside x left (is ∙ sym (hosts v))) (sym (hosts v) ∙ one ∙ hosts w) less
          (record {
            there = first.there;
            leaves = first.leaves;
            differ = λ equal. first.differ (v_value ∙ equal ∙ sym w_value);
            same_before = λ b its earlier is leaves. sym (value b its v is leaves) ∙ first.same_before b its earlier is leaves ∙ value b its w is leaves;
          }) in
          omega arith;
    }

module _ (C : Signature) (category : IsCategory C) (rank : ℕ → ℕ) (ranked : IsRank C rank) (R : Redex) (match : IsInjectiveMatch C R) (next : ℕ → ℕ)
    (hosts : (object : ℕ) → object < C.objects → ascends (R.host.names object) ≡ true) (keeps : (object : ℕ) → object < C.objects → ascends (R.keep.names object) ≡ true)
    (under : (object g : ℕ) → object < C.objects → Has R.host object g → g < next object) where
  module _ (before : List ℕ) (D : Instance) (k e : Map) (last : ℕ → ℕ) (so_far : ArePlacedSoFar C R next before D k e last) (object : ℕ) (below : object < C.objects)
      (new : Contains before object → ⊥) (targets : (a : ℕ) (ends : ArrowEnds) → slice_get C.arrows a ≡ Some ends → ends.source.0 ≡ object → Contains before ends.target.0) where
    abbrev all : List Made
    all = named_parts C R D e object

    abbrev names : List ℕ
    names = part_names C R D e object (next object)

    abbrev pub E : Instance
    E = with_parts C R D k object names all

    abbrev pub i : Map
    i = with_hosts R e object names all

    abbrev pub j : Map
    j = with_keep k object names all

    abbrev end : ℕ → ℕ
    end o = cond (o == object) (next object + length (more_parts C R D e object)) (last o)

    other : (o : ℕ) → Contains before o → o ≢ object
    other o there same = new (subst (λ (n : ℕ). Contains before n) same there)

    parts : (a : ℕ) (ends : ArrowEnds) → slice_get C.arrows a ≡ Some ends → ends.source.0 ≡ object → ascends (D.names ends.target.0) ≡ true
    parts a ends there leaves = so_far.ascend ends.target.0 (targets a ends there leaves)

    rising : ascends names ≡ true
    rising = names_ascend C category R match D e object below (hosts object below) (keeps object below) parts (next object) (λ g has. under object g below has)

    made : AreMade C R D e object all
    made = named_made C category R match D e object below (hosts object below) (keeps object below) parts (next object) (λ g has. under object g below has)

    are_placed : ArePlaced C R k object names all E j i
    are_placed = record {
      distinct = ascends_distinct names rising;
      beside = all_beside C category R match D e object below (hosts object below) (keeps object below) parts (next object) (λ g has. under object g below has);
      parts = rw (eq-eqb object object refl) refl;
      values = λ a ends v there leaves. rw (eq-eqb (source_of C a) object (source_is C a ends there ∙ leaves)) refl;
      cells = λ c ends v there holds. rw (eq-eqb (holder_of C c) object (holder_is C c ends there ∙ holds)) refl;
      from_keep = λ z. rw (eq-eqb object object refl) refl;
      to_host = λ v. rw (eq-eqb object object refl) refl;
    }

    are_same : AreSameAt C (Contains before) D k e E j i
    are_same = record {
      names = λ o there. rw (ne_eqb o object (other o there)) refl;
      values = λ a ends v there here. rw (ne_eqb (source_of C a) object (λ same. other ends.source.0 here (sym (source_is C a ends there) ∙ same))) refl;
      cells = λ c ends v there here. rw (ne_eqb (holder_of C c) object (λ same. other ends.object.0 here (sym (holder_is C c ends there) ∙ same))) refl;
      from_keep = λ o z there. rw (ne_eqb o object (other o there)) refl;
      to_host = λ o v there. rw (ne_eqb o object (other o there)) refl;
    }

    named_here : AreCopyNamesAt C R (next object) E j i (next object + length (more_parts C R D e object)) object
    named_here =
        let in_list : (v : ℕ) → Has E object v → Contains names v = λ v part. subst (λ (ns : List ℕ). Contains ns v) are_placed.parts part in
        let of_list : (v : ℕ) → Contains names v → Has E object v = λ v there. subst (λ (ns : List ℕ). Contains ns v) (sym are_placed.parts) there in
        let host : (v : ℕ) → i object v ≡ made_host R object (made_at names all v) = are_placed.to_host in
        let u : (g : ℕ) → Has R.host object g → g < next object = λ g has. under object g below has in
        let h = hosts object below in
        let ks = keeps object below in
        record {
          grows = omega arith;
          old = λ v part old. host v ∙ old_is_host C category R match D e object below h ks parts (next object) u v (in_list v part) old;
          below = λ v part. names_below C category R match D e object below h ks parts (next object) u v (in_list v part);
          all = λ v new_name low. of_list v (names_all C category R match D e object below h ks parts (next object) u v new_name low);
          first = λ v part. of_list (i object v) (subst (λ (g : ℕ). Contains names g) (sym (host v)) (first_has C category R match D e object below h ks parts (next object) u v (in_list v part)));
          ascend = λ v w v_part w_part new_name less.
              let order = new_ascend C category R match D e object below h ks parts (next object) u v w (in_list v v_part) (in_list w w_part) new_name less in
              let v_host = host v in
              let w_host = host w in
              omega arith;
          kept_order = λ y z y_has z_has one less.
              let y_at = keep_stands C category rank ranked (Contains before) so_far.onward R match D k e so_far.at object below targets names all made E j i are_placed are_same y y_has in
              let z_at = keep_stands C category rank ranked (Contains before) so_far.onward R match D k e so_far.at object below targets names all made E j i are_placed are_same z z_has in
              let y_in = keep_has C category rank ranked (Contains before) so_far.onward R match D k e so_far.at object below targets names all made E j i are_placed are_same y y_has in
              let z_in = keep_has C category rank ranked (Contains before) so_far.onward R match D k e so_far.at object below targets names all made E j i are_placed are_same z z_has in
              naming.kept_order C category R match D e object below h ks parts (next object) u (j object y) (j object z) y z (in_list (j object y) y_in) (in_list (j object z) z_in) y_at.is z_at.is
              (sym (host (j object y)) ∙ one ∙ host (j object z)) less;
          copy_order = λ v w a ends v_part w_part outside one less first.
              elim (kinds C category rank ranked (Contains before) so_far.onward R match D k e so_far.at object below targets names all made E j i are_placed are_same v v_part) [
                | inl (z, at) ↦ absurd (kept_inside C category rank ranked (Contains before) so_far.onward R match D k e so_far.at object below targets names all made E j i are_placed are_same v z at outside)
                | inr (g, row, at) ↦
                    elim (kinds C category rank ranked (Contains before) so_far.onward R match D k e so_far.at object below targets names all made E j i are_placed are_same w w_part) [
                      | inl (z, at_w) ↦ absurd (kept_inside C category rank ranked (Contains before) so_far.onward R match D k e so_far.at object below targets names all made E j i are_placed are_same w z at_w
                          (λ x left is. outside x left (is ∙ sym one)))
                      | inr (g_w, row_w, at_w) ↦
                          let same_host : g_w ≡ g = sym (host w ∙ ap (made_host R object) at_w.is) ∙ sym one ∙ host v ∙ ap (made_host R object) at.is in
                          let w_is : made_at names all w ≡ Copied g row_w = at_w.is ∙ ap (λ (n : ℕ). Copied n row_w) same_host in
                          let v_value : (b : ℕ) (its : ArrowEnds) → slice_get C.arrows b ≡ Some its → its.source.0 ≡ object → E.value b v ≡ slice_index row b =
                          λ b its is leaves. are_placed.values b its v is leaves ∙ ap (made_value C R k b) at.is in
                          let w_value : (b : ℕ) (its : ArrowEnds) → slice_get C.arrows b ≡ Some its → its.source.0 ≡ object → E.value b w ≡ slice_index row_w b =
                          λ b its is leaves. are_placed.values b its w is leaves ∙ ap (made_value C R k b) at_w.is in
                          let v_a = v_value a ends first.there first.leaves in
                          let w_a = w_value a ends first.there first.leaves in
                          let order = naming.copy_order C category R match D e object below h ks parts (next object) u v w a ends g row row_w (in_list v v_part) (in_list w w_part) at.is w_is less
                          first.there first.leaves (λ equal. first.differ (v_a ∙ equal ∙ sym w_a))
                          (λ b its earlier is leaves. sym (v_value b its is leaves) ∙ first.same_before b its earlier is leaves ∙ w_value b its is leaves) in
                          omega arith
                    ]
              ];
        }

    pub one_more : ArePlacedSoFar C R next (object ∷ before) E j i end
    one_more = record {
      at = λ o known there.
          elim (contains_cases object before o there) [
            | inl same ↦
                subst (λ (n : ℕ). IsCopyingAt C R E j i n) same
                (placed_at C category rank ranked (Contains before) so_far.onward R match D k e so_far.at object below targets names all made E j i are_placed are_same)
            | inr earlier ↦ at_same C category (Contains before) so_far.onward R D k e E j i are_same o earlier (so_far.at o known earlier)
          ];
      named = λ o known there.
          elim (contains_cases object before o there) [
            | inl same ↦
                subst (λ (n : ℕ). AreCopyNamesAt C R (next n) E j i (end n) n) same (rw (eq-eqb object object refl) named_here)
            | inr earlier ↦
                let away : end o ≡ last o = rw (ne_eqb o object (other o earlier)) refl in
                subst (λ (n : ℕ). AreCopyNamesAt C R (next o) E j i n o) (sym away)
                (names_same C (Contains before) R (next o) (last o) D k e E j i are_same o earlier (so_far.named o known earlier))
          ];
      ascend = λ o there.
          elim (contains_cases object before o there) [
            | inl same ↦ subst (λ (n : ℕ). ascends (E.names n) ≡ true) same (subst (λ (ns : List ℕ). ascends ns ≡ true) (sym are_placed.parts) rising)
            | inr earlier ↦ subst (λ (ns : List ℕ). ascends ns ≡ true) (sym (are_same.names o earlier)) (so_far.ascend o earlier)
          ];
      onward = λ a ends is there.
          elim (contains_cases object before ends.source.0 there) [
            | inl same ↦ contains_later object before ends.target.0 (targets a ends is (sym same))
            | inr earlier ↦ contains_later object before ends.target.0 (so_far.onward a ends is earlier)
          ];
    }

  all_named : (before more : List ℕ) (D : Instance) (k e : Map) (last : ℕ → ℕ) → ArePlacedSoFar C R next before D k e last → IsInOrder C before more
      → ((object : ℕ) → object < C.objects → Contains before object ⊎ Contains more object)
      → (E : Instance) × (j : Map) × (i : Map) × (end : ℕ → ℕ) × ((object : ℕ) → object < C.objects → IsCopyingAt C R E j i object)
      × ((object : ℕ) → object < C.objects → AreCopyNamesAt C R (next object) E j i (end object) object) × ((object : ℕ) → object < C.objects → ascends (E.names object) ≡ true)
      × ((object : ℕ) → Contains before object → end object ≡ last object)
  all_named before [] D k e last so_far order covers =
      let there : (object : ℕ) → object < C.objects → Contains before object = λ object below. elim (covers object below) [ inl placed ↦ placed | inr never ↦ absurd (omega (arith, never.1)) ] in
      (D, k, e, last, (λ object below. so_far.at object below (there object below)), (λ object below. so_far.named object below (there object below)), (λ object below. so_far.ascend object (there object below)), (λ object placed. refl))
  all_named before (object ∷ more) D k e last so_far (below, new, targets, order) covers =
      let step = one_more before D k e last so_far object below new targets in
      let end_of = end before D k e last so_far object below new targets in
      let rest = all_named (object ∷ before) more (E before D k e last so_far object below new targets) (j before D k e last so_far object below new targets) (i before D k e last so_far object below new targets)
      (end before D k e last so_far object below new targets) step order
      (λ o known. elim (covers o known) [
        | inl placed ↦ inl (contains_later object before o placed)
        | inr later ↦ elim (contains_cases object more o later) [ inl here ↦ inl (contains_first object o before here) | inr rest ↦ inr rest ]
      ]) in (
        rest.0,
        rest.1,
        rest.2,
        rest.3,
        rest.4,
        rest.5,
        rest.6,
        (λ o placed.
            let unlike : o ≢ object = λ same. new (subst (λ (n : ℕ). Contains before n) same placed) in
            let kept : end_of o ≡ last o = rw (ne_eqb o object unlike) refl in
            rest.7 o (contains_later object before o placed) ∙ kept),
      )

  -- what has been placed is part of the context of the step, in whatever order the rest follows
  pub context_from : (before more : List ℕ) (D : Instance) (k e : Map) (last : ℕ → ℕ) → ArePlacedSoFar C R next before D k e last → IsInOrder C before more
      → ((object : ℕ) → object < C.objects → Contains before object ⊎ Contains more object)
      → (E : Instance) × (j : Map) × (i : Map) × (end : ℕ → ℕ) × IsCopying C R E j i × IsCopyContext C R next E j i end × ((object : ℕ) → Contains before object → end object ≡ last object)
  context_from before more D k e last so_far order covers =
      let made = all_named before more D k e last so_far order covers in
      let copying : IsCopying C R made.0 made.1 made.2 = copying_from_at C category R match made.0 made.1 made.2 made.4 in (
        made.0,
        made.1,
        made.2,
        made.3,
        copying,
        record {
          final = final_from_copying C category rank ranked R match made.0 made.1 made.2 copying;
          names = made.5;
        },
        made.7,
      )

-- the context of a sesqui-pushout step exists, with ascending names
pub some_context : (C : Signature) → IsCategory C → (rank : ℕ → ℕ) → IsRank C rank → (order : List ℕ) → IsInOrder C [] order → ((object : ℕ) → object < C.objects → Contains order object)
    → (R : Redex) → IsInjectiveMatch C R → (next : ℕ → ℕ) → ((object : ℕ) → object < C.objects → ascends (R.host.names object) ≡ true) → ((object : ℕ) → object < C.objects → ascends (R.keep.names object) ≡ true)
    → ((object g : ℕ) → object < C.objects → Has R.host object g → g < next object)
    → (D : Instance) × (k : Map) × (e : Map) × (last : ℕ → ℕ) × IsCopying C R D k e × IsCopyContext C R next D k e last × ((object : ℕ) → object < C.objects → ascends (D.names object) ≡ true)
some_context C category rank ranked order in_order covers R match next hosts keeps under =
    let nothing : Instance = record { names = λ o. []; value = λ a v. 0; cell = λ c v. None } in
    let none : ArePlacedSoFar C R next [] nothing (λ o z. 0) (λ o v. 0) next = record {
      at = λ o below never. absurd (omega (arith, never.1));
      named = λ o below never. absurd (omega (arith, never.1));
      ascend = λ o never. absurd (omega (arith, never.1));
      onward = λ a ends is never. absurd (omega (arith, never.1));
    } in
    let made = all_named C category rank ranked R match next hosts keeps under [] order nothing (λ o z. 0) (λ o v. 0) next none in_order (λ object below. inr (covers object below)) in
    let copying : IsCopying C R made.0 made.1 made.2 = copying_from_at C category R match made.0 made.1 made.2 made.4 in (
      made.0,
      made.1,
      made.2,
      made.3,
      copying,
      record {
        final = final_from_copying C category rank ranked R match made.0 made.1 made.2 copying;
        names = made.5;
      },
      made.6,
    )
