-- What the change of a gluing is over a redex and its context: the answer of the step.
use Rattle.std.proofs.Common.{◌≡◌, ◌⊎◌, ◌+◌, ℕ, true, List, [], Contains, sym, subst, inl, inr, zero-add, length, slice_index}
use Rattle.std.proofs.lemmas.List.FromFn.{get_or-map-range_with_len}
use Rattle.rw_schema.specs.declared.atom.Atom.{Atom}
use Rattle.rw_schema.specs.Signature.{IsCategory, Signature}
use Rattle.rw_spec.specs.Ascending.{ascends}
use Rattle.rw_spec.specs.Cocone.{Frame, IsCocone}
use Rattle.rw_spec.specs.Instance.{Instance, IsInstance}
use Rattle.rw_spec.specs.Natural.{IsNatural, Map}
use Rattle.rw_spec.specs.Redex.{Redex}
use Rattle.rw_columns.specs.Changes.{ChangeLists, changed}
use Rattle.rw_complement.specs.Complement.{IsContext}
use Rattle.rw_complement.specs.Named.{IsDoublePushout, new_parts, right_frame}
use Rattle.rw_complement.specs.Redex.{IsRedex}
use Rattle.rw_glued.specs.Clash.{Clashes}
use Rattle.rw_glued.specs.OneGluing.{IsNaturalFrame}
use Rattle.rw_glued.specs.Result.{Classing, HaveOneAtom}
use Rattle.rw_glued.proofs.Clashes.{no_cocone_at_clash}
use Rattle.rw_local.specs.Answer.{IsAnswer}
use Rattle.rw_local.specs.Over.{IsOver}
use Rattle.rw_local.specs.inner.Glued.{local_change}
use Rattle.rw_local.specs.inner.Local.{AreLocal, local_cell, narrow, placed, renamed}
use Rattle.rw_local.proofs.Classes.{local_cells, renamed_is}
use Rattle.rw_local.proofs.Reached.{over_ascends, wanted_ascends, wanted_below}
use Rattle.rw_local.proofs.Verdict.{local_clashes, local_fits, local_initial, local_named, local_names, one_or_clash}

-- a context of a redex and a right side are to be glued along natural maps
pub answer_frame : (C : Signature) → IsCategory C → (R : Redex) → IsRedex C R → (right : Instance) → IsInstance C right → (r : Map) → IsNatural C R.keep right r
    → (D : Instance) (k : Map) → IsContext C R D k → IsNaturalFrame C (right_frame R right r D k)
answer_frame C category R redex right instance r natural D k context = record {
  apex = redex.keep;
  left = context.complement.instance;
  right = instance;
  to_left = context.complement.from_keep.natural;
  to_right = natural;
}

-- over a redex and its context, under whatever lists are touched
module _ (C : Signature) (category : IsCategory C) (R : Redex) (redex : IsRedex C R) (right : Instance) (instance : IsInstance C right)
    (r : Map) (natural : IsNatural C R.keep right r) (D : Instance) (k : Map) (context : IsContext C R D k)
    (gone : ℕ → List ℕ) (next : List ℕ) (over : IsOver C R.host D gone (λ object. []) next next)
    (touched : ℕ → List ℕ) (numbers firsts : Classing) (local : AreLocal C (right_frame R right r D k) next touched numbers firsts)
  where
    -- the frame
    abbrev F : Frame
    F = right_frame R right r D k

    -- the change
    abbrev change : ChangeLists
    change = local_change C R.host F touched numbers firsts gone (λ object. []) next

    -- they are glued along natural maps
    frame : IsNaturalFrame C F
    frame = answer_frame C category R redex right instance r natural D k context

    -- where the atoms of each class are one, the change gives the double pushout
    change_is_double_pushout : HaveOneAtom C (narrow F touched) numbers → IsDoublePushout C R right r next (changed C R.host change) change.added.next
    change_is_double_pushout one = record {
      context = D;
      k = k;
      d = renamed F next touched numbers firsts;
      s = placed F next touched numbers firsts;
      is_context = context;
      pushout = local_initial C category F frame R.host gone (λ object. []) next next over touched numbers firsts local one;
      named = local_named C category F frame R.host gone (λ object. []) next next over touched numbers firsts local one;
      grown = λ object known.
          get_or-map-range_with_len (λ object. slice_index next object + length (new_parts F object)) 0 C.objects object object 0 known (zero-add object);
    }

    -- and it is the answer
    pub change_is_answer : HaveOneAtom C (narrow F touched) numbers → IsAnswer C R right r next change
    change_is_answer one =
        let d : Map = renamed F next touched numbers firsts in
        let s : Map = placed F next touched numbers firsts in
        let cell = local_cell C F next touched numbers firsts in
        let renaming = renamed_is C category F frame next touched numbers firsts local in
        let cells = local_cells C category F frame next touched numbers firsts local one in
        let names = local_names C category F frame R.host gone (λ object. []) next next over touched numbers firsts local one in
        record {
          fits = local_fits C category F frame R.host gone (λ object. []) next next over touched numbers firsts local one;
          pushout = change_is_double_pushout one;
          ascending = λ object known.
              subst (λ (names : List ℕ). ascends names ≡ true) (sym (names object known))
              (wanted_ascends C category F frame R.host gone (λ object. []) next next over local.right_ascends d s renaming cell cells object known);
          below = λ object x known has.
              wanted_below C category F frame R.host gone (λ object. []) next next over local.right_ascends d s renaming cell cells object x known
              (subst (λ (names : List ℕ). Contains names x) (names object known) has);
        }

    -- the change is the answer, or there is a first clash and no cocone
    pub answer_or_clash : IsAnswer C R right r next change
        ⊎ ((object : ℕ) × (w : ℕ) × (c : ℕ) × (a : Atom) × (b : Atom) × Clashes C F next object w c a b × ((T : Instance) (d s : Map) → IsCocone C F T d s → ⊥))
    answer_or_clash =
        elim (one_or_clash C category F frame next touched numbers firsts local) [
          | inl one ↦ inl (change_is_answer one)
          | inr (object, w, c, a, b, first) ↦
              let left_ascends = over_ascends C R.host D gone (λ object. []) next next over in
              let clash : Clashes C F next object w c a b =
              local_clashes C category F frame next touched numbers firsts local left_ascends object w c a b first in
              inr (object, w, c, a, b, clash, λ T d s cocone. no_cocone_at_clash C category F next object w c a b clash T d s cocone)
        ]
