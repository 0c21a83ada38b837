-- Where the gluing condition holds and no atoms clash, there is a double pushout.
use Rattle.std.proofs.Common.{◌≡◌, ◌<◌, ◌+◌, ℕ, true, not, List, length, slice_index, zero-add}
use Rattle.std.proofs.lemmas.List.FromFn.{get_or-map-range_with_len}
use Rattle.rw_schema.specs.Signature.{Signature, IsCategory}
use Rattle.rw_spec.specs.Cocone.{Frame}
use Rattle.rw_spec.specs.Instance.{Instance, IsInstance, Has}
use Rattle.rw_spec.specs.Natural.{Map, IsNatural}
use Rattle.rw_spec.specs.Ascending.{ascends}
use Rattle.rw_spec.specs.Redex.{Redex}
use Rattle.rw_spec.proofs.Ascending.{ascends_filter}
use Rattle.rw_classes.specs.Classes.{AreClasses}
use Rattle.rw_classes.specs.Places.{count_at, joined_at}
use Rattle.rw_complement.specs.Context.{context_of, context_map, is_removed}
use Rattle.rw_complement.specs.Named.{IsDoublePushout, context_frame, new_parts}
use Rattle.rw_complement.specs.Redex.{IsRedex, CanBeGlued}
use Rattle.rw_complement.proofs.Complement.{context_is_complement}
use Rattle.rw_complement.proofs.Least.{context_is_least}
use Rattle.rw_complement.proofs.Parts.{from_context}
use Rattle.rw_glued.specs.Result.{Classing, HaveOneAtom, AreJoined, glued_of, left_name, right_name, next_after}
use Rattle.rw_glued.proofs.Result.{glued_is_initial, glued_is_named}

module _ (C : Signature) (category : IsCategory C) (R : Redex) (redex : IsRedex C R) (can : CanBeGlued C R) (right : Instance) (instance : IsInstance C right)
    (r : Map) (natural : IsNatural C R.keep right r) (next : List ℕ)
    (host_ascends : (object : ℕ) → object < C.objects → ascends (R.host.names object) ≡ true)
    (right_ascends : (object : ℕ) → object < C.objects → ascends (right.names object) ≡ true)
    (below : (object w : ℕ) → object < C.objects → Has R.host object w → w < slice_index next object)
    (numbers firsts : Classing)
  where
    -- where the classes are those of what keep joins, they are joined so
    pub joined : ((object : ℕ) → object < C.objects
        → AreClasses (count_at (context_frame C R right r) object) (joined_at (context_frame C R right r) object) (numbers object) (firsts object))
        → AreJoined C (context_frame C R right r) next numbers firsts
    joined classes = record {
      left_ascends = λ object known. ascends_filter (λ w. not (is_removed R object w)) (R.host.names object) (host_ascends object known);
      right_ascends = right_ascends;
      below = λ object w known has. below object w known (from_context C R object w has).0;
      classes = classes;
    }

    -- the classes under their names are a double pushout
    pub glued_is_double_pushout : ((object : ℕ) → object < C.objects
        → AreClasses (count_at (context_frame C R right r) object) (joined_at (context_frame C R right r) object) (numbers object) (firsts object))
        → HaveOneAtom C (context_frame C R right r) numbers
        → IsDoublePushout C R right r next (glued_of C (context_frame C R right r) next numbers firsts)
        (next_after C (context_frame C R right r) next)
    glued_is_double_pushout classes one =
        let F : Frame = context_frame C R right r in
        let complement = context_is_complement C category R redex can in
        record {
          context = context_of C R;
          k = context_map R;
          d = left_name F next numbers firsts;
          s = right_name F next numbers firsts;
          is_context = context_is_least C category R redex can;
          pushout = glued_is_initial C category F complement.instance instance redex.keep complement.from_keep.natural natural next numbers firsts (joined classes) one;
          named = glued_is_named C category F complement.instance instance redex.keep complement.from_keep.natural natural next numbers firsts (joined classes) one;
          grown = λ object known.
              get_or-map-range_with_len (λ object. slice_index next object + length (new_parts F object)) 0 C.objects object object 0 known (zero-add object);
        }
