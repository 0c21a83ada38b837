-- Whatever the kind of the step: what lies over its host can be glued, or there is a first clash and no cocone.
use Rattle.std.proofs.Common.{◌≡◌, ◌⊎◌, ◌==◌, ◌<◌, ℕ, true, List, slice_index, refl, inl, inr}
use Rattle.std.specs.List.{list_any}
use Rattle.std.proofs.lemmas.Bool.{eq-eqb}
use Rattle.rw_schema.specs.declared.atom.Atom.{Atom}
use Rattle.rw_schema.specs.Signature.{Signature, IsCategory}
use Rattle.rw_spec.specs.Cocone.{Frame}
use Rattle.rw_spec.specs.Instance.{Has}
use Rattle.rw_spec.specs.Ascending.{ascends}
use Rattle.rw_spec.proofs.Sequences.{contains_filter, contained_in_filter}
use Rattle.rw_spec.proofs.Ascending.{ascends_filter}
use Rattle.rw_complement.proofs.Tests.{some_at}
use Rattle.rw_glued.specs.Clash.{Clashes}
use Rattle.rw_glued.specs.OneGluing.{IsNaturalFrame}
use Rattle.rw_glued.specs.Result.{HaveOneAtom}
use Rattle.rw_glued.proofs.Clashes.{no_cocone_at_clash}
use Rattle.rw_local.specs.inner.Glued.{local_change}
use Rattle.rw_local.specs.OneVerdict.{GluingsAreChanges}
use Rattle.rw_local.specs.inner.Local.{AreLocal, narrow, placed, renamed, under_names}
use Rattle.rw_local.proofs.Reached.{over_ascends, over_below}
use Rattle.rw_local.proofs.Verdict.{firsts_at, local_clashes, local_exists, local_fits, local_initial, local_named, numbers_at, one_or_clash}

module _ (C : Signature) (category : IsCategory C) (F : Frame) (frame : IsNaturalFrame C F)
    (next : List ℕ) (left_ascends : (object : ℕ) → object < C.objects → ascends (F.left.names object) ≡ true)
    (right_ascends : (object : ℕ) → object < C.objects → ascends (F.right.names object) ≡ true)
    (below : (object x : ℕ) → object < C.objects → Has F.left object x → x < slice_index next object)
  where
    -- the names under parts of the apex have classes
    pub under_local : AreLocal C F next (under_names F) (numbers_at F (under_names F)) (firsts_at F (under_names F))
    under_local =
        local_exists C F next (under_names F) frame.to_right
        (λ object known. ascends_filter (λ x. list_any (λ z. F.to_left object z == x) (F.apex.names object)) (F.left.names object) (left_ascends object known))
        right_ascends below
        (λ object x known there. (contained_in_filter (λ x. list_any (λ z. F.to_left object z == x) (F.apex.names object)) (F.left.names object) x there).0)
        (λ object z known has.
        contains_filter (λ x. list_any (λ z. F.to_left object z == x) (F.apex.names object)) (F.left.names object) (F.to_left object z) (frame.to_left.parts object z known has)
        (some_at (λ other. F.to_left object other == F.to_left object z) (F.apex.names object) z has (eq-eqb (F.to_left object z) (F.to_left object z) refl)))

    -- their atoms are one, or there is a first clash of what is glued
    pub glued_or_clash : HaveOneAtom C (narrow F (under_names F)) (numbers_at F (under_names F))
        ⊎ ((object : ℕ) × (w : ℕ) × (c : ℕ) × (a : Atom) × (b : Atom) × Clashes C F next object w c a b)
    glued_or_clash =
        let touched : ℕ → List ℕ = under_names F in
        elim (one_or_clash C category F frame next touched (numbers_at F touched) (firsts_at F touched) under_local) [
          | inl one ↦ inl one
          | inr (object, w, c, a, b, first) ↦
              inr (object, w, c, a, b, local_clashes C category F frame next touched (numbers_at F touched) (firsts_at F touched) under_local left_ascends object w c a b first)
        ]

-- what lies over a host and a right side have a pushout that a change of the host leaves, or a first clash and no cocone
pub change_or_no_cocone : GluingsAreChanges
change_or_no_cocone C category F frame X gone copies next next_copied over right_ascends =
    let touched : ℕ → List ℕ = under_names F in
    let left_ascends = over_ascends C X F.left gone copies next next_copied over in
    let below = over_below C X F.left gone copies next next_copied over in
    let local = under_local C category F frame next_copied left_ascends right_ascends below in
    elim (glued_or_clash C category F frame next_copied left_ascends right_ascends below) [
      | inl one ↦
          inl (
            local_change C X F touched (numbers_at F touched) (firsts_at F touched) gone copies next_copied,
            record {
              d = renamed F next_copied touched (numbers_at F touched) (firsts_at F touched);
              s = placed F next_copied touched (numbers_at F touched) (firsts_at F touched);
              fits = local_fits C category F frame X gone copies next next_copied over touched (numbers_at F touched) (firsts_at F touched) local one;
              pushout = local_initial C category F frame X gone copies next next_copied over touched (numbers_at F touched) (firsts_at F touched) local one;
              named = local_named C category F frame X gone copies next next_copied over touched (numbers_at F touched) (firsts_at F touched) local one;
            },
          )
      | inr (object, w, c, a, b, clash) ↦
          inr (record {
            object = object;
            name = w;
            attribute = c;
            one = a;
            other = b;
            clash = clash;
            none = λ T d s cocone. no_cocone_at_clash C category F next_copied object w c a b clash T d s cocone;
          })
    ]
