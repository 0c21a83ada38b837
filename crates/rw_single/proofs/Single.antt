-- The local change over the largest pair: it fits, and what it gives is the single pushout; or atoms clash.
use Rattle.std.proofs.Common.{◌≡◌, ◌∙◌, ◌⊎◌, ◌<◌, ◌+◌, ◌==◌, ℕ, Bool, true, false, not, filter, length, Contains, List, [], slice_index, refl, sym, ap, subst, inl, inr, arith, append-nil, zero-add}
use Rattle.std.specs.List.{list_any}
use Rattle.std.proofs.lemmas.List.FromFn.{get_or-map-range_with_len}
use Rattle.rw_schema.specs.Signature.{Signature, IsCategory}
use Rattle.rw_spec.specs.Ascending.{ascends}
use Rattle.rw_spec.specs.Cocone.{Frame}
use Rattle.rw_spec.specs.Instance.{Has}
use Rattle.rw_spec.specs.Natural.{Map}
use Rattle.rw_spec.proofs.Ascending.{ascends_filter}
use Rattle.rw_spec.proofs.Sequences.{contained_in_filter, filter_same}
use Rattle.rw_columns.specs.Changes.{ChangeLists, Fits, changed, staying}
use Rattle.rw_complement.specs.Named.{IsNamed, new_parts}
use Rattle.rw_glued.specs.OneGluing.{IsNaturalFrame}
use Rattle.rw_glued.specs.Result.{Classing, HaveOneAtom}
use Rattle.rw_glued.proofs.Clashes.{no_cocone_at_clash}
use Rattle.rw_partial.specs.SinglePushout.{Applied, IsApplied, IsInitialPartialCocone, IsLargestPair, frame_of_pair}
use Rattle.rw_partial.specs.SubInstance.{Elements, restricted}
use Rattle.rw_partial.proofs.Pairs.{pair_apex, pair_host, pair_right, pair_to_host, pair_to_right}
use Rattle.rw_partial.proofs.Partial.{cocone_of_pair, partial_from_gluing}
use Rattle.rw_local.specs.inner.Glued.{local_change}
use Rattle.rw_local.specs.inner.Local.{AreLocal, local_cell, narrow, placed, renamed, under_names}
use Rattle.rw_local.specs.OneVerdict.{IsHost}
use Rattle.rw_local.specs.Over.{IsOver}
use Rattle.rw_local.proofs.Classes.{local_cells, renamed_is}
use Rattle.rw_local.proofs.EachKind.{glued_or_clash, under_local}
use Rattle.rw_local.proofs.Reached.{any_filtered, wanted_ascends, wanted_below}
use Rattle.rw_local.proofs.Verdict.{firsts_at, local_fits, local_gluing, local_named, local_names, numbers_at}
use Rattle.rw_single.specs.Answer.{IsSingleAnswer}
use Rattle.rw_single.specs.OneVerdict.{HasPairClash, IsPairChange, LargestPairsAreChanges}

-- the names of the host that the largest pair has not
abbrev pub lost_names : Applied → Elements → ℕ → List ℕ
lost_names S D object = filter (λ x. not (D.part object x)) (S.host.names object)

-- a test that fails twice passes
twice : (b : Bool) → not (not b) ≡ b
twice true = refl
twice false = refl

-- over the largest pair of a rule at a match in a host
module _ (C : Signature) (category : IsCategory C) (S : Applied) (applied : IsApplied C S) (D R : Elements) (largest : IsLargestPair C S D R)
    (next : List ℕ) (host : IsHost C S.host next)
  where
    -- what is glued
    abbrev F : Frame
    F = frame_of_pair S D R

    -- it is glued along natural maps
    pub pair_frame : IsNaturalFrame C (frame_of_pair S D R)
    pair_frame = record {
      apex = pair_apex C category S applied D R largest;
      left = pair_host C category S applied D R largest;
      right = pair_right C category S applied D R largest;
      to_left = pair_to_host C category S applied D R largest;
      to_right = pair_to_right C category S applied D R largest;
    }

    -- the set of the host is over it
    pub pair_over : IsOver C S.host (restricted S.host D) (lost_names S D) (λ object. []) next next
    pair_over = record {
      host_ascends = host.ascends;
      host_below = host.below;
      copies_ascend = λ object known. refl;
      copies_past = λ object x known there. absurd (omega (arith, there.1));
      copied = λ object known. omega arith;
      names = λ object known.
          filter_same (D.part object) (λ name. not (list_any (λ other. other == name) (lost_names S D object))) (S.host.names object)
          (λ x has. sym (ap not (any_filtered (λ x. not (D.part object x)) (S.host.names object) x has) ∙ twice (D.part object x)))
          ∙ sym (append-nil (staying (lost_names S D object) (S.host.names object)));
    }

    -- names of the host's set ascend
    host_ascends : (object : ℕ) → object < C.objects → ascends (F.left.names object) ≡ true
    host_ascends object known = ascends_filter (D.part object) (S.host.names object) (host.ascends object known)

    -- and are below the next names
    host_below : (object x : ℕ) → object < C.objects → Has F.left object x → x < slice_index next object
    host_below object x known has = host.below object x known (contained_in_filter (D.part object) (S.host.names object) x has).0

    -- of touched names, their classes, and one atom each
    module _ (touched : ℕ → List ℕ) (numbers firsts : Classing) (local : AreLocal C (frame_of_pair S D R) next touched numbers firsts)
        (one : HaveOneAtom C (narrow (frame_of_pair S D R) touched) numbers)
      where
        -- where names go
        abbrev d : Map
        d = renamed F next touched numbers firsts

        -- where right parts go
        abbrev s : Map
        s = placed F next touched numbers firsts

        -- the change
        abbrev change : ChangeLists
        change = local_change C S.host F touched numbers firsts (lost_names S D) (λ object. []) next

        -- what the change gives is an initial partial cocone
        pub single_is_initial : IsInitialPartialCocone C S D R
            (changed C S.host (local_change C S.host (frame_of_pair S D R) touched numbers firsts (lost_names S D) (λ object. []) next))
            (renamed (frame_of_pair S D R) next touched numbers firsts) (placed (frame_of_pair S D R) next touched numbers firsts)
        single_is_initial =
            partial_from_gluing C category S applied D R largest (changed C S.host change) d s
            (local_gluing C category F pair_frame S.host (lost_names S D) (λ object. []) next next pair_over touched numbers firsts local one)

        -- it fits
        change_fits : Fits C S.host (slice_index next) change
        change_fits = local_fits C category F pair_frame S.host (lost_names S D) (λ object. []) next next pair_over touched numbers firsts local one

        -- and is named as a step names it
        change_named : IsNamed C F next d s
        change_named = local_named C category F pair_frame S.host (lost_names S D) (λ object. []) next next pair_over touched numbers firsts local one

        -- so it leaves an initial partial cocone
        pub single_change : IsPairChange C S D R next (local_change C S.host (frame_of_pair S D R) touched numbers firsts (lost_names S D) (λ object. []) next)
        single_change = record { d = d; s = s; fits = change_fits; pushout = single_is_initial; named = change_named }

        -- and it answers the step
        pub single_is_answer : IsSingleAnswer C S next (local_change C S.host (frame_of_pair S D R) touched numbers firsts (lost_names S D) (λ object. []) next)
        single_is_answer =
            let cell = local_cell C F next touched numbers firsts in
            let renaming = renamed_is C category F pair_frame next touched numbers firsts local in
            let cells = local_cells C category F pair_frame next touched numbers firsts local one in
            let names = local_names C category F pair_frame S.host (lost_names S D) (λ object. []) next next pair_over touched numbers firsts local one in
            record {
              fits = change_fits;
              pushout = record {
                host = D;
                right = R;
                d = d;
                s = s;
                pushout = single_is_initial;
                named = change_named;
                grown = λ object known.
                    get_or-map-range_with_len (λ object. slice_index next object + length (new_parts F object)) 0 C.objects object object 0 known (zero-add object);
              };
              ascending = λ object known.
                  subst (λ (names : List ℕ). ascends names ≡ true) (sym (names object known))
                  (wanted_ascends C category F pair_frame S.host (lost_names S D) (λ object. []) next next pair_over local.right_ascends d s renaming cell cells object known);
              below = λ object x known has.
                  wanted_below C category F pair_frame S.host (lost_names S D) (λ object. []) next next pair_over local.right_ascends d s renaming cell cells object x known
                  (subst (λ (names : List ℕ). Contains names x) (names object known) has);
            }

    -- where names of the right side ascend
    module _ (right_ascends : (object : ℕ) → object < C.objects → ascends (S.right.names object) ≡ true) where
      -- so do those that stay
      staying_ascend : (object : ℕ) → object < C.objects → ascends (F.right.names object) ≡ true
      staying_ascend object known = ascends_filter (R.part object) (S.right.names object) (right_ascends object known)

      -- the touched names, their classes, and where these begin
      abbrev touched : ℕ → List ℕ
      touched = under_names F

      abbrev numbers : Classing
      numbers = numbers_at F touched

      abbrev firsts : Classing
      firsts = firsts_at F touched

      local : AreLocal C F next touched numbers firsts
      local = under_local C category F pair_frame next host_ascends staying_ascend host_below

      -- a change is the answer, and it leaves an initial partial cocone; or there is a first clash
      pub answer_or_clash : ((change : ChangeLists) × IsSingleAnswer C S next change × IsPairChange C S D R next change) ⊎ HasPairClash C S D R next
      answer_or_clash =
          elim (glued_or_clash C category F pair_frame next host_ascends staying_ascend host_below) [
            | inl one ↦
                inl (
                  local_change C S.host F touched numbers firsts (lost_names S D) (λ object. []) next,
                  single_is_answer touched numbers firsts local one,
                  single_change touched numbers firsts local one,
                )
            | inr (object, w, c, a, b, clash) ↦
                inr (record {
                  object = object;
                  name = w;
                  attribute = c;
                  one = a;
                  other = b;
                  clash = clash;
                  none = λ T d s cocone. no_cocone_at_clash C category F next object w c a b clash T d s ((cocone_of_pair C S D R largest T d s).0 cocone);
                })
          ]

-- the largest pair is glued by a change of the host, or there is a first clash and no partial cocone with it
pub pairs_are_changes : LargestPairsAreChanges
pairs_are_changes C category S applied D R largest next host right_ascends =
    elim (answer_or_clash C category S applied D R largest next host right_ascends) [
      | inl (change, answer, is) ↦ inl (change, is)
      | inr clash ↦ inr clash
    ]
