-- Where nothing obstructs a match, the classes of the context and the right side, under their names, are its step.
use Rattle.std.proofs.Common.{◌≡◌, ◌<◌, ◌+◌, ℕ, true, List, length, None, slice_index, nat_lt, lt-ltb}
use Rattle.std.specs.List.{Contains, list_all, range_with_len}
use Rattle.std.proofs.lemmas.Bool.{and_from}
use Rattle.rw_schema.specs.RowLists.{RowLists}
use Rattle.rw_schema.specs.Signature.{Signature, IsCategory}
use Rattle.rw_spec.specs.Cocone.{Frame}
use Rattle.rw_spec.specs.Instance.{Instance, IsInstance, Has, instance_of, lists_of}
use Rattle.rw_spec.specs.Natural.{IsNatural}
use Rattle.rw_spec.proofs.Sequences.{list_all_from_contained}
use Rattle.rw_spec.specs.Ascending.{ascends}
use Rattle.rw_spec.proofs.Ranges.{range_ascends}
use Rattle.rw_table.specs.TableFaults.{table_fault}
use Rattle.rw_table.proofs.Listed.{listed_unfaulted}
use Rattle.rw_table.proofs.TableInstance.{table_instance}
use Rattle.rw_pattern.specs.MapFaults.{image_of}
use Rattle.rw_pattern.specs.Matches.{matches}
use Rattle.rw_pattern.specs.PatternLists.{size_of}
use Rattle.rw_terms.specs.declared.code.OpCode.{OpCode}
use Rattle.rw_rule.specs.Images.{is_injective}
use Rattle.rw_rule.specs.RuleLists.{RuleLists}
use Rattle.rw_redex.proofs.RuleKnown.{IsKnown}
use Rattle.rw_redex.proofs.SetKinds.{IsMet}
use Rattle.rw_classes.specs.Classes.{AreClasses}
use Rattle.rw_classes.specs.Places.{count_at, joined_at}
use Rattle.rw_complement.specs.Complement.{IsComplement}
use Rattle.rw_complement.specs.Context.{context_of, context_map}
use Rattle.rw_complement.specs.Named.{IsDoublePushout, right_frame, new_parts}
use Rattle.rw_complement.specs.Redex.{IsRedex, CanBeGlued}
use Rattle.rw_complement.proofs.Complement.{context_is_complement}
use Rattle.rw_glued.specs.Result.{Classing, HaveOneAtom, AreJoined, class_names, glued_of, next_after}
use Rattle.rw_glued.proofs.DoublePushout as double
use Rattle.rw_glued.proofs.Result as result
use Rattle.rw_redex.specs.Gluing.{identification}
use Rattle.rw_redex.specs.Instantiated.{keep_at, redex_of, right_at}
use Rattle.rw_redex.specs.Step.{IsStep}
use Rattle.rw_redex.specs.Obstructions.{dangling}
use Rattle.rw_redex.specs.Verdicts.{early, step_frame}
use Rattle.rw_redex.proofs.Early.{glued_free}
use Rattle.rw_redex.proofs.Gluing.{can_be_glued_at}
use Rattle.rw_redex.proofs.Instantiated.{redex_is}
use Rattle.rw_redex.proofs.Listing.{same_listed, initial_of_same}
use Rattle.rw_redex.proofs.Right.{right_instance, keep_to_right}

-- the lists after the step, of the classes
abbrev pub lists_after : Signature → List OpCode → RuleLists → List ℕ → Instance → List ℕ → Classing → Classing → RowLists
lists_after C codes rule tuple X next numbers firsts =
    lists_of C (glued_of C (step_frame C codes rule tuple X) next numbers firsts)
    (next_after C (step_frame C codes rule tuple X) next)

module _ (C : Signature) (codes : List OpCode) (rule : RuleLists) (tuple : List ℕ) (X : Instance) (next : List ℕ)
    (known : IsKnown C (length codes) rule) (apart : is_injective rule.keep rule.l ≡ true) (met : IsMet C rule tuple X)
    (matched : Contains (matches C rule.goal.left rule.goal.monic X) tuple)
    (unobstructed : early C codes rule tuple X next ≡ None)
    (host_ascends : (object : ℕ) → object < C.objects → ascends (X.names object) ≡ true)
    (below : (object w : ℕ) → object < C.objects → Has X object w → w < slice_index next object)
    (numbers firsts : Classing)
    (classes : (object : ℕ) → object < C.objects
    → AreClasses (count_at (step_frame C codes rule tuple X) object) (joined_at (step_frame C codes rule tuple X) object) (numbers object) (firsts object))
    (one : HaveOneAtom C (step_frame C codes rule tuple X) numbers)
  where
    category : IsCategory C
    category = met.category

    redex : IsRedex C (redex_of rule tuple X)
    redex = redex_is C met.category rule known.span apart tuple X met.host met.natural

    free : (identification rule tuple ≡ None) × (dangling C rule tuple X ≡ None)
    free = glued_free C codes rule tuple X next unobstructed

    can : CanBeGlued C (redex_of rule tuple X)
    can = can_be_glued_at C met.category rule known.span tuple X free.0 free.1

    right : IsInstance C (right_at codes rule tuple X)
    right = right_instance C codes rule tuple X known met

    natural : IsNatural C (keep_at rule tuple X) (right_at codes rule tuple X) (image_of rule.r)
    natural = keep_to_right C codes rule tuple X (length codes) known

    right_ascends : (object : ℕ) → object < C.objects → ascends (range_with_len 0 (size_of rule.right object)) ≡ true
    right_ascends object within = range_ascends 0 (size_of rule.right object)

    joined : AreJoined C (step_frame C codes rule tuple X) next numbers firsts
    joined = double.joined C met.category (redex_of rule tuple X) redex can (right_at codes rule tuple X) right (image_of rule.r) natural
        next host_ascends right_ascends below numbers firsts classes

    -- the instance of the classes is a double pushout
    glued : IsDoublePushout C (redex_of rule tuple X) (right_at codes rule tuple X) (image_of rule.r) next
        (glued_of C (step_frame C codes rule tuple X) next numbers firsts) (next_after C (step_frame C codes rule tuple X) next)
    glued = double.glued_is_double_pushout C met.category (redex_of rule tuple X) redex can (right_at codes rule tuple X) right (image_of rule.r) natural
        next host_ascends right_ascends below numbers firsts classes one

    complement : IsComplement C (redex_of rule tuple X) (context_of C (redex_of rule tuple X)) (context_map (redex_of rule tuple X)) (λ object x. x)
    complement = context_is_complement C met.category (redex_of rule tuple X) redex can

    -- the lists of the instance have no fault
    lists_sound : table_fault C (lists_after C codes rule tuple X next numbers firsts) ≡ None
    lists_sound =
        let F : Frame = step_frame C codes rule tuple X in
        let next_name : ℕ → ℕ = λ object. slice_index next object + length (new_parts F object) in
        listed_unfaulted C (glued_of C F next numbers firsts) next_name met.category
        (λ object within.
        let names : List ℕ = class_names F next firsts object in
        and_from (ascends names) (list_all (λ name. nat_lt name (next_name object)) names)
        (result.names_ascend C met.category F complement.instance right redex.keep complement.from_keep.natural natural next numbers firsts joined object within)
        (list_all_from_contained (λ name. nat_lt name (next_name object)) names (λ name there.
        lt-ltb name (next_name object)
        (result.names_below C met.category F complement.instance right redex.keep complement.from_keep.natural natural next numbers firsts joined object name within there))))
        glued.pushout.cocone.instance

    -- the lists are the step
    pub step_is : IsStep C codes rule X next tuple (lists_after C codes rule tuple X next numbers firsts)
    step_is =
        let F : Frame = step_frame C codes rule tuple X in
        let H : Instance = glued_of C F next numbers firsts in
        let after : RowLists = lists_after C codes rule tuple X next numbers firsts in
        record {
          matched = matched;
          unobstructed = unobstructed;
          sound = lists_sound;
          pushout = record {
            context = glued.context;
            k = glued.k;
            d = glued.d;
            s = glued.s;
            is_context = glued.is_context;
            pushout = initial_of_same C met.category (right_frame (redex_of rule tuple X) (right_at codes rule tuple X) (image_of rule.r) glued.context glued.k)
                H (instance_of C after) glued.d glued.s
                (same_listed C met.category H (next_after C F next)
                (result.names_distinct C met.category F complement.instance right redex.keep complement.from_keep.natural natural next numbers firsts joined))
                (table_instance C after lists_sound) glued.pushout;
            named = glued.named;
            grown = glued.grown;
          };
        }
