-- Each match of a rule has a change that is its step, or an obstruction.
use Rattle.std.proofs.Common.{◌≡◌, ◌∙◌, ◌⊎◌, ◌==◌, ◌<◌, ℕ, true, not, map, nat_lt, Contains, List, None, [], append-nil, arith, inl, inr, length, refl, slice_index, sym, ap, subst, lt-ltb, zero-add}
use Rattle.std.specs.List.{list_all, list_any, range_with_len}
use Rattle.std.proofs.lemmas.Bool.{and_from}
use Rattle.std.proofs.lemmas.List.{get_or_default, same_lists}
use Rattle.std.proofs.lemmas.List.FromFn.{get_or-map-range_with_len, length-map-range_with_len}
use Rattle.rw_schema.specs.declared.atom.Atom.{Atom}
use Rattle.rw_schema.specs.declared.ids.AttrId.{AttrId}
use Rattle.rw_schema.specs.declared.ids.ObjectId.{ObjectId}
use Rattle.rw_schema.specs.RowLists.{list_at}
use Rattle.rw_schema.specs.Signature.{IsCategory, Signature}
use Rattle.rw_spec.specs.Ascending.{ascends}
use Rattle.rw_spec.specs.Cocone.{Frame}
use Rattle.rw_spec.specs.Instance.{Has, Instance, IsInstance, instance_of, lists_of}
use Rattle.rw_spec.specs.Natural.{IsNatural}
use Rattle.rw_spec.specs.Redex.{Redex}
use Rattle.rw_spec.proofs.Ascending.{ascends_distinct}
use Rattle.rw_spec.proofs.Ranges.{range_ascends}
use Rattle.rw_spec.proofs.Sequences.{filter_same, list_all_from_contained}
use Rattle.rw_table.specs.TableFaults.{table_fault}
use Rattle.rw_table.proofs.Listed.{listed_unfaulted}
use Rattle.rw_table.proofs.TableInstance.{table_instance}
use Rattle.rw_classes.specs.FirstClash.{IsFirstClash}
use Rattle.rw_columns.specs.Changes.{ChangeLists, changed, staying}
use Rattle.rw_delta.specs.ContextLists.{ContextLists, instance_of_context}
use Rattle.rw_pattern.specs.MapFaults.{image_of}
use Rattle.rw_pattern.specs.Matches.{matches}
use Rattle.rw_pattern.specs.PatternLists.{size_of}
use Rattle.rw_terms.specs.declared.code.OpCode.{OpCode}
use Rattle.rw_rule.specs.declared.refusal.Refusal.TheVariants.{Clash}
use Rattle.rw_rule.specs.Images.{is_injective}
use Rattle.rw_rule.specs.RuleLists.{RuleLists}
use Rattle.rw_complement.specs.Complement.{IsContext}
use Rattle.rw_complement.specs.Context.{context_map, context_of, is_removed}
use Rattle.rw_complement.specs.Named.{right_frame}
use Rattle.rw_complement.specs.Redex.{CanBeGlued, IsRedex}
use Rattle.rw_complement.proofs.Least.{context_is_least}
use Rattle.rw_glued.specs.OneGluing.{IsNaturalFrame}
use Rattle.rw_glued.specs.Result.{Classing, HaveOneAtom, class_name}
use Rattle.rw_redex.specs.Instantiated.{keep_at, redex_of, right_at}
use Rattle.rw_redex.specs.Step.{IsStep}
use Rattle.rw_redex.specs.Verdicts.{Obstructs, early, step_frame}
use Rattle.rw_redex.proofs.Early.{glued_free}
use Rattle.rw_redex.proofs.Gluing.{can_be_glued_at}
use Rattle.rw_redex.proofs.Instantiated.{redex_is}
use Rattle.rw_redex.proofs.Listing.{initial_of_same, same_listed}
use Rattle.rw_redex.proofs.Right.{keep_to_right, right_instance}
use Rattle.rw_redex.proofs.RuleKnown.{IsKnown}
use Rattle.rw_redex.proofs.SetKinds.{IsMet}
use Rattle.rw_local.specs.Answer.{IsAnswer}
use Rattle.rw_local.specs.Over.{IsOver}
use Rattle.rw_local.specs.inner.Glued.{gone_names, local_change}
use Rattle.rw_local.specs.inner.Local.{AreLocal, narrow, under_names}
use Rattle.rw_local.proofs.Answer.{answer_frame, answer_or_clash, change_is_answer}
use Rattle.rw_local.proofs.EachKind.{under_local}
use Rattle.rw_local.proofs.Reached.{any_filtered, over_ascends, over_below}
use Rattle.rw_local.proofs.Verdict.{clashes_from_small, firsts_at, numbers_at}

-- the context of a redex is over its host
pub context_over : (C : Signature) (R : Redex) (next : List ℕ) → ((object : ℕ) → object < C.objects → ascends (R.host.names object) ≡ true)
    → ((object x : ℕ) → object < C.objects → Has R.host object x → x < slice_index next object)
    → IsOver C R.host (context_of C R) (gone_names R) (λ object. []) next next
context_over C R next host_ascends host_below = record {
  host_ascends = host_ascends;
  host_below = host_below;
  copies_ascend = λ object known. refl;
  copies_past = λ object x known there. absurd (omega (arith, there.1));
  copied = λ object known. omega arith;
  names = λ object known.
      filter_same (λ w. not (is_removed R object w)) (λ name. not (list_any (λ other. other == name) (gone_names R object))) (R.host.names object)
      (λ x has. ap not (sym (any_filtered (is_removed R object) (R.host.names object) x has)))
      ∙ sym (append-nil (staying (gone_names R object) (R.host.names object)));
}

-- and so is the context that lists stand for
pub listed_over : (C : Signature) (X : Instance) (context : ContextLists) (next : List ℕ) → ((object : ℕ) → object < C.objects → ascends (X.names object) ≡ true)
    → ((object x : ℕ) → object < C.objects → Has X object x → x < slice_index next object)
    → IsOver C X (instance_of_context C X context) (list_at context.removed) (λ object. []) next next
listed_over C X context next host_ascends host_below = record {
  host_ascends = host_ascends;
  host_below = host_below;
  copies_ascend = λ object known. refl;
  copies_past = λ object x known there. absurd (omega (arith, there.1));
  copied = λ object known. omega arith;
  names = λ object known. sym (append-nil (staying (list_at context.removed object) (X.names object)));
}

-- a list is what it has at its places
places_of : (xs : List ℕ) (n : ℕ) → length xs ≡ n → map (slice_index xs) (range_with_len 0 n) ≡ xs
places_of xs n long =
    let whole : length (map (slice_index xs) (range_with_len 0 n)) ≡ n = length-map-range_with_len (slice_index xs) 0 n in
    same_lists (map (slice_index xs) (range_with_len 0 n)) xs (whole ∙ sym long)
    (λ k d within.
    let below : k < n = rw whole at within in
    get_or-map-range_with_len (slice_index xs) 0 n k k d below (zero-add k) ∙ get_or_default xs k 0 d (omega (arith, below, long)))

-- an answer over the redex of a rule at a match that nothing obstructs early is the step, in lists
pub step_from_answer : (C : Signature) → IsCategory C → (codes : List OpCode) (rule : RuleLists) (X : Instance) (next tuple : List ℕ)
    → Contains (matches C rule.goal.left rule.goal.monic X) tuple → early C codes rule tuple X next ≡ None
    → (change : ChangeLists) → IsAnswer C (redex_of rule tuple X) (right_at codes rule tuple X) (image_of rule.r) next change
    → IsStep C codes rule X next tuple (lists_of C (changed C X change) change.added.next)
step_from_answer C category codes rule X next tuple matched unobstructed change answer =
    let Y : Instance = changed C X change in
    let found = answer.pushout in
    let next_at : ℕ → ℕ = slice_index change.added.next in
    let are : map next_at (range_with_len 0 C.objects) ≡ change.added.next = places_of change.added.next C.objects answer.fits.objects.2 in
    let listed : table_fault C (lists_of C Y (map next_at (range_with_len 0 C.objects))) ≡ None =
    listed_unfaulted C Y next_at category
    (λ object within.
    let names : List ℕ = Y.names object in
    and_from (ascends names) (list_all (λ name. nat_lt name (next_at object)) names) (answer.ascending object within)
    (list_all_from_contained (λ name. nat_lt name (next_at object)) names (λ name there. lt-ltb name (next_at object) (answer.below object name within there))))
    found.pushout.cocone.instance in
    let sound : table_fault C (lists_of C Y change.added.next) ≡ None = subst (λ (numbers : List ℕ). table_fault C (lists_of C Y numbers) ≡ None) are listed in
    let distinct = λ (object : ℕ) (within : object < C.objects). ascends_distinct (Y.names object) (answer.ascending object within) in
    record {
      matched = matched;
      unobstructed = unobstructed;
      sound = sound;
      pushout = record {
        context = found.context;
        k = found.k;
        d = found.d;
        s = found.s;
        is_context = found.is_context;
        pushout = initial_of_same C category (right_frame (redex_of rule tuple X) (right_at codes rule tuple X) (image_of rule.r) found.context found.k)
            Y (instance_of C (lists_of C Y change.added.next)) found.d found.s (same_listed C category Y change.added.next distinct)
            (table_instance C (lists_of C Y change.added.next) sound) found.pushout;
        named = found.named;
        grown = found.grown;
      };
    }

-- at a match that nothing obstructs early, in a host
module _ (C : Signature) (codes : List OpCode) (rule : RuleLists) (tuple : List ℕ) (X : Instance) (next : List ℕ)
    (known : IsKnown C (length codes) rule) (apart : is_injective rule.keep rule.l ≡ true) (met : IsMet C rule tuple X)
    (host_ascends : (object : ℕ) → object < C.objects → ascends (X.names object) ≡ true)
    (host_below : (object w : ℕ) → object < C.objects → Has X object w → w < slice_index next object)
    (none : early C codes rule tuple X next ≡ None)
  where
    -- the redex
    abbrev R : Redex
    R = redex_of rule tuple X

    -- its right side
    abbrev right : Instance
    right = right_at codes rule tuple X

    -- context and right side
    abbrev F : Frame
    F = step_frame C codes rule tuple X

    -- the rule at the match is a redex
    redex : IsRedex C R
    redex = redex_is C met.category rule known.span apart tuple X met.host met.natural

    -- its right side is an instance
    instance : IsInstance C right
    instance = right_instance C codes rule tuple X known met

    -- the map to it is natural
    natural : IsNatural C (keep_at rule tuple X) right (image_of rule.r)
    natural = keep_to_right C codes rule tuple X (length codes) known

    -- the gluing condition holds
    can : CanBeGlued C R
    can =
        let free = glued_free C codes rule tuple X next none in
        can_be_glued_at C met.category rule known.span tuple X free.0 free.1

    -- the context is the least complement
    context : IsContext C R (context_of C R) (context_map R)
    context = context_is_least C met.category R redex can

    -- it is over the host
    over : IsOver C X (context_of C R) (gone_names R) (λ object. []) next next
    over = context_over C R next host_ascends host_below

    -- context and right side are to be glued along natural maps
    pub step_frame_natural : IsNaturalFrame C (step_frame C codes rule tuple X)
    step_frame_natural = answer_frame C met.category R redex right instance (image_of rule.r) natural (context_of C R) (context_map R) context

    -- where the atoms of each class of touched names and right parts are one, the local change is the answer
    pub answer_at : (touched : ℕ → List ℕ) (numbers firsts : Classing) → AreLocal C (step_frame C codes rule tuple X) next touched numbers firsts
        → HaveOneAtom C (narrow (step_frame C codes rule tuple X) touched) numbers
        → IsAnswer C (redex_of rule tuple X) (right_at codes rule tuple X) (image_of rule.r) next
        (local_change C X (step_frame C codes rule tuple X) touched numbers firsts (gone_names (redex_of rule tuple X)) (λ object. []) next)
    answer_at touched numbers firsts local one =
        change_is_answer C met.category R redex right instance (image_of rule.r) natural (context_of C R) (context_map R) context (gone_names R) next over touched numbers firsts local one

    -- and what is found first of their clashes obstructs the match
    pub clash_at : (touched : ℕ → List ℕ) (numbers firsts : List (List ℕ)) → AreLocal C (step_frame C codes rule tuple X) next touched (list_at numbers) (list_at firsts)
        → (object : ObjectId) (k : ℕ) (c : AttrId) (a b : Atom) → IsFirstClash C (narrow (step_frame C codes rule tuple X) touched) numbers object.0 k c.0 a b
        → Obstructs C codes rule tuple X next
        (Clash object (class_name (narrow (step_frame C codes rule tuple X) touched) next object.0 (slice_index (list_at firsts object.0) k)) c a b)
    clash_at touched numbers firsts local object k c a b first = (
      none,
      clashes_from_small C met.category F step_frame_natural next touched numbers firsts local
          (over_ascends C X (context_of C R) (gone_names R) (λ object. []) next next over) object.0 k c.0 a b first,
    )

    -- a change is the answer, or there is a clash
    pub change_or_clash : ((change : ChangeLists) × IsAnswer C (redex_of rule tuple X) (right_at codes rule tuple X) (image_of rule.r) next change)
        ⊎ ((object : ObjectId) × (w : ℕ) × (c : AttrId) × (a : Atom) × (b : Atom) × Obstructs C codes rule tuple X next (Clash object w c a b))
    change_or_clash =
        let touched : ℕ → List ℕ = under_names F in
        let local =
        under_local C met.category F step_frame_natural next
        (over_ascends C X (context_of C R) (gone_names R) (λ object. []) next next over)
        (λ object within. range_ascends 0 (size_of rule.right object))
        (over_below C X (context_of C R) (gone_names R) (λ object. []) next next over) in
        elim (answer_or_clash C met.category R redex right instance (image_of rule.r) natural (context_of C R) (context_map R) context
        (gone_names R) next over touched (numbers_at F touched) (firsts_at F touched) local) [
          | inl answer ↦ inl (local_change C X F touched (numbers_at F touched) (firsts_at F touched) (gone_names R) (λ object. []) next, answer)
          | inr (object, w, c, a, b, clash, nowhere) ↦ inr (record { 0 = object }, w, record { 0 = c }, a, b, (none, clash))
        ]
