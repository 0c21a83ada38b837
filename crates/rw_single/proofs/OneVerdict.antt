-- Each match has exactly one verdict.
use Rattle.std.proofs.Common.{◌≡◌, ◌⊎◌, ◌∙◌, ◌<◌, ℕ, true, nat_lt, map, Contains, List, None, Option, Some, arith, inl, inr, length, lt-ltb, refl, slice_index, subst, sym, zero-add}
use Rattle.std.specs.List.{list_all, range_with_len}
use Rattle.std.proofs.lemmas.Bool.{and_from}
use Rattle.std.proofs.lemmas.List.{get_or_default, same_lists}
use Rattle.std.proofs.lemmas.List.FromFn.{get_or-map-range_with_len, length-map-range_with_len}
use Rattle.rw_schema.specs.Signature.{IsCategory, Signature}
use Rattle.rw_spec.specs.Ascending.{ascends}
use Rattle.rw_spec.specs.Instance.{Instance, instance_of, lists_of}
use Rattle.rw_spec.proofs.Ascending.{ascends_distinct}
use Rattle.rw_spec.proofs.Ranges.{range_ascends}
use Rattle.rw_spec.proofs.Sequences.{list_all_from_contained}
use Rattle.rw_table.specs.TableFaults.{table_fault}
use Rattle.rw_table.proofs.Listed.{listed_unfaulted}
use Rattle.rw_table.proofs.TableInstance.{table_instance}
use Rattle.rw_columns.specs.Changes.{ChangeLists, changed}
use Rattle.rw_pattern.specs.Matches.{matches}
use Rattle.rw_pattern.specs.PatternLists.{size_of}
use Rattle.rw_terms.specs.declared.code.OpCode.{OpCode}
use Rattle.rw_rule.specs.declared.kind.RuleKind.TheVariants.{Spo}
use Rattle.rw_rule.specs.declared.refusal.Refusal.{Refusal}
use Rattle.rw_rule.specs.declared.refusal.Refusal.TheVariants.{Identification, Dangling, NoValue, TooLarge, Clash}
use Rattle.rw_rule.specs.Images.{is_injective}
use Rattle.rw_rule.specs.RuleFaults.{IsRuleOver, is_apart}
use Rattle.rw_rule.specs.RuleLists.{RuleLists}
use Rattle.rw_redex.proofs.Listing.{same_listed}
use Rattle.rw_redex.proofs.RuleKnown.{IsKnown, rule_known}
use Rattle.rw_redex.proofs.SetKinds.{IsMet, met_by_match}
use Rattle.rw_partial.specs.SinglePushout.{IsApplied, IsLargestPair}
use Rattle.rw_partial.specs.SubInstance.{Elements}
use Rattle.rw_partial.proofs.OnePair.{one_pair}
use Rattle.rw_local.specs.OneVerdict.{IsHost}
use Rattle.rw_single.specs.Answer.{IsSingleAnswer}
use Rattle.rw_single.specs.Instantiated.{applied_of}
use Rattle.rw_single.specs.Obstructions.{early_pair}
use Rattle.rw_single.specs.OneVerdict.{HaveOneSingleVerdict, IsChangeOfSingleStep}
use Rattle.rw_single.specs.Step.{IsSingleStep}
use Rattle.rw_single.specs.Verdicts.{ObstructsPair, ObstructsSingle}
use Rattle.rw_single.proofs.Applied.{applied_is}
use Rattle.rw_single.proofs.Early.{early_is}
use Rattle.rw_single.proofs.SamePartial.{partial_of_same}
use Rattle.rw_single.proofs.Single.{answer_or_clash}
use Rattle.rw_single.proofs.Verdicts.{early_of_largest, not_obstructed, only_single_obstruction, only_single_step}

-- a list is what it has at its places
places_of : (xs : List ℕ) (n : ℕ) → length xs ≡ n → map (slice_index xs) (range_with_len 0 n) ≡ xs
places_of xs n long =
    let whole : length (map (slice_index xs) (range_with_len 0 n)) ≡ n = length-map-range_with_len (slice_index xs) 0 n in
    same_lists (map (slice_index xs) (range_with_len 0 n)) xs (whole ∙ sym long)
    (λ k d within.
    let below : k < n = rw whole at within in
    get_or-map-range_with_len (slice_index xs) 0 n k k d below (zero-add k) ∙ get_or_default xs k 0 d (omega (arith, below, long)))

-- an answer at a match that nothing obstructs before atoms are compared is the step, in lists
pub single_step_from_answer : (C : Signature) → IsCategory C → (codes : List OpCode) (rule : RuleLists) (X : Instance) (next tuple : List ℕ)
    → Contains (matches C rule.goal.left rule.goal.monic X) tuple → (change : ChangeLists) (answer : IsSingleAnswer C (applied_of codes rule tuple X) next change)
    → early_pair C codes rule tuple X next answer.pushout.right ≡ None
    → IsSingleStep C codes rule X next tuple (lists_of C (changed C X change) change.added.next)
single_step_from_answer C category codes rule X next tuple matched change answer unobstructed =
    let Y : Instance = changed C X change in
    let found = answer.pushout in
    let next_at : ℕ → ℕ = slice_index change.added.next in
    let are : map next_at (range_with_len 0 C.objects) ≡ change.added.next = places_of change.added.next C.objects answer.fits.objects.2 in
    let listed : table_fault C (lists_of C Y (map next_at (range_with_len 0 C.objects))) ≡ None =
    listed_unfaulted C Y next_at category
    (λ object within.
    let names : List ℕ = Y.names object in
    and_from (ascends names) (list_all (λ name. nat_lt name (next_at object)) names) (answer.ascending object within)
    (list_all_from_contained (λ name. nat_lt name (next_at object)) names (λ name there. lt-ltb name (next_at object) (answer.below object name within there))))
    found.pushout.cocone.instance in
    let sound : table_fault C (lists_of C Y change.added.next) ≡ None = subst (λ (numbers : List ℕ). table_fault C (lists_of C Y numbers) ≡ None) are listed in
    let distinct = λ (object : ℕ) (within : object < C.objects). ascends_distinct (Y.names object) (answer.ascending object within) in
    record {
      matched = matched;
      sound = sound;
      pushout = record {
        host = found.host;
        right = found.right;
        d = found.d;
        s = found.s;
        pushout = partial_of_same C category (applied_of codes rule tuple X) found.host found.right found.d found.s Y (instance_of C (lists_of C Y change.added.next))
            (same_listed C category Y change.added.next distinct) (table_instance C (lists_of C Y change.added.next) sound) found.pushout;
        named = found.named;
        grown = found.grown;
      };
      unobstructed = unobstructed;
    }

-- what is found before atoms are compared obstructs the pair
obstructs_early : (C : Signature) (codes : List OpCode) (rule : RuleLists) (tuple : List ℕ) (X : Instance) (next : List ℕ) (host right : Elements) (refusal : Refusal)
    → early_pair C codes rule tuple X next right ≡ Some refusal → ObstructsPair C codes rule tuple X next host right refusal
obstructs_early C codes rule tuple X next host right (Identification object first second) is =
    early_is C codes rule tuple X next right (Identification object first second) is
obstructs_early C codes rule tuple X next host right (Dangling arrow name) is = early_is C codes rule tuple X next right (Dangling arrow name) is
obstructs_early C codes rule tuple X next host right (NoValue part attr) is = is
obstructs_early C codes rule tuple X next host right (TooLarge object) is = is
obstructs_early C codes rule tuple X next host right (Clash object name attr first second) is =
    absurd (early_is C codes rule tuple X next right (Clash object name attr first second) is)

-- at a match in a host
module _ (C : Signature) (codes : List OpCode) (rule : RuleLists) (tuple : List ℕ) (X : Instance) (next : List ℕ)
    (known : IsKnown C (length codes) rule) (apart : is_injective rule.keep rule.l ≡ true) (met : IsMet C rule tuple X)
    (matched : Contains (matches C rule.goal.left rule.goal.monic X) tuple) (host : IsHost C X next)
  where
    -- a change that leaves the step, or an obstruction
    abbrev Verdict : Type 0
    Verdict = ((change : ChangeLists) × IsChangeOfSingleStep C codes rule X next tuple change) ⊎ ((refusal : Refusal) × ObstructsSingle C codes rule tuple X next refusal)

    -- a single pushout can be asked of the rule at the match
    applied : IsApplied C (applied_of codes rule tuple X)
    applied = applied_is C codes rule tuple X known apart met

    -- at the largest pair there is a verdict
    verdict_at : (D R : Elements) → IsLargestPair C (applied_of codes rule tuple X) D R → (found : Option Refusal) → early_pair C codes rule tuple X next R ≡ found → Verdict
    verdict_at D R largest (Some refusal) is =
        inr (refusal, record { host = D; right = R; largest = largest; obstructs = obstructs_early C codes rule tuple X next D R refusal is })
    verdict_at D R largest None is =
        elim (answer_or_clash C met.category (applied_of codes rule tuple X) applied D R largest next host (λ object within. range_ascends 0 (size_of rule.right object))) [
          | inl (change, answer, pair) ↦
              let free : early_pair C codes rule tuple X next answer.pushout.right ≡ None =
              early_of_largest C codes rule tuple X next known apart met answer.pushout.host answer.pushout.right D R answer.pushout.pushout.largest largest ∙ is in
              inl (change, record { answer = answer; step = single_step_from_answer C met.category codes rule X next tuple matched change answer free })
          | inr found ↦
              inr (
                Clash (record { 0 = found.object }) found.name (record { 0 = found.attribute }) found.one found.other,
                record { host = D; right = R; largest = largest; obstructs = (is, found.clash) },
              )
        ]

    -- so there is one
    verdict_exists : Verdict
    verdict_exists =
        let pair = (one_pair C met.category (applied_of codes rule tuple X) applied).exists in
        verdict_at pair.0 pair.1 pair.2 (early_pair C codes rule tuple X next pair.1) refl

-- the map from the kept to the left pattern of a single-pushout rule is injective
spo_injective : (rule : RuleLists) → is_apart rule ≡ true → rule.kind ≡ Spo → is_injective rule.keep rule.l ≡ true
spo_injective rule apart spo = rw spo at apart

-- each match of a single-pushout rule has one verdict
pub one_single_verdict : (C : Signature) → IsCategory C → (codes : List OpCode) (rule : RuleLists) → IsRuleOver C (length codes) rule → rule.kind ≡ Spo
    → HaveOneSingleVerdict C codes rule
one_single_verdict C category codes rule over spo X next tuple host matched =
    let known : IsKnown C (length codes) rule = rule_known C (length codes) rule over in
    let apart : is_injective rule.keep rule.l ≡ true = spo_injective rule known.apart spo in
    let met : IsMet C rule tuple X = met_by_match C rule tuple X category host.instance over.parts.goal.left matched in
    record {
      exists = verdict_exists C codes rule tuple X next known apart met matched host;
      step = only_single_step C codes rule tuple X next known apart met;
      obstruction = only_single_obstruction C codes rule tuple X next known apart met;
      either = not_obstructed C codes rule tuple X next known apart met;
    }
