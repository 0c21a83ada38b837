-- The lists that a context is kept in stand for the least complement.
use Rattle.std.proofs.Common.{◌≡◌, ◌∙◌, ◌<◌, ◌&&◌, ℕ, Bool, true, false, not, cond, filter, Contains, List, [], Option, Some, None, refl, sym, ap, zero-add, inl, inr}
use Rattle.std.specs.Option.{is_some}
use Rattle.std.proofs.lemmas.Bool.{both_ways, cases_Bool, false_from_ne_true}
use Rattle.rw_schema.specs.declared.atom.Atom.{Atom}
use Rattle.rw_schema.specs.RowLists.{list_at}
use Rattle.rw_schema.specs.Signature.{Signature, IsCategory}
use Rattle.rw_spec.specs.Instance.{Instance, IsInstance, Has}
use Rattle.rw_spec.specs.Natural.{Map, SameOn}
use Rattle.rw_schema.proofs.Lists.{get_or_map_in}
use Rattle.std.proofs.lemmas.List.FromFn.{get_or-map-range_with_len}
use Rattle.rw_spec.proofs.Look.{contains_found, found_contained}
use Rattle.rw_spec.proofs.Sequences.{contains_filter, contained_in_filter}
use Rattle.rw_spec.proofs.Signatures.{holder_is}
use Rattle.rw_rule.specs.RuleLists.{RuleLists}
use Rattle.rw_complement.specs.Complement.{IsBetween, IsContext, identity}
use Rattle.rw_complement.specs.Context.{context_of, is_removed, is_blanked}
use Rattle.rw_spec.specs.Redex.{Redex}
use Rattle.rw_spec.specs.Same.{AreSame}
use Rattle.rw_complement.proofs.Named.{same_back, same_homomorphism, same_initial}
use Rattle.rw_delta.specs.ContextLists.{ContextLists, instance_of_context, is_in}
use Rattle.rw_redex.specs.Instantiated.{redex_of}
use Rattle.rw_redex.proofs.Listing.{homomorphism_to_same}
use Rattle.rw_dpo.specs.Contexts.{IsContextOf, blank_names, loses_atom, removed_names}

-- an instance that is one with the context is the context
pub same_context : (C : Signature) → IsCategory C → (R : Redex) (D D' : Instance) (k : Map) → AreSame C D D' → IsInstance C D' → IsContext C R D k → IsContext C R D' k
same_context C category R D D' k same instance is =
    let back : AreSame C D' D = same_back C category D D' same in
    let from_keep = homomorphism_to_same C category R.keep D D' k same is.complement.from_keep in
    let same_map : SameOn C R.keep k k = λ object z known has. refl in
    let onward : (X : Instance) (f g u : Map) → IsBetween C R D' k identity X f g u → IsBetween C R D k identity X f g u =
    λ X f g u between. record {
      homomorphism = same_homomorphism C category D D' X u same between.homomorphism;
      from_keep = between.from_keep;
      to_host = λ object w known has. between.to_host object w known ((same.names object w known).0 has);
    } in
    record {
      complement = record {
        instance = instance;
        from_keep = from_keep;
        pushout = same_initial C category R.keep R.left R.l D' D k k back same_map from_keep.natural is.complement.from_keep.natural R.host identity R.m is.complement.pushout;
      };
      least = λ X f g complement.
          let found = is.least X f g complement in (
            found.0,
            record {
              homomorphism = same_homomorphism C category D' D X found.0 back found.1.homomorphism;
              from_keep = found.1.from_keep;
              to_host = λ object w known has. found.1.to_host object w known ((same.names object w known).1 has);
            },
          );
      unique = λ X f g u v complement first second object w known has.
          is.unique X f g u v complement (onward X f g u first) (onward X f g v second) object w known ((same.names object w known).1 has);
    }

-- a number is in a filter of names where it is one and passes
in_filter : (test : ℕ → Bool) (names : List ℕ) (w : ℕ) → Contains names w → is_in (filter test names) w ≡ test w
in_filter test names w has =
    elim (cases_Bool (test w)) [
      | inl passes ↦ found_contained (filter test names) w (contains_filter test names w has passes) ∙ sym passes
      | inr fails ↦
          false_from_ne_true (is_in (filter test names) w)
          (λ found. both_ways (test w) fails (contained_in_filter test names w (contains_found (filter test names) w found)).1)
          ∙ sym fails
    ]

-- where nothing is there, blank or not makes no difference
blank_none : (first second : Bool) (cell : Option Atom) → second ≡ (first && is_some cell) → cond first None cell ≡ cond second None cell
blank_none true second None is = rw is refl
blank_none true second (Some atom) is = rw is refl
blank_none false second cell is = rw is refl

-- the lists stand for the context
pub lists_are_context : (C : Signature) → IsCategory C → (rule : RuleLists) (tuple : List ℕ) (X : Instance) (given : List ℕ) (context : ContextLists)
    → IsContextOf C rule tuple X given context → AreSame C (context_of C (redex_of rule tuple X)) (instance_of_context C X context)
lists_are_context C category rule tuple X given context lists =
    let R : Redex = redex_of rule tuple X in
    let removed : (object w : ℕ) → object < C.objects → Has X object w → is_in (list_at context.removed object) w ≡ is_removed R object w =
    λ object w known has.
    ap (λ (removed : List (List ℕ)). is_in (list_at removed object) w) lists.removed
    ∙ ap (λ (names : List ℕ). is_in names w) (get_or-map-range_with_len (removed_names rule tuple X) 0 C.objects object object [] known (zero-add object))
    ∙ in_filter (is_removed R object) (X.names object) w has in
    record {
      names = λ object w known. (
        (λ has.
            let both = contained_in_filter (λ w. not (is_removed R object w)) (X.names object) w has in
            contains_filter (λ w. not (is_in (list_at context.removed object) w)) (X.names object) w both.0 (ap not (removed object w known both.0) ∙ both.1)),
        (λ has.
            let both = contained_in_filter (λ w. not (is_in (list_at context.removed object) w)) (X.names object) w has in
            contains_filter (λ w. not (is_removed R object w)) (X.names object) w both.0 (sym (ap not (removed object w known both.0)) ∙ both.1)),
      );
      values = λ a ends w there has. refl;
      cells = λ c ends w there has.
          let object : ℕ = ends.object.0 in
          let both = contained_in_filter (λ w. not (is_removed R object w)) (X.names object) w has in
          let listed : list_at context.blank c ≡ blank_names rule tuple X c ends =
          ap (λ (blank : List (List ℕ)). list_at blank c) lists.blank
          ∙ (rw zero-add at (get_or_map_in (blank_names rule tuple X) 0 C.attributes c ends [] there)) in
          let in_blank : is_in (list_at context.blank c) w ≡ loses_atom R object c w =
          ap (λ (names : List ℕ). is_in names w) listed ∙ in_filter (loses_atom R object c) (X.names object) w both.0 in
          let loses : loses_atom R object c w ≡ (is_blanked R object c w && is_some (X.cell c w)) = rw both.1 refl in
          ap (λ (object : ℕ). cond (is_blanked R object c w) None (X.cell c w)) (holder_is C c ends there)
          ∙ blank_none (is_blanked R object c w) (is_in (list_at context.blank c) w) (X.cell c w) (in_blank ∙ loses);
    }
