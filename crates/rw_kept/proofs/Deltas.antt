-- Removed, added and touched names are a change, said from both sides.
use Rattle.std.proofs.Common.{◌≡◌, ◌==◌, ℕ, ◌<◌, Option, Some, None, List, Contains, refl, sym, ap, ◌∙◌, inl, inr}
use Rattle.std.specs.List.{list_any}
use Rattle.std.proofs.lemmas.Bool.{both_ways, cases_eq}
use Rattle.std.proofs.lemmas.List.Elements.{Contains-append_left, Contains-append_right, Contains-append_cases}
use Rattle.rw_schema.specs.declared.atom.Atom.{Atom}
use Rattle.rw_schema.specs.Atoms.{is_same_atom}
use Rattle.rw_schema.specs.Signature.{Signature}
use Rattle.rw_spec.specs.Instance.{Instance, Has}
use Rattle.rw_spec.proofs.Look.{contains_found, found_contained}
use Rattle.rw_schema.proofs.SameAtoms.{one_atom, same_as_itself}
use Rattle.rw_kept.specs.Changed.{AgreeAt, ChangedLists, IsDelta, IsChange, left_names, come_names}
use Rattle.rw_kept.proofs.Through.{decided}

-- what does not fail holds
stable_number : (a b : ℕ) → ((a ≡ b → ⊥) → ⊥) → a ≡ b
stable_number a b not_not = elim (cases_eq a b) [ inl same ↦ same | inr other ↦ absurd (not_not other) ]

stable_cell : (a b : Option Atom) → ((a ≡ b → ⊥) → ⊥) → a ≡ b
stable_cell None None not_not = refl
stable_cell None (Some y) not_not = absurd (not_not (λ same. cc))
stable_cell (Some x) None not_not = absurd (not_not (λ same. cc))
stable_cell (Some x) (Some y) not_not =
    elim (decided (is_same_atom x y)) [
      | inl same ↦ ap (λ (z : Atom). Some z) (one_atom x y same)
      | inr other ↦ absurd (not_not (λ same.
          let one : x ≡ y = cc in
          both_ways (is_same_atom x y) other (ap (is_same_atom x) (sym one) ∙ same_as_itself x)))
    ]

stable_name : (names : List ℕ) (x : ℕ) → ((Contains names x → ⊥) → ⊥) → Contains names x
stable_name names x not_not =
    elim (decided (list_any (λ name. name == x) names)) [
      | inl found ↦ contains_found names x found
      | inr none ↦ absurd (not_not (λ there. both_ways (list_any (λ name. name == x) names) none (found_contained names x there)))
    ]

stable_agree : (C : Signature) (X Y : Instance) (object x : ℕ) → ((AgreeAt C X Y object x → ⊥) → ⊥) → AgreeAt C X Y object x
stable_agree C X Y object x not_not = record {
  values = λ a ends there is. stable_number (X.value a x) (Y.value a x) (λ other. not_not (λ agree. other (agree.values a ends there is)));
  cells = λ c ends there is. stable_cell (X.cell c x) (Y.cell c x) (λ other. not_not (λ agree. other (agree.cells c ends there is)));
}

agree_back : (C : Signature) (X Y : Instance) (object x : ℕ) → AgreeAt C X Y object x → AgreeAt C Y X object x
agree_back C X Y object x agree = record {
  values = λ a ends there is. sym (agree.values a ends there is);
  cells = λ c ends there is. sym (agree.cells c ends there is);
}

-- a name that stays and is not touched
stays : (C : Signature) (X Y : Instance) (changed : ChangedLists) → IsDelta C X Y changed → (object x : ℕ) → object < C.objects → Has X object x
    → (Contains (left_names changed object) x → ⊥) → Has Y object x × AgreeAt C X Y object x
stays C X Y changed delta object x known has unchanged =
    let after : Has Y object x = stable_name (Y.names object) x (λ none. unchanged
    (Contains-append_left (changed.removed object) (changed.touched object) x ((delta.removed object x known).1 (has, none)))) in (
      after,
      stable_agree C X Y object x (λ differ. unchanged
          (Contains-append_right (changed.removed object) (changed.touched object) x ((delta.touched object x known).1 ((has, after), differ)))),
    )

stays_back : (C : Signature) (X Y : Instance) (changed : ChangedLists) → IsDelta C X Y changed → (object x : ℕ) → object < C.objects → Has Y object x
    → (Contains (come_names changed object) x → ⊥) → Has X object x × AgreeAt C X Y object x
stays_back C X Y changed delta object x known has unchanged =
    let before : Has X object x = stable_name (X.names object) x (λ none. unchanged
    (Contains-append_left (changed.added object) (changed.touched object) x ((delta.added object x known).1 (has, none)))) in (
      before,
      stable_agree C X Y object x (λ differ. unchanged
          (Contains-append_right (changed.added object) (changed.touched object) x ((delta.touched object x known).1 ((before, has), differ)))),
    )

-- removed and touched names go, added and touched names come
pub change_of : (C : Signature) (X Y : Instance) (changed : ChangedLists) → IsDelta C X Y changed → IsChange C X Y (left_names changed) (come_names changed)
change_of C X Y changed delta = record {
  there = record {
    each = λ object x known has unchanged.
        let after = stays C X Y changed delta object x known has unchanged in (
          after.0,
          after.1,
          λ comes. elim (Contains-append_cases (changed.added object) (changed.touched object) x comes) [
            | inl added ↦ ((delta.added object x known).0 added).1 has
            | inr touched ↦ ((delta.touched object x known).0 touched).1 after.1
          ],
        );
  };
  back = record {
    each = λ object x known has unchanged.
        let before = stays_back C X Y changed delta object x known has unchanged in (
          before.0,
          agree_back C X Y object x before.1,
          λ goes. elim (Contains-append_cases (changed.removed object) (changed.touched object) x goes) [
            | inl removed ↦ ((delta.removed object x known).0 removed).1 has
            | inr touched ↦ ((delta.touched object x known).0 touched).1 before.1
          ],
        );
  };
}
