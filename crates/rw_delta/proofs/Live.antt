-- The names that a change leaves.
use Rattle.std.proofs.Common.{◌≡◌, ◌==◌, ◌∙◌, ℕ, ◌<◌, ◌≤◌, Bool, true, not, ◌&&◌, ◌||◌, ◌++◌, None, List, [], ◌∷◌, length, filter, position, get_or, refl, sym, ap, subst, inl, inr, arith}
use Rattle.std.specs.List.{list_any}
use Rattle.std.proofs.lemmas.Bool.{cases_Bool, cases_lt, eqb-true}
use Rattle.std.proofs.lemmas.List.{append-nil, get_or_past}
use Rattle.std.proofs.lemmas.List.Elements.{All-contains, Contains-append_cases}
use Rattle.std.proofs.lemmas.List.Folds.{list_any-append}
use Rattle.rw_schema.specs.RowLists.{list_at}
use Rattle.rw_schema.specs.Signature.{source_of}
use Rattle.rw_spec.specs.Ascending.{ascends}
use Rattle.rw_spec.specs.Ends.{target_of}
use Rattle.rw_spec.specs.Instance.{Has}
use Rattle.rw_spec.proofs.Sequences.{contained_in_filter}
use Rattle.rw_spec.proofs.Signatures.{source_is, target_is}
use Rattle.rw_columns.specs.ChangedColumns.{FitsColumns}
use Rattle.rw_columns.specs.Changes.{ChangeLists, staying}
use Rattle.rw_columns.specs.Columned.{Columned, column_at, instance_of_columns, next_of}
use Rattle.rw_spec.proofs.Ascending.{ascends_append, ascends_filter}
use Rattle.rw_columns.proofs.Changed.{names_ascend}
use Rattle.rw_columns.proofs.Left.{and_false}
use Rattle.rw_columns.proofs.Columned.{places_are, there_at}
use Rattle.rw_delta.specs.After.{instance_after}
use Rattle.rw_delta.proofs.Looked.{place_missing}

-- a name is found among the items that pass a test where it is found among all and passes
found_filtered : (test : ℕ → Bool) (xs : List ℕ) (x : ℕ) → list_any (λ other. other == x) (filter test xs) ≡ (list_any (λ other. other == x) xs && test x)
found_filtered test [] x = refl
found_filtered test (y ∷ xs) x =
    let rest = found_filtered test xs x in
    elim (cases_Bool (y == x)) [
      | inl here ↦
          let same : test y ≡ test x = ap test (eqb-true y x here) in
          elim (cases_Bool (test x)) [
            | inl passes ↦ rw (same ∙ passes, here, passes) refl
            | inr fails ↦ rw (same ∙ fails, here, fails) (rest ∙ rw fails (and_false (list_any (λ other. other == x) xs)))
          ]
      | inr apart ↦ elim (cases_Bool (test y)) [
        | inl kept ↦ rw (kept, apart) rest
        | inr left ↦ rw (left, apart) rest
      ]
    ]

-- a name that stays or comes is found afterwards
pub found_after : (names removed added : List ℕ) (x : ℕ)
    → ((list_any (λ other. other == x) names && not (list_any (λ other. other == x) removed)) || list_any (λ other. other == x) added)
    ≡ list_any (λ other. other == x) (staying removed names ++ added)
found_after names removed added x =
    let stays = λ (name : ℕ). not (list_any (λ other. other == name) removed) in
    ap (λ (found : Bool). found || list_any (λ other. other == x) added) (sym (found_filtered stays names x))
    ∙ sym (list_any-append (λ other. other == x) (staying removed names) added)

module _ (columns : Columned) (change : ChangeLists) (fits : FitsColumns columns change) where
  -- a name that is there afterwards and does not come was there before
  pub was_there : (object x : ℕ) → Has (instance_after columns change) object x → position (λ other. other == x) (list_at change.added.names object) ≡ None
      → Has (instance_of_columns columns) object x
  was_there object x has apart =
      let names = (instance_of_columns columns).names object in
      let added = list_at change.added.names object in
      elim (Contains-append_cases (staying (list_at change.removed object) names) added x has) [
        | inl stays ↦ (contained_in_filter (λ name. not (list_any (λ other. other == name) (list_at change.removed object))) names x stays).0
        | inr comes ↦ absurd (place_missing added x apart comes)
      ]

  -- where an arrow leads afterwards is there afterwards
  pub leads_after : (arrow x : ℕ) → arrow < length columns.signature.arrows → Has (instance_after columns change) (source_of columns.signature arrow) x
      → Has (instance_after columns change) (target_of columns.signature arrow) ((instance_after columns change).value arrow x)
  leads_after arrow x known has =
      let Y = instance_after columns change in
      let ends = there_at columns.signature.arrows arrow known in
      subst (λ (object : ℕ). Has Y object (Y.value arrow x)) (sym (target_is columns.signature arrow ends.0 ends.1))
      (fits.gives.values arrow ends.0 x ends.1 (subst (λ (object : ℕ). Has Y object x) (source_is columns.signature arrow ends.0 ends.1) has))

  -- the names of each object ascend afterwards
  pub ascend_after : (object : ℕ) → ascends ((instance_after columns change).names object) ≡ true
  ascend_after object =
      let names = (instance_of_columns columns).names object in
      let removed = list_at change.removed object in
      let added = list_at change.added.names object in
      let stays = λ (name : ℕ). not (list_any (λ other. other == name) removed) in
      let up = ascends_filter stays names (names_ascend columns object) in
      elim (cases_lt object columns.signature.objects) [
        | inl known ↦ ascends_append (staying removed names) added up (fits.added_ascend object known) (λ x y old new.
            let before = places_are (column_at columns.names object).values 0 x (contained_in_filter stays names x old).0 in
            let behind = All-contains (λ name. (next_of columns object ≤ name) × (name < get_or change.added.next object 0)) added y (fits.added object known) new in
            omega (arith, before.0, behind.0))
        | inr past ↦
            let none : added ≡ [] = get_or_past change.added.names object [] (omega (arith, past, fits.objects.1)) in
            subst (λ (more : List ℕ). ascends (staying removed names ++ more) ≡ true) (sym none) (rw (append-nil (staying removed names)) up)
      ]
