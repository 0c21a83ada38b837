-- The change that answers a gluing reaches the result.
use Rattle.std.proofs.Common.{◌≡◌, ◌∙◌, ◌==◌, ◌<◌, ◌≤◌, ◌+◌, ◌++◌, ◌&&◌, ◌||◌, ℕ, Bool, true, false, not, filter, List, Contains, length, Option, Some, slice_get, slice_index, refl, sym, ap, subst, inl, inr, arith, zero-add, append_assoc, eqb-true}
use Rattle.std.specs.List.{list_any}
use Rattle.std.specs.Option.{option_eq}
use Rattle.std.proofs.lemmas.Bool.{cases_Bool, both_ways, eq-eqb}
use Rattle.std.proofs.lemmas.List.Elements.{Contains-append_left, Contains-append_cases, filter-append}
use Rattle.std.proofs.lemmas.List.FromFn.{length-map-range_with_len, get_or-map-range_with_len}
use Rattle.rw_schema.specs.declared.atom.Atom.{Atom}
use Rattle.rw_schema.specs.declared.signature.ArrowEnds.{ArrowEnds}
use Rattle.rw_schema.specs.declared.signature.AttrEnds.{AttrEnds}
use Rattle.rw_schema.specs.Atoms.{is_same_atom}
use Rattle.rw_schema.specs.RowLists.{list_at}
use Rattle.rw_schema.specs.Signature.{Signature, IsCategory}
use Rattle.rw_spec.specs.Cocone.{Frame}
use Rattle.rw_spec.specs.Instance.{Instance, Has}
use Rattle.rw_spec.specs.Natural.{Map}
use Rattle.rw_spec.specs.Ascending.{ascends}
use Rattle.rw_spec.proofs.Look.{contains_found, found_contained}
use Rattle.rw_spec.proofs.Sequences.{filter_same, contains_filter, contained_in_filter, contained_in_map}
use Rattle.rw_spec.proofs.Ascending.{ascends_append, ascends_filter}
use Rattle.rw_columns.specs.Changes.{staying}
use Rattle.rw_columns.proofs.Walked.{filter_twice}
use Rattle.rw_delta.specs.ContextLists.{is_in}
use Rattle.rw_complement.specs.Named.{is_new, new_parts, new_before}
use Rattle.rw_complement.proofs.Tests.{none_of}
use Rattle.rw_glued.specs.OneGluing.{IsNaturalFrame}
use Rattle.rw_glued.specs.Result.{next_after}
use Rattle.rw_glued.proofs.Counts.{less_more, less_some}
use Rattle.rw_local.specs.inner.ChangeTo.{IsReached, other_values, other_cells}
use Rattle.rw_local.specs.Over.{IsOver}
use Rattle.rw_local.specs.inner.Glued.{added_names, glued_change, goes, removed_names}
use Rattle.rw_local.specs.inner.Local.{AreCells, IsRenaming, is_least, new_names, wanted}
use Rattle.rw_local.proofs.ChangeTo.{cell_itself, cells_are, number_itself, rows_are}
use Rattle.rw_local.proofs.Differences.{differences_kept}
use Rattle.rw_local.proofs.Order.{ascends_map, one_list}
use Rattle.rw_local.proofs.Renamed.{cell_old, value_old, wanted_is_initial}

-- a name of the list is among those that pass where it passes
pub any_filtered : (p : ℕ → Bool) (xs : List ℕ) (x : ℕ) → Contains xs x → list_any (λ other. other == x) (filter p xs) ≡ p x
any_filtered p xs x has =
    elim (cases_Bool (p x)) [
      | inl passes ↦ found_contained (filter p xs) x (contains_filter p xs x has passes) ∙ sym passes
      | inr fails ↦
          none_of (λ other. other == x) (filter p xs)
          (λ y there same.
          let kept = contained_in_filter p xs y there in
          both_ways (p x) fails (subst (λ (z : ℕ). p z ≡ true) (eqb-true y x same) kept.1))
          ∙ sym fails
    ]

-- neither gone nor merged away
neither : (gone least : Bool) → not (gone || not least) ≡ (not gone && least)
neither true true = refl
neither true false = refl
neither false true = refl
neither false false = refl

module _ (C : Signature) (X D : Instance) (gone copies : ℕ → List ℕ) (next next_copied : List ℕ) (over : IsOver C X D gone copies next next_copied) where
  -- names of the context are below the next names after the copies
  pub over_below : (object x : ℕ) → object < C.objects → Has D object x → x < slice_index next_copied object
  over_below object x known has =
      let grown : slice_index next object ≤ slice_index next_copied object = over.copied object known in
      elim (Contains-append_cases (staying (gone object) (X.names object)) (copies object) x (subst (λ (names : List ℕ). Contains names x) (over.names object known) has)) [
        | inl old ↦
            let under : x < slice_index next object = over.host_below object x known (contained_in_filter (λ name. not (list_any (λ other. other == name) (gone object))) (X.names object) x old).0 in
            omega (arith, grown, under)
        | inr copy ↦ (over.copies_past object x known copy).1
      ]

  -- and ascend
  pub over_ascends : (object : ℕ) → object < C.objects → ascends (D.names object) ≡ true
  over_ascends object known =
      subst (λ (names : List ℕ). ascends names ≡ true) (sym (over.names object known))
      (ascends_append (staying (gone object) (X.names object)) (copies object)
      (ascends_filter (λ name. not (list_any (λ other. other == name) (gone object))) (X.names object) (over.host_ascends object known)) (over.copies_ascend object known)
      (λ x y old copy.
      let under : x < slice_index next object = over.host_below object x known (contained_in_filter (λ name. not (list_any (λ other. other == name) (gone object))) (X.names object) x old).0 in
      let past = over.copies_past object y known copy in
      omega (arith, under, past.0)))

module _ (C : Signature) (category : IsCategory C) (F : Frame) (frame : IsNaturalFrame C F)
    (X : Instance) (gone copies : ℕ → List ℕ) (next next_copied : List ℕ) (over : IsOver C X F.left gone copies next next_copied)
    (right_ascends : (object : ℕ) → object < C.objects → ascends (F.right.names object) ≡ true)
    (d s : Map) (renaming : IsRenaming C F next_copied d s)
  where
    below : (object x : ℕ) → object < C.objects → Has F.left object x → x < slice_index next_copied object
    below = over_below C X F.left gone copies next next_copied over

    -- the next names afterwards
    next_is : (object : ℕ) → object < C.objects → slice_index (next_after C F next_copied) object ≡ slice_index next_copied object + length (new_parts F object)
    next_is object known =
        get_or-map-range_with_len (λ object. slice_index next_copied object + length (new_parts F object)) 0 C.objects object object 0 known (zero-add object)

    -- a new name has the next name past those before it
    new_name : (object w : ℕ) → object < C.objects → Contains (new_names F s object) w
        → (y : ℕ) × Contains (new_parts F object) y × (w ≡ slice_index next_copied object + new_before F object y)
    new_name object w known there =
        let found = contained_in_map (s object) (new_parts F object) w there in
        let part = contained_in_filter (is_new F object) (F.right.names object) found.0 found.1 in
        (found.0, found.1, sym found.2 ∙ renaming.named.fresh object found.0 known part.0 part.1)

    -- new names ascend
    new_names_ascend : (object : ℕ) → object < C.objects → ascends (new_names F s object) ≡ true
    new_names_ascend object known =
        ascends_map (s object) (new_parts F object)
        (λ y z has there before.
        let first = contained_in_filter (is_new F object) (F.right.names object) y has in
        let second = contained_in_filter (is_new F object) (F.right.names object) z there in
        let low : s object y ≡ slice_index next_copied object + new_before F object y = renaming.named.fresh object y known first.0 first.1 in
        let high : s object z ≡ slice_index next_copied object + new_before F object z = renaming.named.fresh object z known second.0 second.1 in
        let more : new_before F object y < new_before F object z = less_more (new_parts F object) y z has before in
        omega (arith, low, high, more))
        (ascends_filter (is_new F object) (F.right.names object) (right_ascends object known))

    -- a new name is past the copies, and below the next name afterwards
    new_between : (object w : ℕ) → object < C.objects → Contains (new_names F s object) w
        → (slice_index next_copied object ≤ w) × (w < slice_index (next_after C F next_copied) object)
    new_between object w known there =
        let found = new_name object w known there in
        let is : w ≡ slice_index next_copied object + new_before F object found.0 = found.2 in
        let fewer : new_before F object found.0 < length (new_parts F object) = less_some (new_parts F object) found.0 found.1 in
        let after : slice_index (next_after C F next_copied) object ≡ slice_index next_copied object + length (new_parts F object) = next_is object known in
        (omega (arith, is), omega (arith, is, fewer, after))

    -- the names that stay are those of the context that are not merged away
    stay_is : (object : ℕ) → staying (removed_names X gone d object) (X.names object) ≡ filter (is_least d object) (staying (gone object) (X.names object))
    stay_is object =
        filter_same (λ name. not (list_any (λ other. other == name) (removed_names X gone d object))) (λ name. not (is_in (gone object) name) && is_least d object name) (X.names object)
        (λ x has. ap not (any_filtered (goes gone d object) (X.names object) x has) ∙ neither (is_in (gone object) x) (is_least d object x))
        ∙ sym (filter_twice (λ name. not (is_in (gone object) name)) (is_least d object) (X.names object))

    module _ (cell : ℕ → ℕ → Option Atom) (cells : AreCells C F d s cell) where
      -- the names of the result are those that stay, and those that come
      names_split : (object : ℕ) → object < C.objects
          → (wanted C F d s cell).names object ≡ staying (removed_names X gone d object) (X.names object) ++ added_names F d s copies object
      names_split object known =
          ap (λ (names : List ℕ). filter (is_least d object) names ++ new_names F s object) (over.names object known)
          ∙ ap (λ (names : List ℕ). names ++ new_names F s object) (filter-append (is_least d object) (staying (gone object) (X.names object)) (copies object))
          ∙ append_assoc (filter (is_least d object) (staying (gone object) (X.names object))) (filter (is_least d object) (copies object)) (new_names F s object)
          ∙ ap (λ (names : List ℕ). names ++ added_names F d s copies object) (sym (stay_is object))

      -- the result is reached
      pub glued_reached : IsReached C X (wanted C F d s cell) (removed_names X gone d) (added_names F d s copies) next (next_after C F next_copied)
      glued_reached = record {
        ascends_before = over.host_ascends;
        below_before = over.host_below;
        ascends_removed = λ object known. ascends_filter (goes gone d object) (X.names object) (over.host_ascends object known);
        ascends_added = λ object known.
            ascends_append (filter (is_least d object) (copies object)) (new_names F s object)
            (ascends_filter (is_least d object) (copies object) (over.copies_ascend object known)) (new_names_ascend object known)
            (λ x y copy new.
            let under = over.copies_past object x known (contained_in_filter (is_least d object) (copies object) x copy).0 in
            let past = new_between object y known new in
            omega (arith, under.1, past.0));
        removed_from = λ object x known there. (contained_in_filter (goes gone d object) (X.names object) x there).0;
        added_past = λ object x known there.
            let grown : slice_index next object ≤ slice_index next_copied object = over.copied object known in
            let after : slice_index (next_after C F next_copied) object ≡ slice_index next_copied object + length (new_parts F object) = next_is object known in
            elim (Contains-append_cases (filter (is_least d object) (copies object)) (new_names F s object) x there) [
              | inl copy ↦
                  let past = over.copies_past object x known (contained_in_filter (is_least d object) (copies object) x copy).0 in
                  (past.0, omega (arith, past.1, after))
              | inr new ↦ let past = new_between object x known new in (omega (arith, past.0, grown), past.1)
            ];
        grown = λ object known.
            let grown : slice_index next object ≤ slice_index next_copied object = over.copied object known in
            let after : slice_index (next_after C F next_copied) object ≡ slice_index next_copied object + length (new_parts F object) = next_is object known in
            omega (arith, grown, after);
        counted = length-map-range_with_len (λ object. slice_index next_copied object + length (new_parts F object)) 0 C.objects;
        names = names_split;
        instance = (wanted_is_initial C category F frame next_copied below d s renaming cell cells).cocone.instance;
      }

      -- the names of the result ascend
      pub wanted_ascends : (object : ℕ) → object < C.objects → ascends ((wanted C F d s cell).names object) ≡ true
      wanted_ascends object known =
          ascends_append (filter (is_least d object) (F.left.names object)) (new_names F s object)
          (ascends_filter (is_least d object) (F.left.names object) (over_ascends C X F.left gone copies next next_copied over object known)) (new_names_ascend object known)
          (λ x y old new.
          let under : x < slice_index next_copied object = below object x known (contained_in_filter (is_least d object) (F.left.names object) x old).0 in
          let past = new_between object y known new in
          omega (arith, under, past.0))

      -- and are below the next names afterwards
      pub wanted_below : (object x : ℕ) → object < C.objects → Has (wanted C F d s cell) object x → x < slice_index (next_after C F next_copied) object
      wanted_below object x known has =
          elim (Contains-append_cases (filter (is_least d object) (F.left.names object)) (new_names F s object) x has) [
            | inl old ↦
                let under : x < slice_index next_copied object = below object x known (contained_in_filter (is_least d object) (F.left.names object) x old).0 in
                let after : slice_index (next_after C F next_copied) object ≡ slice_index next_copied object + length (new_parts F object) = next_is object known in
                omega (arith, under, after)
            | inr new ↦ (new_between object x known new).1
          ]

      -- a name that stays is one of the context
      stays_left : (object x : ℕ) → object < C.objects → Contains (staying (removed_names X gone d object) (X.names object)) x → Has F.left object x
      stays_left object x known there =
          let in_stay = subst (λ (names : List ℕ). Contains names x) (stay_is object) there in
          subst (λ (names : List ℕ). Contains names x) (sym (over.names object known))
          (Contains-append_left (staying (gone object) (X.names object)) (copies object) x (contained_in_filter (is_least d object) (staying (gone object) (X.names object)) x in_stay).0)

      -- names among those that stay are those of them that are in the list
      kept_is : (object : ℕ) (some : List ℕ) → object < C.objects → ascends some ≡ true
          → ((x : ℕ) → Contains some x → Contains (staying (removed_names X gone d object) (X.names object)) x)
          → filter (is_in some) (staying (removed_names X gone d object) (X.names object)) ≡ some
      kept_is object some known up within =
          let names : List ℕ = staying (removed_names X gone d object) (X.names object) in
          one_list (filter (is_in some) names) some
          (ascends_filter (is_in some) names (ascends_filter (λ name. not (list_any (λ other. other == name) (removed_names X gone d object))) (X.names object) (over.host_ascends object known))) up
          (λ x there. contains_found some x (contained_in_filter (is_in some) names x there).1)
          (λ x there. contains_filter (is_in some) names x (within x there) (found_contained some x there))

      -- rows are sought among some names alone: those that the context changed, and those that lead to names that are merged away
      pub rows_local : (a : ℕ) (ends : ArrowEnds) (some : List ℕ) → slice_get C.arrows a ≡ Some ends → ascends some ≡ true
          → ((x : ℕ) → Contains some x → Contains (staying (removed_names X gone d ends.source.0) (X.names ends.source.0)) x)
          → ((x : ℕ) → Contains (staying (removed_names X gone d ends.source.0) (X.names ends.source.0)) x → is_in some x ≡ false
          → (F.left.value a x ≡ X.value a x) × (d ends.target.0 (F.left.value a x) ≡ F.left.value a x))
          → list_at (glued_change C X F d s cell gone copies next_copied).rows a ≡ other_values (X.value a) ((wanted C F d s cell).value a) some
      rows_local a ends some there up within others =
          let H : Instance = wanted C F d s cell in
          let names : List ℕ = staying (removed_names X gone d ends.source.0) (X.names ends.source.0) in
          let known : ends.source.0 < C.objects = category.sources a ends there in
          rows_are C category X H (removed_names X gone d) (added_names F d s copies) next (next_after C F next_copied) glued_reached a ends there
          ∙ differences_kept (λ one other. one == other) number_itself (X.value a) (H.value a) (is_in some) names
          (λ x has other.
          let same = others x has other in
          eq-eqb (X.value a x) (H.value a x)
          (sym (value_old C category F frame next_copied below d s renaming cell a ends x there (stays_left ends.source.0 x known has) ∙ same.1 ∙ same.0)))
          ∙ ap (other_values (X.value a) (H.value a)) (kept_is ends.source.0 some known up within)

      -- and cells among those that the context blanked, and the touched names
      pub cells_local : (c : ℕ) (ends : AttrEnds) (some : List ℕ) → slice_get C.attributes c ≡ Some ends → ascends some ≡ true
          → ((x : ℕ) → Contains some x → Contains (staying (removed_names X gone d ends.object.0) (X.names ends.object.0)) x)
          → ((x : ℕ) → Contains (staying (removed_names X gone d ends.object.0) (X.names ends.object.0)) x → is_in some x ≡ false → cell c x ≡ X.cell c x)
          → list_at (glued_change C X F d s cell gone copies next_copied).cells c ≡ other_cells (X.cell c) ((wanted C F d s cell).cell c) some
      cells_local c ends some there up within others =
          let H : Instance = wanted C F d s cell in
          let names : List ℕ = staying (removed_names X gone d ends.object.0) (X.names ends.object.0) in
          let known : ends.object.0 < C.objects = category.holders c ends there in
          cells_are C category X H (removed_names X gone d) (added_names F d s copies) next (next_after C F next_copied) glued_reached c ends there
          ∙ differences_kept (option_eq is_same_atom) cell_itself (X.cell c) (H.cell c) (is_in some) names
          (λ x has other.
          let same : H.cell c x ≡ X.cell c x =
          cell_old C category F frame next_copied below d s renaming cell c ends x there (stays_left ends.object.0 x known has) ∙ others x has other in
          ap (option_eq is_same_atom (X.cell c x)) same ∙ cell_itself (X.cell c x))
          ∙ ap (other_cells (X.cell c) (H.cell c)) (kept_is ends.object.0 some known up within)

    -- the removed names are sought among the gone and the touched alone
    pub removed_local : (object : ℕ) (some : List ℕ) → object < C.objects → ascends some ≡ true
        → ((x : ℕ) → Contains some x → Has X object x × (goes gone d object x ≡ true))
        → ((x : ℕ) → Has X object x → goes gone d object x ≡ true → Contains some x) → some ≡ removed_names X gone d object
    removed_local object some known up each all =
        one_list some (removed_names X gone d object) up (ascends_filter (goes gone d object) (X.names object) (over.host_ascends object known))
        (λ x there. let has = each x there in contains_filter (goes gone d object) (X.names object) x has.0 has.1)
        (λ x there. let has = contained_in_filter (goes gone d object) (X.names object) x there in all x has.0 has.1)
