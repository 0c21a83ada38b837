-- What columns are after a change is carried out on each of them.
use Rattle.std.proofs.Common.{◌≡◌, ◌≢◌, ◌∙◌, ◌↔◌, ◌==◌, ℕ, ◌<◌, true, not, List, [], Option, None, Some, Contains, length, map, slice_get, slice_index, sym, ap, subst, inl, inr, arith}
use Rattle.std.specs.List.{list_any}
use Rattle.std.proofs.lemmas.Bool.{cases_Bool}
use Rattle.std.proofs.lemmas.List.{length-map, get_or_default}
use Rattle.std.proofs.lemmas.List.Elements.{Contains-append_left, Contains-append_right}
use Rattle.std.proofs.lemmas.Option.{slice_get_within}
use Rattle.rw_schema.specs.declared.atom.Atom.{Atom}
use Rattle.rw_schema.specs.declared.signature.ArrowEnds.{ArrowEnds}
use Rattle.rw_schema.specs.declared.signature.AttrEnds.{AttrEnds}
use Rattle.rw_schema.specs.RowLists.{list_at}
use Rattle.rw_schema.specs.Signature.{Signature}
use Rattle.rw_spec.specs.Ascending.{ascends}
use Rattle.rw_spec.specs.Instance.{Instance, Has, look}
use Rattle.rw_spec.specs.Same.{AreSame}
use Rattle.rw_spec.proofs.Look.{look_missing, contains_found}
use Rattle.rw_spec.proofs.Sequences.{contains_filter}
use Rattle.rw_column.specs.Threads.{nothing}
use Rattle.rw_columns.specs.ChangedColumns.{FitsColumns, AreChanged}
use Rattle.rw_columns.specs.Changes.{ChangeLists, beside, changed, entry_names, entry_values, staying, staying_of}
use Rattle.rw_columns.specs.Columned.{Columned, column_at, instance_of_columns, next_of, IsOverEnds, AreColumns}
use Rattle.rw_columns.specs.inner.Carried.{AreAllNamesChanged, AreAllArrowsChanged, AreAllRenewed, AreAllWritten}
use Rattle.rw_columns.specs.inner.Written.{number_at, cell_at, IsChanged}
use Rattle.rw_columns.proofs.Changed.{changed_ascend, names_ascend}
use Rattle.rw_columns.proofs.Columned.{places_are, places_have}
use Rattle.rw_columns.proofs.Kept.{among_or_not}
use Rattle.rw_columns.proofs.MayCommit.{stays, look_beside, either, live, stays_old, below_next, value_changed, cell_changed}
use Rattle.rw_columns.proofs.Replaced.{each_same}
use Rattle.rw_columns.proofs.Same.{same_instance}
use Rattle.rw_columns.proofs.Walked.{same_order}
use Rattle.rw_columns.proofs.Written.{place_there, number_is}

-- a name that is there and does not go stays
pub stays_from : (removed names : List ℕ) (x : ℕ) → Contains names x → (Contains removed x → ⊥) → Contains (staying removed names) x
stays_from removed names x there kept =
    contains_filter (λ name. not (list_any (λ other. other == name) removed)) names x there
    (elim (cases_Bool (list_any (λ other. other == x) removed)) [
      | inl found ↦ absurd (kept (contains_found removed x found))
      | inr missed ↦ ap not missed
    ])

-- what is found beside a name that is there does not depend on the default
look_same : {A : Type 0} (one two : A) (names : List ℕ) (entries : List A) (x : ℕ) → ascends names ≡ true → length entries ≡ length names → Contains names x
    → look one names entries x ≡ look two names entries x
look_same one two names entries x up long (k, within, there) =
    subst (λ (y : ℕ). look one names entries y ≡ look two names entries y) (get_or_default names k 0 x within ∙ there)
    (look_beside one one names entries k up within long ∙ sym (look_beside two one names entries k up within long))

-- beside each name the same is found
look_each : {A : Type 0} (none entry : A) (names : List ℕ) (x : ℕ) → ascends names ≡ true → Contains names x → look none names (map (λ name. entry) names) x ≡ entry
look_each none entry names x up (k, within, there) =
    subst (λ (y : ℕ). look none names (map (λ name. entry) names) y ≡ entry) (get_or_default names k 0 x within ∙ there)
    (look_beside none none names (map (λ name. entry) names) k up within (length-map names (λ name. entry)) ∙ each_same names entry k none within)

-- the same instances, the other way round
same_back : (C : Signature) (X Y : Instance) → ((a : ℕ) (ends : ArrowEnds) → slice_get C.arrows a ≡ Some ends → ends.source.0 < C.objects)
    → ((c : ℕ) (ends : AttrEnds) → slice_get C.attributes c ≡ Some ends → ends.object.0 < C.objects) → AreSame C X Y → AreSame C Y X
same_back C X Y sources holders same = record {
  names = λ object x known. ((same.names object x known).1, (same.names object x known).0);
  values = λ a ends x there has. sym (same.values a ends x there ((same.names ends.source.0 x (sources a ends there)).1 has));
  cells = λ c ends x there has. sym (same.cells c ends x there ((same.names ends.object.0 x (holders c ends there)).1 has));
}

-- what each list is afterwards
pub record IsCommitted (K : Columned) (change : ChangeLists) (new : Columned) : Type 0 where
  pub signature : new.signature ≡ K.signature
  pub names : AreAllNamesChanged change.removed change.added.names change.added.next K.names new.names
  pub arrows : AreAllArrowsChanged K.signature.arrows change.removed change.rows change.added.names change.added.arrows change.added.next K.arrows new.arrows
  pub mid : List (List (Option Atom))
  pub renewed : AreAllRenewed K.signature.attributes change.removed change.added.names change.added.cells change.added.next K.cells mid
  pub written : AreAllWritten change.cells mid new.cells

module _ (K : Columned) (change : ChangeLists) (is : AreColumns K) (fits : FitsColumns K change) (new : Columned) (done : IsCommitted K change new) where
  -- the changed instance, and that of the new columns
  abbrev X' : Instance
  X' = changed K.signature (instance_of_columns K) change

  -- the names of an object: their column, changed
  names_are : (object : ℕ) → object < K.signature.objects
      → IsChanged (list_at change.removed object) [] (list_at change.added.names object) (map (λ name. 0) (list_at change.added.names object))
      (slice_index change.added.next object) 1 (column_at K.names object) (column_at new.names object)
  names_are object known = done.names.each object (omega (arith, known, is.objects))

  -- the number 0 stands at the names of the changed instance
  number_there : (object x : ℕ) → object < K.signature.objects → Has X' object x → number_at (column_at new.names object) x ≡ 0
  number_there object x known has =
      let removed = list_at change.removed object in
      let added = list_at change.added.names object in
      let nothings : List ℕ = map (λ name. nothing) removed in
      let zeros : List ℕ = map (λ name. 0) added in
      let old = number_at (column_at K.names object) x in
      (names_are object known).numbers x ∙ elim (either K change is fits object x has) [
        | inl stay ↦
            let kept = stays removed ((instance_of_columns K).names object) x stay in
            look_missing (look old removed nothings x) added zeros x (stays_old K change is fits object x known stay)
            ∙ look_missing old removed nothings x kept.1 ∙ (live K change is fits object x kept.0).1
        | inr come ↦ look_each (look old removed nothings x) 0 added x (fits.added_ascend object known) come
      ]

  -- and nowhere else
  name_from : (object x : ℕ) → object < K.signature.objects → number_at (column_at new.names object) x ≡ 0 → Has X' object x
  name_from object x known zero_there =
      let removed = list_at change.removed object in
      let added = list_at change.added.names object in
      let nothings : List ℕ = map (λ name. nothing) removed in
      let zeros : List ℕ = map (λ name. 0) added in
      let column = column_at K.names object in
      let old = number_at column x in
      let names = (instance_of_columns K).names object in
      let found = sym ((names_are object known).numbers x) ∙ zero_there in
      elim (among_or_not added x) [
        | inl come ↦ Contains-append_right (staying_of (instance_of_columns K) change object) added x come
        | inr other ↦
            let off : look old removed nothings x ≡ 0 = sym (look_missing (look old removed nothings x) added zeros x other) ∙ found in
            elim (among_or_not removed x) [
              | inl goes ↦
                  let none_there = look_each old nothing removed x (fits.removed_ascend object known) goes in
                  absurd (omega (arith, sym none_there ∙ off))
              | inr kept ↦
                  let is_zero : old ≡ 0 = sym (look_missing old removed nothings x kept) ∙ off in
                  let within = place_there column x (λ none. omega (arith, sym is_zero ∙ none)) in
                  Contains-append_left (staying_of (instance_of_columns K) change object) added x
                  (stays_from removed names x (places_have column.values 0 x within (number_is column x within ∙ is_zero)) kept)
            ]
      ]

  -- each object has a place for each name below its new next name
  next_is : (object : ℕ) → object < K.signature.objects → next_of new object ≡ slice_index change.added.next object
  next_is object known = (names_are object known).long

  -- the names of the new columns are those of the changed instance
  names_same : (object x : ℕ) → object < K.signature.objects → Has (instance_of_columns new) object x ↔ Has X' object x
  names_same object x known =
      let column = column_at new.names object in (
        λ has. let at = places_are column.values 0 x has in name_from object x known (sym (number_is column x at.0) ∙ at.1),
        λ has.
            let within : x < length column.values = omega (arith, below_next K change is fits object x known has, next_is object known) in
            places_have column.values 0 x within (number_is column x within ∙ number_there object x known has),
      )

  -- the column of an arrow, changed
  arrow_is : (a : ℕ) (ends : ArrowEnds) → slice_get K.signature.arrows a ≡ Some ends
      → IsChanged (list_at change.removed ends.source.0) (list_at change.rows a) (list_at change.added.names ends.source.0) (list_at change.added.arrows a)
      (slice_index change.added.next ends.source.0) (slice_index change.added.next ends.target.0) (column_at K.arrows a) (column_at new.arrows a)
  arrow_is a ends there = done.arrows.each a ends there

  -- it has at each name the value of the changed instance
  number_value : (a : ℕ) (ends : ArrowEnds) (x : ℕ) → slice_get K.signature.arrows a ≡ Some ends → Has X' ends.source.0 x
      → number_at (column_at new.arrows a) x ≡ X'.value a x
  number_value a ends x there has =
      let X = instance_of_columns K in
      let source : ℕ = ends.source.0 in
      let known = is.category.sources a ends there in
      let removed = list_at change.removed source in
      let rows = list_at change.rows a in
      let added = list_at change.added.names source in
      let images = list_at change.added.arrows a in
      let nothings : List ℕ = map (λ name. nothing) removed in
      let column = column_at K.arrows a in
      (arrow_is a ends there).numbers x ∙ elim (either K change is fits source x has) [
        | inl stay ↦
            let kept = stays removed (X.names source) x stay in
            let at = places_are (column_at K.names source).values 0 x kept.0 in
            let within : x < length column.values = omega (arith, at.0, (is.ends a ends there).long) in
            ap (λ (n : ℕ). look (beside n rows x) added images x)
            (look_missing (number_at column x) removed nothings x kept.1 ∙ sym (number_is column x within))
        | inr come ↦
            look_same (beside (look (number_at column x) removed nothings x) rows x) (beside (X.value a x) rows x) added images x
            (fits.added_ascend source known) (fits.added_rows a ends there) come
      ] ∙ sym (value_changed K change is fits a ends x there)

  -- so the values are the same
  values_same : (a : ℕ) (ends : ArrowEnds) (x : ℕ) → slice_get K.signature.arrows a ≡ Some ends → Has (instance_of_columns new) ends.source.0 x
      → (instance_of_columns new).value a x ≡ X'.value a x
  values_same a ends x there has =
      let known = is.category.sources a ends there in
      let column = column_at new.arrows a in
      let has_now = (names_same ends.source.0 x known).0 has in
      let within : x < length column.values = omega (arith, below_next K change is fits ends.source.0 x known has_now, (arrow_is a ends there).long) in
      number_is column x within ∙ number_value a ends x there has_now

  -- and so are the cells
  cells_same : (c : ℕ) (ends : AttrEnds) (x : ℕ) → slice_get K.signature.attributes c ≡ Some ends → Has (instance_of_columns new) ends.object.0 x
      → (instance_of_columns new).cell c x ≡ X'.cell c x
  cells_same c ends x there has =
      let X = instance_of_columns K in
      let object : ℕ = ends.object.0 in
      let known = is.category.holders c ends there in
      let removed = list_at change.removed object in
      let added = list_at change.added.names object in
      let atoms = list_at change.added.cells c in
      let entries = list_at change.cells c in
      let nones : List (Option Atom) = map (λ name. None) removed in
      let old = cell_at (list_at K.cells c) x in
      let within : c < length done.mid = omega (arith, slice_get_within K.signature.attributes c ends there, is.attribute_count, done.renewed.count) in
      let has_now = (names_same object x known).0 has in
      (done.written.each c within).cells x
      ∙ ap (λ (cell : Option Atom). beside cell entries x) ((done.renewed.each c ends there).cells x)
      ∙ elim (either K change is fits object x has_now) [
        | inl stay ↦
            let kept = stays removed (X.names object) x stay in
            let other = stays_old K change is fits object x known stay in
            ap (λ (cell : Option Atom). beside cell entries x) (look_missing (look old removed nones x) added atoms x other ∙ look_missing old removed nones x kept.1)
            ∙ sym (look_missing (beside old entries x) added atoms x other)
        | inr come ↦
            let differ = fits.cells c ends there in
            look_missing (look (look old removed nones x) added atoms x) (entry_names entries) (entry_values entries) x
            (λ (k, entry_within, is_there). stays_old K change is fits object x known
            (subst (Contains (staying_of X change object)) (get_or_default (entry_names entries) k 0 x entry_within ∙ is_there) (differ.among k 0 entry_within)) come)
            ∙ look_same (look old removed nones x) (beside (X.cell c x) entries x) added atoms x (fits.added_ascend object known) (fits.added_cells c ends there) come
      ] ∙ sym (cell_changed K change is fits c ends x there)

  -- the instance of the new columns is the changed one
  pub instances_same : AreSame K.signature (instance_of_columns new) X'
  instances_same = record { names = names_same; values = values_same; cells = cells_same }

  -- the column of an arrow has a number exactly at the names of its source
  given_both : (a : ℕ) (ends : ArrowEnds) (x : ℕ) → slice_get K.signature.arrows a ≡ Some ends
      → (number_at (column_at new.names ends.source.0) x ≡ 0) ↔ (number_at (column_at new.arrows a) x ≢ nothing)
  given_both a ends x there =
      let X = instance_of_columns K in
      let source : ℕ = ends.source.0 in
      let known = is.category.sources a ends there in
      let target_known = is.category.targets a ends there in
      let removed = list_at change.removed source in
      let rows = list_at change.rows a in
      let added = list_at change.added.names source in
      let images = list_at change.added.arrows a in
      let nothings : List ℕ = map (λ name. nothing) removed in
      let column = column_at K.arrows a in
      let old = number_at column x in
      let off = look old removed nothings x in
      let over : IsOverEnds K a ends = is.ends a ends there in (
        λ is_name is_none.
            let has = name_from source x known is_name in
            let below = below_next K change is fits ends.target.0 (X'.value a x) target_known (fits.gives.values a ends x there has) in
            omega (arith, below, sym (number_value a ends x there has) ∙ is_none, (arrow_is a ends there).few),
        λ given. number_there source x known (elim (among_or_not added x) [
          | inl come ↦ Contains-append_right (staying_of X change source) added x come
          | inr other ↦ Contains-append_left (staying_of X change source) added x (elim (among_or_not (entry_names rows) x) [
            | inl (k, within, is_there) ↦
                subst (Contains (staying_of X change source)) (get_or_default (entry_names rows) k 0 x within ∙ is_there) ((fits.rows a ends there).among k 0 within)
            | inr unwritten ↦
                let now : number_at (column_at new.arrows a) x ≡ off =
                (arrow_is a ends there).numbers x ∙ look_missing (beside off rows x) added images x other
                ∙ look_missing off (entry_names rows) (entry_values rows) x unwritten in
                elim (among_or_not removed x) [
                  | inl goes ↦ absurd (given (now ∙ look_each old nothing removed x (fits.removed_ascend source known) goes))
                  | inr kept ↦
                      let some : old ≢ nothing = λ none. given (now ∙ look_missing old removed nothings x kept ∙ none) in
                      let within = place_there column x some in
                      let zero_there = (over.given x within).1 (λ none. some (sym (number_is column x within) ∙ none)) in
                      stays_from removed (X.names source) x
                      (places_have (column_at K.names source).values 0 x (omega (arith, within, over.long)) zero_there) kept
                ]
          ])
        ]),
      )

  -- the new ones are columns
  pub columns_committed : AreColumns new
  columns_committed =
      let same = instances_same in
      let over_old : AreColumns (record new { signature = K.signature }) = record {
        category = is.category;
        objects = done.names.count ∙ is.objects;
        arrow_count = done.arrows.count ∙ is.arrow_count;
        attribute_count = done.written.count ∙ done.renewed.count ∙ is.attribute_count;
        targets = λ object known. (names_are object known).wide;
        ends = λ a ends there.
            let known = is.category.sources a ends there in
            let target_known = is.category.targets a ends there in
            let column = arrow_is a ends there in
            record {
              long = column.long ∙ sym (next_is ends.source.0 known);
              few = omega (arith, column.wide, column.few);
              wide = column.wide ∙ sym (next_is ends.target.0 target_known);
              given = λ x within.
                  let name_within : x < length (column_at new.names ends.source.0).values = omega (arith, within, column.long, next_is ends.source.0 known) in
                  let both = given_both a ends x there in
                  let number = number_is (column_at new.arrows a) x within in
                  let name = number_is (column_at new.names ends.source.0) x name_within in
                  (λ is_name is_none. both.0 (sym name ∙ is_name) (sym number ∙ is_none), λ given. name ∙ both.1 (λ none. given (number ∙ none)));
            };
        cells_long = λ c ends there.
            let within : c < length done.mid = omega (arith, slice_get_within K.signature.attributes c ends there, is.attribute_count, done.renewed.count) in
            (done.written.each c within).long ∙ (done.renewed.each c ends there).long ∙ sym (next_is ends.object.0 (is.category.holders c ends there));
        sound = same_instance K.signature X' (instance_of_columns new) is.category
            (same_back K.signature (instance_of_columns new) X' is.category.sources is.category.holders same) fits.gives;
      } in
      subst (λ (C : Signature). AreColumns (record new { signature = C })) (sym done.signature) over_old

  -- the names are the same, in one order
  names_are_same : (object : ℕ) → object < K.signature.objects → (instance_of_columns new).names object ≡ X'.names object
  names_are_same object known =
      same_order ((instance_of_columns new).names object) (X'.names object) (names_ascend new object) (changed_ascend K change object fits known)
      (λ x. (names_same object x known).0) (λ x. (names_same object x known).1)

  pub are_changed : AreChanged K change new
  are_changed = record { signature = done.signature; instance = instances_same; names = names_are_same; next = next_is }
