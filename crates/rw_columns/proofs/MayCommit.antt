-- Where a change fits columns that have room for it, each column and each list of cells can be changed.
use Rattle.std.proofs.Common.{◌≡◌, ◌≢◌, ◌∙◌, ◌⊎◌, ◌==◌, ℕ, ◌<◌, ◌≤◌, true, not, List, Option, Some, Contains, length, map, get_or, slice_get, slice_index, refl, sym, ap, subst, inl, inr, arith, true≢false}
use Rattle.std.specs.List.{list_any}
use Rattle.std.proofs.lemmas.List.{length-map, get_or_default, get_or-map}
use Rattle.std.proofs.lemmas.List.Elements.{Contains-get_or, Contains-append_left, Contains-append_right, Contains-append_cases}
use Rattle.rw_schema.specs.declared.atom.Atom.{Atom}
use Rattle.rw_schema.specs.declared.signature.ArrowEnds.{ArrowEnds}
use Rattle.rw_schema.specs.declared.signature.AttrEnds.{AttrEnds}
use Rattle.rw_schema.specs.RowLists.{list_at}
use Rattle.rw_spec.specs.Ascending.{ascends}
use Rattle.rw_spec.specs.Instance.{Has, look}
use Rattle.rw_spec.proofs.Ascending.{ascends_distinct}
use Rattle.rw_spec.proofs.Look.{look_at, look_missing, found_contained}
use Rattle.rw_spec.proofs.Sequences.{contained_in_filter}
use Rattle.rw_spec.proofs.Signatures.{source_is, holder_is}
use Rattle.rw_column.specs.Threads.{nothing}
use Rattle.rw_columns.specs.ChangedColumns.{FitsColumns, HasRoom}
use Rattle.rw_columns.specs.Changes.{ChangeLists, AreDifferences, beside, changed, entry_names, entry_values, staying, staying_of}
use Rattle.rw_columns.specs.Columned.{Columned, column_at, instance_of_columns, next_of, IsOverEnds, AreColumns}
use Rattle.rw_columns.specs.inner.Carried.{MayChangeAllNames, MayChangeAllArrows, MayRenewAll, AreAllRenewed, MayWriteAll}
use Rattle.rw_columns.specs.inner.Written.{number_at, MayChangeArrow, MayChangeNames}
use Rattle.rw_columns.proofs.Columned.{places_are, there_at}

-- the number 0, beside each name
abbrev zero_of : ℕ → ℕ
zero_of name = 0

-- a name that stays is there, and does not go
pub stays : (removed names : List ℕ) (x : ℕ) → Contains (staying removed names) x → Contains names x × (Contains removed x → ⊥)
stays removed names x stay =
    let parts = contained_in_filter (λ name. not (list_any (λ other. other == name) removed)) names x stay in
    (parts.0, λ goes. true≢false (sym parts.1 ∙ ap not (found_contained removed x goes)))

-- the entry at a place is found beside the name at the place
pub look_beside : {A : Type 0} (old none : A) (names : List ℕ) (entries : List A) (k : ℕ) → ascends names ≡ true → k < length names → length entries ≡ length names
    → look old names entries (slice_index names k) ≡ get_or entries k none
look_beside old none names entries k up within long =
    look_at old names entries k (ascends_distinct names up) within ∙ get_or_default entries k old none (omega (arith, within, long))

module _ (K : Columned) (change : ChangeLists) (is : AreColumns K) (fits : FitsColumns K change) where
  -- a name of the changed instance is one that stays or one that comes
  pub either : (object x : ℕ) → Has (changed K.signature (instance_of_columns K) change) object x
      → Contains (staying_of (instance_of_columns K) change object) x ⊎ Contains (list_at change.added.names object) x
  either object x has = Contains-append_cases (staying_of (instance_of_columns K) change object) (list_at change.added.names object) x has

  -- a name that is there is below the next name, and has the number 0
  pub live : (object x : ℕ) → Has (instance_of_columns K) object x → (x < next_of K object) × (number_at (column_at K.names object) x ≡ 0)
  live object x has =
      let values = (column_at K.names object).values in
      let at = places_are values 0 x has in
      (at.0, get_or_default values x nothing 0 at.0 ∙ at.1)

  -- a name that comes is at or above the old next name, and below the new one
  pub comes : (object x : ℕ) → object < K.signature.objects → Contains (list_at change.added.names object) x
      → (next_of K object ≤ x) × (x < slice_index change.added.next object)
  comes object x known (k, within, there) =
      subst (λ (y : ℕ). (next_of K object ≤ y) × (y < slice_index change.added.next object)) (get_or_default (list_at change.added.names object) k 0 x within ∙ there)
      (fits.added object known k 0 within)

  -- a name that stays does not come
  pub stays_old : (object x : ℕ) → object < K.signature.objects → Contains (staying_of (instance_of_columns K) change object) x
      → Contains (list_at change.added.names object) x → ⊥
  stays_old object x known stay come =
      let below = (live object x (stays (list_at change.removed object) ((instance_of_columns K).names object) x stay).0).0 in
      let above = (comes object x known come).0 in
      omega (arith, below, above)

  -- each name of the changed instance is below the new next name
  pub below_next : (object x : ℕ) → object < K.signature.objects → Has (changed K.signature (instance_of_columns K) change) object x
      → x < slice_index change.added.next object
  below_next object x known has =
      elim (either object x has) [
        | inl stay ↦
            let below = (live object x (stays (list_at change.removed object) ((instance_of_columns K).names object) x stay).0).0 in
            omega (arith, below, fits.next_grows object known)
        | inr come ↦ (comes object x known come).1
      ]

  -- where an arrow leads in the changed instance, by the arrow's ends
  pub value_changed : (a : ℕ) (ends : ArrowEnds) (x : ℕ) → slice_get K.signature.arrows a ≡ Some ends
      → (changed K.signature (instance_of_columns K) change).value a x
      ≡ look (beside ((instance_of_columns K).value a x) (list_at change.rows a) x) (list_at change.added.names ends.source.0) (list_at change.added.arrows a) x
  value_changed a ends x there =
      ap (λ (source : ℕ). look (beside ((instance_of_columns K).value a x) (list_at change.rows a) x) (list_at change.added.names source) (list_at change.added.arrows a) x)
      (source_is K.signature a ends there)

  -- a cell of the changed instance, by the attribute's object
  pub cell_changed : (c : ℕ) (ends : AttrEnds) (x : ℕ) → slice_get K.signature.attributes c ≡ Some ends
      → (changed K.signature (instance_of_columns K) change).cell c x
      ≡ look (beside ((instance_of_columns K).cell c x) (list_at change.cells c) x) (list_at change.added.names ends.object.0) (list_at change.added.cells c) x
  cell_changed c ends x there =
      ap (λ (holder : ℕ). look (beside ((instance_of_columns K).cell c x) (list_at change.cells c) x) (list_at change.added.names holder) (list_at change.added.cells c) x)
      (holder_is K.signature c ends there)

  module _ (room : HasRoom K change) where
    -- the columns of the names
    names_each : (object : ℕ) → object < K.signature.objects
        → MayChangeNames (list_at change.removed object) (list_at change.added.names object) (slice_index change.added.next object) (column_at K.names object)
    names_each object known =
        let added = list_at change.added.names object in
        let zeros : List ℕ = map zero_of added in
        let one = is.targets object known in
        record {
          fits = record {
            room = room.names object known;
            grows = fits.next_grows object known;
            widens = omega (arith, one);
            removed_ascend = fits.removed_ascend object known;
            removed_there = λ k within none.
                let zero_there = (live object (slice_index (list_at change.removed object) k) (fits.removed object known k 0 within)).1 in
                omega (arith, sym zero_there ∙ none);
            rows_ascend = refl;
            rows_there = λ k within. absurd (omega (arith, within));
            rows_stay = λ j k there within. absurd (omega (arith, within));
            rows_within = λ k within. absurd (omega (arith, within));
            added_ascend = fits.added_ascend object known;
            added_new = λ k within. (fits.added object known k 0 within).0;
            added_below = λ k within. (fits.added object known k 0 within).1;
            beside = length-map added zero_of;
            images_within = λ k within.
                let zero_is : slice_index zeros k ≡ 0 = get_or-map zero_of added k 0 0 (omega (arith, within, length-map added zero_of)) in
                omega (arith, zero_is);
          };
          alone = one;
        }

    pub may_names : MayChangeAllNames change.removed change.added.names change.added.next K.names
    may_names = record {
      removed_count = fits.objects.0 ∙ sym is.objects;
      added_count = fits.objects.1 ∙ sym is.objects;
      next_count = fits.objects.2 ∙ sym is.objects;
      each = λ object known. names_each object (omega (arith, known, is.objects));
    }

    -- the columns of the arrows
    arrows_each : (a : ℕ) (ends : ArrowEnds) → slice_get K.signature.arrows a ≡ Some ends
        → MayChangeArrow (list_at change.removed ends.source.0) (list_at change.rows a) (list_at change.added.names ends.source.0) (list_at change.added.arrows a)
        (slice_index change.added.next ends.source.0) (slice_index change.added.next ends.target.0) (column_at K.arrows a)
    arrows_each a ends there =
        let X = instance_of_columns K in
        let source : ℕ = ends.source.0 in
        let target : ℕ = ends.target.0 in
        let column = column_at K.arrows a in
        let over : IsOverEnds K a ends = is.ends a ends there in
        let known = is.category.sources a ends there in
        let target_known = is.category.targets a ends there in
        let rows = list_at change.rows a in
        let added = list_at change.added.names source in
        let images = list_at change.added.arrows a in
        let differ : AreDifferences (staying_of X change source) (X.value a) rows = fits.rows a ends there in
        let count : length (entry_names rows) ≡ length rows = length-map rows (λ entry. entry.0) in
        let long : length (entry_values rows) ≡ length (entry_names rows) = length-map rows (λ entry. entry.1) ∙ sym count in
        let beside_added = fits.added_rows a ends there in
        let has_number : (x : ℕ) → Has X source x → number_at column x ≢ nothing = λ x has none.
        let at = places_are (column_at K.names source).values 0 x has in
        let within : x < length column.values = omega (arith, at.0, over.long) in
        (over.given x within).0 at.1 (get_or_default column.values x 0 nothing within ∙ none) in
        let staying_there : (k : ℕ) → k < length rows → Contains (staying_of X change source) (slice_index (entry_names rows) k) = λ k within.
        differ.among k 0 (omega (arith, within, count)) in
        let leads_below : (x : ℕ) → Has (changed K.signature X change) source x → (changed K.signature X change).value a x < slice_index change.added.next target = λ x has.
        below_next target ((changed K.signature X change).value a x) target_known (fits.gives.values a ends x there has) in
        record {
          fits = record {
            room = (room.arrows a ends there).0;
            grows = omega (arith, over.long, fits.next_grows source known);
            widens = omega (arith, over.wide, fits.next_grows target target_known);
            removed_ascend = fits.removed_ascend source known;
            removed_there = λ k within. has_number (slice_index (list_at change.removed source) k) (fits.removed source known k 0 within);
            rows_ascend = differ.ascend;
            rows_there = λ k within. has_number (slice_index (entry_names rows) k)
                (stays (list_at change.removed source) (X.names source) (slice_index (entry_names rows) k) (staying_there k within)).0;
            rows_stay = λ j k goes within same.
                (stays (list_at change.removed source) (X.names source) (slice_index (entry_names rows) k) (staying_there k within)).1
                (subst (Contains (list_at change.removed source)) same (Contains-get_or (list_at change.removed source) j 0 goes));
            rows_within = λ k within.
                let x = slice_index (entry_names rows) k in
                let stay = staying_there k within in
                let leads = value_changed a ends x there
                ∙ look_missing (beside (X.value a x) rows x) added images x (stays_old source x known stay)
                ∙ look_beside (X.value a x) 0 (entry_names rows) (entry_values rows) k differ.ascend (omega (arith, within, count)) long in
                let below = leads_below x (Contains-append_left (staying_of X change source) added x stay) in
                omega (arith, leads, below);
            added_ascend = fits.added_ascend source known;
            added_new = λ k within. let bounds = fits.added source known k 0 within in omega (arith, bounds.0, over.long);
            added_below = λ k within. (fits.added source known k 0 within).1;
            beside = beside_added;
            images_within = λ k within.
                let place : k < length added = omega (arith, within, beside_added) in
                let x = slice_index added k in
                let come : Contains added x = Contains-get_or added k 0 place in
                let leads = value_changed a ends x there
                ∙ look_beside (beside (X.value a x) rows x) 0 added images k (fits.added_ascend source known) place beside_added in
                let below = leads_below x (Contains-append_right (staying_of X change source) added x come) in
                omega (arith, leads, below);
          };
          target_room = (room.arrows a ends there).1;
        }

    pub may_arrows : MayChangeAllArrows K.signature.arrows change.removed change.rows change.added.names change.added.arrows change.added.next K.arrows
    may_arrows = record {
      ends_count = sym is.arrow_count;
      rows_count = fits.arrows.0 ∙ sym is.arrow_count;
      images_count = fits.arrows.1 ∙ sym is.arrow_count;
      sources = λ a ends there.
          let known = is.category.sources a ends there in
          (omega (arith, known, fits.objects.0), omega (arith, known, fits.objects.1), omega (arith, known, fits.objects.2));
      targets = λ a ends there. let known = is.category.targets a ends there in omega (arith, known, fits.objects.2);
      each = arrows_each;
    }

    -- the cells of the attributes
    pub may_renew : MayRenewAll K.signature.attributes change.removed change.added.names change.added.cells change.added.next K.cell_rooms K.cells
    may_renew = record {
      ends_count = sym is.attribute_count;
      cells_count = fits.attributes.1 ∙ sym is.attribute_count;
      objects = λ c ends there.
          let known = is.category.holders c ends there in
          (omega (arith, known, fits.objects.0), omega (arith, known, fits.objects.1), omega (arith, known, fits.objects.2));
      each = λ c ends there.
          let object : ℕ = ends.object.0 in
          let known = is.category.holders c ends there in
          let long = is.cells_long c ends there in
          record {
            grows = omega (arith, long, fits.next_grows object known);
            removed_ascend = fits.removed_ascend object known;
            removed_there = λ k within.
                let below = (live object (slice_index (list_at change.removed object) k) (fits.removed object known k 0 within)).0 in omega (arith, below, long);
            added_ascend = fits.added_ascend object known;
            added_below = λ k within. (fits.added object known k 0 within).1;
            beside = fits.added_cells c ends there;
          };
      room = room.cells;
    }

  -- the entries of the attributes, once the cells are renewed
  pub may_write : (mid : List (List (Option Atom)))
      → AreAllRenewed K.signature.attributes change.removed change.added.names change.added.cells change.added.next K.cells mid → MayWriteAll change.cells mid
  may_write mid renewed = record {
    count = fits.attributes.0 ∙ sym is.attribute_count ∙ sym renewed.count;
    each = λ c within.
        let over = there_at K.signature.attributes c (omega (arith, within, renewed.count, is.attribute_count)) in
        let object : ℕ = over.0.object.0 in
        let known = is.category.holders c over.0 over.1 in
        let entries = list_at change.cells c in
        let differ = fits.cells c over.0 over.1 in
        let long = (renewed.each c over.0 over.1).long in
        record {
          ascend = differ.ascend;
          within = λ k entry_within.
              let x = slice_index (entry_names entries) k in
              let stay = differ.among k 0 (omega (arith, entry_within, length-map entries (λ entry. entry.0))) in
              let below = (live object x (stays (list_at change.removed object) ((instance_of_columns K).names object) x stay).0).0 in
              omega (arith, below, long, fits.next_grows object known);
        };
  }
