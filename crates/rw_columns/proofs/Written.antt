-- Names that are written one after the other.
use Rattle.std.proofs.Common.{◌≡◌, ◌≢◌, ◌∙◌, ℕ, ◌+◌, ◌<◌, ◌≤◌, ◌++◌, true, List, [], ◌∷◌, None, Option, length, get_or, set, slice_index, slice_set, sym, ap, subst, inl, inr, arith}
use Rattle.std.proofs.lemmas.Bool.{cases_eq, cases_lt}
use Rattle.std.proofs.Math.Seq.{get_or-append_seam}
use Rattle.std.proofs.lemmas.List.{length-set, set-set, length-append, get_or_append_left, get_or-map, get_or_default, get_or_past, get_or-set_same, get_or-set_other}
use Rattle.rw_schema.specs.declared.atom.Atom.{Atom}
use Rattle.rw_spec.specs.Ascending.{ascends}
use Rattle.rw_spec.specs.Distinct.{AreDistinct}
use Rattle.rw_spec.proofs.Ascending.{ascends_distinct}
use Rattle.rw_column.specs.Threads.{Threaded, nothing}
use Rattle.rw_columns.specs.Changes.{entry_names, entry_values}
use Rattle.rw_columns.specs.inner.Written.{number_at, cell_at, IsWritten, IsColumnWritten, AreCellsWritten, AreDone, IsFront}

-- a place that has a number is one of the places
pub place_there : (column : Threaded) (x : ℕ) → number_at column x ≢ nothing → x < length column.values
place_there column x some =
    elim (cases_lt x (length column.values)) [
      | inl within ↦ within
      | inr past ↦ absurd (some (get_or_past column.values x nothing past))
    ]

-- at a place, what the default is does not matter
pub number_is : (column : Threaded) (x : ℕ) → x < length column.values → slice_index column.values x ≡ number_at column x
number_is column x within = get_or_default column.values x 0 nothing within

-- one name more is done
pub written_more : {A : Type 0} (Done More : ℕ → Type 0) (names : List ℕ) (entry : ℕ → A) (place : ℕ) (old mid new : ℕ → A)
    → ((k : ℕ) → More k → slice_index names k ≡ slice_index names place → k ≡ place) → ((k : ℕ) → More k → k ≢ place → Done k)
    → ((k : ℕ) → Done k → More k) → More place
    → IsWritten Done names entry old mid → new (slice_index names place) ≡ entry place → ((x : ℕ) → x ≢ slice_index names place → new x ≡ mid x)
    → IsWritten More names entry old new
written_more Done More names entry place old mid new once others weaker more written here apart = record {
  beside = λ k is_more. elim (cases_eq k place) [
    | inl same ↦ subst (λ (j : ℕ). new (slice_index names j) ≡ entry j) (sym same) here
    | inr other ↦ apart (slice_index names k) (λ same. other (once k is_more same)) ∙ written.beside k (others k is_more other)
  ];
  elsewhere = λ x none. apart x (λ same. none place more (sym same)) ∙ written.elsewhere x (λ k done. none k (weaker k done));
}

-- a name that is not done yet has what it had
pub still : {A : Type 0} (names : List ℕ) (entry : ℕ → A) (count : ℕ) (old new : ℕ → A) → AreDistinct names → count < length names
    → IsWritten (λ k. k < count) names entry old new → new (slice_index names count) ≡ old (slice_index names count)
still names entry count old new distinct within written =
    written.elsewhere (slice_index names count)
    (λ k before same. let equal : k ≡ count = distinct k count (omega arith) within same in omega (arith, equal, before))

-- one name more is done, in a column
pub column_more : (names : List ℕ) (entry : ℕ → ℕ) (count : ℕ) (old mid new : Threaded) → AreDistinct names → count < length names
    → slice_index names count < length mid.values
    → new ≡ record { values = slice_set mid.values (slice_index names count) (entry count); targets = mid.targets; room = mid.room; target_room = mid.target_room }
    → IsColumnWritten (λ k. k < count) names entry old mid → IsColumnWritten (λ k. k < count + 1) names entry old new
column_more names entry count old mid new distinct within place set_is is =
    let name = slice_index names count in
    rw set_is (record {
      long = length-set mid.values name (entry count) ∙ is.long;
      wide = is.wide;
      written = written_more (λ k. k < count) (λ k. k < count + 1) names entry count (number_at old) (number_at mid)
          (λ x. get_or (set mid.values name (entry count)) x nothing)
          (λ k more same. distinct k count (omega (arith, more)) within same)
          (λ k more other. elim (cases_lt k count) [ inl before ↦ before | inr last ↦ absurd (other (omega (arith, more, last))) ])
          (λ k before. omega (arith, before)) (omega arith) is.written
          (get_or-set_same mid.values name (entry count) nothing place)
          (λ x other. get_or-set_other mid.values name x (entry count) nothing other);
    })

-- the next name has the number that it had
pub next_is : (names : List ℕ) (entry : ℕ → ℕ) (count : ℕ) (old mid : Threaded) → AreDistinct names → count < length names
    → slice_index names count < length mid.values → IsColumnWritten (λ k. k < count) names entry old mid
    → slice_index mid.values (slice_index names count) ≡ number_at old (slice_index names count)
next_is names entry count old mid distinct within place is =
    number_is mid (slice_index names count) place ∙ still names entry count (number_at old) (number_at mid) distinct within is.written

-- and is one of the places, where it had one
pub next_there : (names : List ℕ) (entry : ℕ → ℕ) (count : ℕ) (old mid : Threaded) → IsColumnWritten (λ k. k < count) names entry old mid
    → number_at old (slice_index names count) ≢ nothing → slice_index names count < length mid.values
next_there names entry count old mid is some = let there = place_there old (slice_index names count) some in omega (arith, there, is.long)

-- one place more is done
pub done_more : {A : Type 0} (Changed : ℕ → A → A → Type 0) (Done More : ℕ → Type 0) (place : ℕ) (old mid new : ℕ → A)
    → ((k : ℕ) → More k → k ≢ place → Done k) → ((k : ℕ) → Done k → More k) → (Done place → ⊥) → More place
    → AreDone Changed Done old mid → Changed place (mid place) (new place) → ((k : ℕ) → k ≢ place → new k ≡ mid k) → AreDone Changed More old new
done_more {A} Changed Done More place old mid new others weaker before more are here apart = record {
  done = λ k is_more. elim (cases_eq k place) [
    | inl same ↦ subst (λ (j : ℕ). Changed j (old j) (new j)) (sym same) (subst (λ (item : A). Changed place item (new place)) (are.rest place before) here)
    | inr other ↦ subst (Changed k (old k)) (sym (apart k other)) (are.done k (others k is_more other))
  ];
  rest = λ k not_more. apart k (λ same. not_more (subst More (sym same) more)) ∙ are.rest k (λ is_done. not_more (weaker k is_done));
}

-- the next place is done
pub done_next : {A : Type 0} (Changed : ℕ → A → A → Type 0) (place : ℕ) (old mid new : ℕ → A) → AreDone Changed (λ k. k < place) old mid
    → Changed place (mid place) (new place) → ((k : ℕ) → k ≢ place → new k ≡ mid k) → AreDone Changed (λ k. k < place + 1) old new
done_next Changed place old mid new are here apart =
    done_more Changed (λ k. k < place) (λ k. k < place + 1) place old mid new
    (λ k more other. elim (cases_lt k place) [ inl before ↦ before | inr last ↦ absurd (other (omega (arith, more, last))) ])
    (λ k before. omega (arith, before)) (λ before. omega (arith, before)) (omega arith) are here apart

-- one name more is done, in cells
pub cells_more : (Done More : ℕ → Type 0) (names : List ℕ) (entry : ℕ → Option Atom) (place : ℕ) (old mid new : List (Option Atom))
    → ascends names ≡ true → ((k : ℕ) → More k → k < length names) → ((k : ℕ) → More k → k ≢ place → Done k) → ((k : ℕ) → Done k → More k) → More place
    → slice_index names place < length mid → new ≡ slice_set mid (slice_index names place) (entry place)
    → AreCellsWritten Done names entry old mid → AreCellsWritten More names entry old new
cells_more Done More names entry place old mid new up bounded others weaker more there set_is is =
    let name = slice_index names place in
    rw set_is (record {
      long = length-set mid name (entry place) ∙ is.long;
      written = written_more Done More names entry place (cell_at old) (cell_at mid) (λ x. get_or (set mid name (entry place)) x None)
          (λ k is_more same. ascends_distinct names up k place (bounded k is_more) (bounded place more) same) others weaker more is.written
          (get_or-set_same mid name (entry place) None there) (λ x other. get_or-set_other mid name x (entry place) None other);
    })

-- the last item is taken from the front
pub front_less : {A : Type 0} (front mid all : List A) (item : A) → mid ≡ front ++ item ∷ [] → IsFront mid all → IsFront front all
front_less {A} front mid all item split is =
    let long : length mid ≡ length front + 1 = ap length split ∙ length-append front (item ∷ []) in
    record {
      count = omega (arith, is.count, long);
      same = λ k none within.
          sym (get_or_append_left front (item ∷ []) none k within) ∙ sym (ap (λ (list : List A). get_or list k none) split)
          ∙ is.same k none (omega (arith, within, long));
    }

-- and is the item of the list at its place
pub front_last : {A : Type 0} (front mid all : List A) (item none : A) → mid ≡ front ++ item ∷ [] → IsFront mid all → item ≡ get_or all (length front) none
front_last {A} front mid all item none split is =
    let long : length mid ≡ length front + 1 = ap length split ∙ length-append front (item ∷ []) in
    let seam : get_or mid (length front) none ≡ item = rw split (get_or-append_seam front item [] none) in
    sym seam ∙ is.same (length front) none (omega (arith, long))

-- and so are the name and the value of an entry
pub entry_last : {A : Type 0} (front mid all : List (ℕ × A)) (name : ℕ) (value none : A) → mid ≡ front ++ (name, value) ∷ [] → IsFront mid all
    → (length front < length all) × (name ≡ slice_index (entry_names all) (length front)) × (value ≡ get_or (entry_values all) (length front) none)
entry_last {A} front mid all name value none split is =
    let entry : ℕ × A = (name, value) in
    let long : length mid ≡ length front + 1 = ap length split ∙ length-append front (entry ∷ []) in
    let within : length front < length all = omega (arith, long, is.count) in
    let last = front_last front mid all entry (0, none) split is in (
      within,
      ap (λ (item : ℕ × A). item.0) last ∙ sym (get_or-map (λ (item : ℕ × A). item.0) all (length front) (0, none) 0 within),
      ap (λ (item : ℕ × A). item.1) last ∙ sym (get_or-map (λ (item : ℕ × A). item.1) all (length front) (0, none) none within),
    )

-- what is done, said otherwise
pub written_same : {A : Type 0} (Done Same : ℕ → Type 0) (names : List ℕ) (entry : ℕ → A) (old new : ℕ → A) → ((k : ℕ) → Same k → Done k) → ((k : ℕ) → Done k → Same k)
    → IsWritten Done names entry old new → IsWritten Same names entry old new
written_same Done Same names entry old new from to written = record {
  beside = λ k same. written.beside k (from k same);
  elsewhere = λ x none. written.elsewhere x (λ k done. none k (to k done));
}

-- the last place that is left is done
pub done_last : {A : Type 0} (Changed : ℕ → A → A → Type 0) (left next place : ℕ) (old mid new : ℕ → A) → left ≡ place + 1 → next ≡ place
    → AreDone Changed (λ k. left ≤ k) old mid → Changed place (mid place) (new place) → ((k : ℕ) → k ≢ place → new k ≡ mid k)
    → AreDone Changed (λ k. next ≤ k) old new
done_last Changed left next place old mid new more here are changes apart =
    done_more Changed (λ k. left ≤ k) (λ k. next ≤ k) place old mid new
    (λ k is_more other. omega (arith, is_more, other, more, here)) (λ k before. omega (arith, before, more, here)) (λ before. omega (arith, before, more)) (omega (arith, here))
    are changes apart

-- the item that is taken from the front, its place, and how many items there were
pub popped : {A : Type 0} (front mid all : List A) (item : A) (place : ℕ) → mid ≡ front ++ item ∷ [] → IsFront mid all → place ≡ length front
    → (place < length all) × (length mid ≡ place + 1) × (item ≡ get_or all place item)
popped front mid all item place split is place_is =
    let long : length mid ≡ length front + 1 = ap length split ∙ length-append front (item ∷ []) in (
      omega (arith, long, is.count, place_is),
      omega (arith, long, place_is),
      front_last front mid all item item split is ∙ ap (λ (n : ℕ). get_or all n item) (sym place_is),
    )

-- what is written twice has what was written last
pub set_twice : (values : List ℕ) (place first last : ℕ) → set (set values place first) place last ≡ set values place last
set_twice values place first last = set-set values place first last
