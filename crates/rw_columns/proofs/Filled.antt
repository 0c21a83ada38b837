-- Places that are filled one after the other.
use Rattle.std.proofs.Common.{◌≡◌, ◌≢◌, ◌∙◌, ℕ, ◌+◌, refl, Option, None, slice_set, ◌<◌, true, nat_lt, List, [], ◌∷◌, ◌++◌, length, get_or, set, slice_index, sym, ap, subst, inl, inr, arith}
use Rattle.std.specs.List.{list_all}
use Rattle.std.proofs.lemmas.Bool.{and_parts, ltb-true, cases_lt}
use Rattle.std.proofs.lemmas.List.{length-set, get_or-set_same, get_or-set_other, get_or_append_left, length-append}
use Rattle.std.proofs.Math.Seq.{get_or-append_seam}
use Rattle.std.proofs.lemmas.List.Elements.{Contains-get_or}
use Rattle.rw_schema.specs.declared.atom.Atom.{Atom}
use Rattle.rw_spec.specs.Ascending.{ascends}
use Rattle.rw_spec.proofs.Ascending.{ascends_apart}
use Rattle.rw_spec.proofs.Sequences.{list_all_contained}
use Rattle.rw_table.specs.TableFaults.{are_names}
use Rattle.rw_column.specs.Threads.{Threaded, nothing}
use Rattle.rw_columns.specs.inner.Filled.{IsFilled, IsFilledTo, AreFilledTo, AreAll}

-- names ascend
pub names_up : (bound : ℕ) (names : List ℕ) → are_names bound names ≡ true → ascends names ≡ true
names_up bound names are = (and_parts (ascends names) (list_all (λ name. nat_lt name bound) names) are).0

-- and are below the next name
pub name_below : (bound : ℕ) (names : List ℕ) (k : ℕ) → are_names bound names ≡ true → k < length names → slice_index names k < bound
name_below bound names k are within =
    ltb-true (get_or names k 0) bound
    (list_all_contained (λ name. nat_lt name bound) names (get_or names k 0)
    (and_parts (ascends names) (list_all (λ name. nat_lt name bound) names) are).1 (Contains-get_or names k 0 within))

-- an earlier name is another
earlier_other : (names : List ℕ) (j k : ℕ) → ascends names ≡ true → j < k → k < length names → slice_index names j ≢ slice_index names k
earlier_other names j k up before within same = let less = ascends_apart names j k up before within in omega (arith, less, same)

-- the place of the next name has none yet
pub next_free : {A : Type 0} (none : A) (names : List ℕ) (entry : ℕ → A) (count bound : ℕ) (value : ℕ → A)
    → are_names bound names ≡ true → count < length names → IsFilled none names entry count bound value → value (slice_index names count) ≡ none
next_free none names entry count bound value are within filled =
    filled.elsewhere (slice_index names count) (name_below bound names count are within)
    (λ k before. earlier_other names k count (names_up bound names are) before within)

-- one name more is filled
pub filled_more : {A : Type 0} (none : A) (names : List ℕ) (entry : ℕ → A) (count bound : ℕ) (old new : ℕ → A)
    → ascends names ≡ true → count < length names → IsFilled none names entry count bound old
    → new (slice_index names count) ≡ entry count → ((x : ℕ) → x ≢ slice_index names count → new x ≡ old x)
    → IsFilled none names entry (count + 1) bound new
filled_more none names entry count bound old new up within filled here others = record {
  beside = λ k before. elim (cases_lt k count) [
    | inl earlier ↦ others (slice_index names k) (earlier_other names k count up earlier within) ∙ filled.beside k earlier
    | inr last ↦ let same : k ≡ count = omega arith in rw same here
  ];
  elsewhere = λ x in_bound none_is.
      others x (λ same. none_is count (omega arith) (sym same))
      ∙ filled.elsewhere x in_bound (λ k before. none_is k (omega arith));
}

-- one name more is filled, in a list
pub filled_set : {A : Type 0} (none default : A) (names : List ℕ) (entry : ℕ → A) (count bound : ℕ) (values : List A) (value : A)
    → are_names bound names ≡ true → count < length names → length values ≡ bound
    → IsFilled none names entry count bound (λ x. get_or values x default) → value ≡ entry count
    → IsFilled none names entry (count + 1) bound (λ x. get_or (set values (slice_index names count) value) x default)
filled_set none default names entry count bound values value are within long filled is =
    let name = slice_index names count in
    let room : name < length values = rw long (name_below bound names count are within) in
    filled_more none names entry count bound (λ x. get_or values x default) (λ x. get_or (set values name value) x default)
    (names_up bound names are) within filled
    (get_or-set_same values name value default room ∙ is)
    (λ x other. get_or-set_other values name x value default other)

-- the next name is linked to the number beside it
pub column_linked : (count places numbers : ℕ) (names : List ℕ) (entry : ℕ → ℕ) (old new : Threaded) → are_names places names ≡ true
    → count < length names → IsFilledTo count places numbers names entry old
    → new ≡ record { values = slice_set old.values (slice_index names count) (entry count); targets = old.targets; room = old.room; target_room = old.target_room }
    → IsFilledTo (count + 1) places numbers names entry new
column_linked count places numbers names entry old new are within is linked =
    rw linked (record {
      long = length-set old.values (slice_index names count) (entry count) ∙ is.long;
      wide = is.wide;
      few = is.few;
      filled = filled_set nothing 0 names entry count places old.values (entry count) are within is.long is.filled refl;
    })

-- the cell beside the next name is put at it
pub cells_put : (count places : ℕ) (names : List ℕ) (cells : List (Option Atom)) (cell : Option Atom) (old new : List (Option Atom))
    → are_names places names ≡ true → count < length names → AreFilledTo count places names cells old
    → cell ≡ get_or cells count None → new ≡ slice_set old (slice_index names count) cell
    → AreFilledTo (count + 1) places names cells new
cells_put count places names cells cell old new are within is beside put =
    rw put (record {
      long = length-set old (slice_index names count) cell ∙ is.long;
      filled = filled_set None None names (λ k. get_or cells k None) count places old cell are within is.long is.filled beside;
    })

-- one item more, of which each is what it has to be
pub all_more : {A : Type 0} (none : A) (Is : ℕ → A → Type 0) (many : ℕ) (items more : List A) (item : A) → more ≡ items ++ item ∷ []
    → AreAll none Is many items → Is many item → AreAll none Is (many + 1) more
all_more none Is many items more item pushed all is =
    rw pushed (record {
      count = length-append items (item ∷ []) ∙ ap (λ (n : ℕ). n + 1) all.count;
      each = λ place within. elim (cases_lt place many) [
        | inl before ↦ subst (Is place) (sym (get_or_append_left items (item ∷ []) none place (rw all.count before))) (all.each place before)
        | inr past ↦
            let same : place ≡ many = omega (arith, within, past) in
            rw (same, ← all.count, get_or-append_seam items item [] none, all.count) is
      ];
    })
