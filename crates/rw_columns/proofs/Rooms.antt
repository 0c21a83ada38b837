-- Columns that are given more room keep what they hold.
use Rattle.std.proofs.Common.{◌≡◌, ◌≢◌, ◌↔◌, ◌∙◌, ℕ, ◌+◌, ◌<◌, ◌≤◌, List, None, OnOk, Option, Result, Ok, Err, length, inl, inr, arith, subst, sym, ap, slice_index, slice_index_or}
use Rattle.std.proofs.lemmas.Bool.{cases_lt}
use Rattle.rw_schema.specs.declared.atom.Atom.{Atom}
use Rattle.rw_schema.specs.declared.signature.ArrowEnds.{ArrowEnds}
use Rattle.rw_schema.specs.RowLists.{list_at}
use Rattle.rw_schema.specs.Signature.{Signature}
use Rattle.rw_spec.specs.Instance.{Instance, IsInstance}
use Rattle.rw_column.specs.Threads.{Threaded, nothing, places_from}
use Rattle.rw_columns.specs.ChangedColumns.{FitsColumns, KeepContents}
use Rattle.rw_columns.specs.Changes.{ChangeLists, Fits}
use Rattle.rw_columns.specs.Columned.{Columned, column_at, instance_of_columns, next_of, IsOverEnds, AreColumns}
use Rattle.rw_columns.specs.inner.Room.{AreKept, KeepLists}

-- where a call went well, what follows from three of its clauses
pub ok_from_three : {A E P Q R S : Type 0} (result : Result A E) → OnOk result P → OnOk result Q → OnOk result R → (P → Q → R → S) → OnOk result S
ok_from_three (Ok x) p q r follows = follows p q r
ok_from_three (Err e) p q r follows = tt

-- what is kept twice is kept
pub kept_then : (old mid new : List Threaded) → AreKept old mid → AreKept mid new → AreKept old new
kept_then old mid new first then_kept = record {
  count = then_kept.count ∙ first.count;
  each = λ place. record {
    values = (then_kept.each place).values ∙ (first.each place).values;
    targets = (then_kept.each place).targets ∙ (first.each place).targets;
  };
}

-- what is true of the items before a place, and is then made true of that at the place
pub each_before : {A : Type 0} (Is : ℕ → A → Type 0) (old new : ℕ → A) (place : ℕ) → ((k : ℕ) → k < place → Is k (old k))
    → ((k : ℕ) → k ≢ place → new k ≡ old k) → Is place (new place) → (k : ℕ) → k < place + 1 → Is k (new k)
each_before Is old new place before others here k within =
    elim (cases_lt k place) [
      | inl earlier ↦ subst (Is k) (sym (others k (λ same. omega (arith, same, earlier)))) (before k earlier)
      | inr last ↦ let same : place ≡ k = omega (arith, within, last) in subst (λ (j : ℕ). Is j (new j)) same here
    ]

module _ (old new : Columned) (keep : KeepLists old new) where
  -- the instance is the same
  instance_kept : instance_of_columns new ≡ instance_of_columns old
  instance_kept = λ i. record {
    names = λ object. ap (λ (values : List ℕ). places_from values 0 0) (keep.names.each object).values i;
    value = λ arrow name. ap (λ (values : List ℕ). slice_index values name) (keep.arrows.each arrow).values i;
    cell = λ attribute name. ap (λ (cells : List (List (Option Atom))). slice_index_or (list_at cells attribute) name None) keep.cells i;
  }

  -- and so are the next names
  next_kept : (object : ℕ) → next_of new object ≡ next_of old object
  next_kept object = ap length (keep.names.each object).values

  pub contents_kept : KeepContents old new
  contents_kept = record { signature = keep.signature; instance = instance_kept; next = next_kept }

  -- what fits before fits afterwards
  pub fits_kept : (change : ChangeLists) → FitsColumns old change → FitsColumns new change
  fits_kept change fits =
      let next_same : next_of new ≡ next_of old = λ i. λ object. next_kept object i in
      subst (λ (C : Signature). Fits C (instance_of_columns new) (next_of new) change) (sym keep.signature)
      (subst (λ (X : Instance). Fits old.signature X (next_of new) change) (sym instance_kept)
      (subst (λ (next : ℕ → ℕ). Fits old.signature (instance_of_columns old) next change) (sym next_same) fits))

  -- the column of each arrow is over its ends
  over_kept : (a : ℕ) (ends : ArrowEnds) → IsOverEnds old a ends → IsOverEnds (record new { signature = old.signature }) a ends
  over_kept a ends over =
      let column = keep.arrows.each a in
      let sources = keep.names.each ends.source.0 in
      let targets = keep.names.each ends.target.0 in
      let given_in = λ (names values : List ℕ). (name : ℕ) → name < length values → (slice_index names name ≡ 0) ↔ (slice_index values name ≢ nothing) in
      record {
        long = ap length column.values ∙ over.long ∙ sym (ap length sources.values);
        few = subst (λ (n : ℕ). n ≤ nothing) (sym column.targets) over.few;
        wide = column.targets ∙ over.wide ∙ sym (ap length targets.values);
        given = subst (λ (names : List ℕ). given_in names (column_at new.arrows a).values) (sym sources.values)
            (subst (given_in (column_at old.names ends.source.0).values) (sym column.values) over.given);
      }

  -- the new ones are columns
  pub columns_kept : AreColumns old → AreColumns new
  columns_kept is =
      let over_old : AreColumns (record new { signature = old.signature }) = record {
        category = is.category;
        objects = keep.names.count ∙ is.objects;
        arrow_count = keep.arrows.count ∙ is.arrow_count;
        attribute_count = ap length keep.cells ∙ is.attribute_count;
        targets = λ object known. (keep.names.each object).targets ∙ is.targets object known;
        ends = λ a ends there. over_kept a ends (is.ends a ends there);
        cells_long = λ c ends there.
            ap (λ (cells : List (List (Option Atom))). length (list_at cells c)) keep.cells ∙ is.cells_long c ends there ∙ sym (next_kept ends.object.0);
        sound = subst (IsInstance old.signature) (sym instance_kept) is.sound;
      } in
      subst (λ (C : Signature). AreColumns (record new { signature = C })) (sym keep.signature) over_old
