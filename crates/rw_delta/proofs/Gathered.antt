-- Names that are gathered from lists of entries.
use Rattle.std.proofs.Common.{◌≡◌, ◌==◌, ℕ, ◌+◌, ◌++◌, true, cond, List, [], length, slice_index, subst, inl, inr, arith, eqb-true, eq-eqb}
use Rattle.std.specs.Prelude.{◌⊎◌, Contains}
use Rattle.std.proofs.lemmas.Bool.{cases_Bool, cases_lt}
use Rattle.std.proofs.lemmas.List.Elements.{Contains-append_left, Contains-append_right, Contains-append_cases}
use Rattle.rw_schema.specs.RowLists.{list_at}
use Rattle.rw_spec.proofs.Sequences.{contains_none}
use Rattle.rw_columns.specs.Changes.{entry_names}
use Rattle.rw_delta.specs.Deltas.{IsListOf}
use Rattle.rw_delta.specs.inner.Gathered.{IsWritten, IsGathered, AreTouched}

module _ {A : Type 0} (owners : List ℕ) (lists : List (List (ℕ × A))) (object : ℕ) where
  -- what is written in the first lists is written in one list more
  written_later : (count x : ℕ) → IsWritten owners lists object count x → IsWritten owners lists object (count + 1) x
  written_later count x written = (written.0, omega (arith, written.1), written.2, written.3)

  -- the names of one list more
  pub gathered_more : (count : ℕ) (old mid new : List ℕ)
      → new ≡ mid ++ cond (slice_index owners count == object) (entry_names (list_at lists count)) []
      → IsGathered owners lists object count old mid → IsGathered owners lists object (count + 1) old new
  gathered_more count old mid new appended is =
      let more = cond (slice_index owners count == object) (entry_names (list_at lists count)) [] in
      rw appended (record {
        keeps = λ x there. Contains-append_left mid more x (is.keeps x there);
        has = λ x written. elim (cases_lt written.0 count) [
          | inl before ↦ Contains-append_left mid more x (is.has x (written.0, before, written.2, written.3))
          | inr last ↦
              let same : written.0 ≡ count = omega (arith, last, written.1) in
              let owner : (slice_index owners count == object) ≡ true = eq-eqb (slice_index owners count) object (subst (λ (k : ℕ). slice_index owners k ≡ object) same written.2) in
              let entry : Contains (entry_names (list_at lists count)) x = subst (λ (k : ℕ). Contains (entry_names (list_at lists k)) x) same written.3 in
              Contains-append_right mid more x (rw owner entry)
        ];
        others = λ x there. elim (Contains-append_cases mid more x there) [
          | inl before ↦ elim (is.others x before) [
            | inl first ↦ inl first
            | inr written ↦ inr (written_later count x written)
          ]
          | inr last ↦ elim (cases_Bool (slice_index owners count == object)) [
            | inl owned ↦ inr (count, omega arith, eqb-true (slice_index owners count) object owned, rw owned at last)
            | inr not_owned ↦ absurd (contains_none x (rw not_owned at last))
          ]
        ];
      })

-- what is gathered from rows and then from cells, in order
pub touched_from : {A B : Type 0} (sources : List ℕ) (rows : List (List (ℕ × A))) (holders : List ℕ) (cells : List (List (ℕ × B))) (object : ℕ) (first second names : List ℕ)
    → IsGathered sources rows object (length sources) [] first → IsGathered holders cells object (length holders) first second → IsListOf (Contains second) names
    → AreTouched sources rows holders cells object names
touched_from sources rows holders cells object first second names from_rows from_cells is = record {
  ascend = is.ascend;
  members = λ x. (
    λ there. elim (from_cells.others x ((is.members x).0 there)) [
      | inl before ↦ elim (from_rows.others x before) [
        | inl none ↦ absurd (contains_none x none)
        | inr written ↦ inl written
      ]
      | inr written ↦ inr written
    ],
    λ either. (is.members x).1 (elim either [
      | inl written ↦ from_cells.keeps x (from_rows.has x written)
      | inr written ↦ from_cells.has x written
    ]),
  );
}

-- the names of two lists, in order
pub joined_from : (first second names : List ℕ) → IsListOf (Contains (first ++ second)) names → IsListOf (λ x. Contains first x ⊎ Contains second x) names
joined_from first second names is = record {
  ascend = is.ascend;
  members = λ x. (
    λ there. Contains-append_cases first second x ((is.members x).0 there),
    λ either. (is.members x).1 (elim either [
      | inl left ↦ Contains-append_left first second x left
      | inr right ↦ Contains-append_right first second x right
    ]),
  );
}
