-- What a list of differences writes is the new entry.
use Rattle.std.proofs.Common.{◌≡◌, ◌⊎◌, ℕ, zero, suc, Bool, true, false, List, [], ◌∷◌, Contains, sym, ap, ◌∙◌, subst, inl, inr, arith, eqb, eqb-true, eq-eqb, true≢false}
use Rattle.std.proofs.lemmas.Bool.{cases_Bool}
use Rattle.rw_columns.specs.Changes.{beside, differences}

module _ {A : Type 0} (same : A → A → Bool) (is : (a b : A) → same a b ≡ true → a ≡ b) (old new : ℕ → A) where
  -- where the old entry is the new one, or the name is in the list
  written_or : (names : List ℕ) (x : ℕ) → Contains names x ⊎ (old x ≡ new x) → beside (old x) (differences same old new names) x ≡ new x
  written_or [] x (inl (k, within, there)) = absurd (omega arith)
  written_or [] x (inr stays) = stays
  written_or (y ∷ names) x either =
      elim (cases_Bool (same (old y) (new y))) [
        | inl unchanged ↦ rw unchanged (written_or names x (elim either [
          | inr stays ↦ inr stays
          | inl there ↦ rest names x y there (is (old y) (new y) unchanged)
        ]))
        | inr differs ↦ elim (cases_Bool (eqb y x)) [
          | inl here ↦ rw (differs, here) (ap new (eqb-true y x here))
          | inr apart ↦ rw (differs, apart) (written_or names x (elim either [
            | inr stays ↦ inr stays
            | inl there ↦ later names x y there apart
          ]))
        ]
      ]
    where
      rest : (names : List ℕ) (x y : ℕ) → Contains (y ∷ names) x → old y ≡ new y → Contains names x ⊎ (old x ≡ new x)
      rest names x y (zero, within, there) stays = inr (subst (λ (k : ℕ). old k ≡ new k) there stays)
      rest names x y (suc k, within, there) stays = inl (k, omega arith, there)

      later : (names : List ℕ) (x y : ℕ) → Contains (y ∷ names) x → eqb y x ≡ false → Contains names x ⊎ (old x ≡ new x)
      later names x y (zero, within, there) apart = absurd (true≢false (sym (eq-eqb y x there) ∙ apart))
      later names x y (suc k, within, there) apart = inl (k, omega arith, there)

  -- a name of the list has its new entry once the differences are written
  pub written : (names : List ℕ) (x : ℕ) → Contains names x → beside (old x) (differences same old new names) x ≡ new x
  written names x there = written_or names x (inl there)
