-- What is said of lists of cells holds of the same lists.
use Rattle.std.proofs.Common.{◌≡◌, List, ℕ, Option, subst}
use Rattle.rw_schema.specs.declared.atom.Atom.{Atom}
use Rattle.rw_columns.specs.inner.Written.{MayRenew, IsRenewed, MayWrite, IsListWritten}

module _ (places : ℕ) (removed removed' added added' : List ℕ) (atoms atoms' old old' : List (Option Atom)) (off : removed ≡ removed') (on : added ≡ added')
    (put : atoms ≡ atoms') (before : old ≡ old') where
  pub may_renew : MayRenew removed added atoms places old → MayRenew removed' added' atoms' places old'
  may_renew may =
      subst (λ (list : List (Option Atom)). MayRenew removed' added' atoms' places list) before
      (subst (λ (list : List (Option Atom)). MayRenew removed' added' list places old) put
      (subst (λ (names : List ℕ). MayRenew removed' names atoms places old) on
      (subst (λ (names : List ℕ). MayRenew names added atoms places old) off may)))

  pub is_renewed : (new new' : List (Option Atom)) → new ≡ new' → IsRenewed removed added atoms places old new → IsRenewed removed' added' atoms' places old' new'
  is_renewed new new' after is =
      subst (λ (list : List (Option Atom)). IsRenewed removed' added' atoms' places old' list) after
      (subst (λ (list : List (Option Atom)). IsRenewed removed' added' atoms' places list new) before
      (subst (λ (list : List (Option Atom)). IsRenewed removed' added' list places old new) put
      (subst (λ (names : List ℕ). IsRenewed removed' names atoms places old new) on
      (subst (λ (names : List ℕ). IsRenewed names added atoms places old new) off is))))

module _ (entries entries' : List (ℕ × Option Atom)) (old old' : List (Option Atom)) (same : entries ≡ entries') (before : old ≡ old') where
  pub may_write : MayWrite entries old → MayWrite entries' old'
  may_write may =
      subst (λ (list : List (Option Atom)). MayWrite entries' list) before
      (subst (λ (list : List (ℕ × Option Atom)). MayWrite list old) same may)

  pub is_written : (new new' : List (Option Atom)) → new ≡ new' → IsListWritten entries old new → IsListWritten entries' old' new'
  is_written new new' after is =
      subst (λ (list : List (Option Atom)). IsListWritten entries' old' list) after
      (subst (λ (list : List (Option Atom)). IsListWritten entries' list new) before
      (subst (λ (list : List (ℕ × Option Atom)). IsListWritten list old new) same is))
