-- The names that an arrow leads to names that get other names.
use Rattle.std.proofs.Common.{◌==◌, ℕ, not, All, Contains, List, get_or}
use Rattle.std.proofs.lemmas.List.Elements.{Contains-get_or}
use Rattle.rw_schema.specs.Signature.{Signature, source_of}
use Rattle.rw_spec.specs.Instance.{Instance, Has}
use Rattle.rw_spec.proofs.Sequences.{contained_in_filter, contained_in_flat_map}
use Rattle.rw_columns.specs.Columned.{preimage_of}
use Rattle.rw_delta.specs.ContextLists.{is_in}
use Rattle.rw_delta.specs.Deltas.{IsListOf}
use Rattle.rw_glue.specs.inner.Changed.{leads_out, redirected}

-- each of them is a name of the arrow's source that stays
pub all_redirected : (C : Signature) (X : Instance) (a : ℕ) (removed targets names : List ℕ) → IsListOf (Contains (redirected C X a removed targets)) names
    → All (Has X (source_of C a)) names
all_redirected C X a removed targets names list = λ k d within.
    let from = contained_in_flat_map (leads_out C X a removed) targets (get_or names k d) ((list.members (get_or names k d)).0 (Contains-get_or names k d within)) in
    let out = contained_in_filter (λ x. not (is_in removed x)) (preimage_of C X a from.0) (get_or names k d) from.2 in
    (contained_in_filter (λ name. X.value a name == from.0) (X.names (source_of C a)) (get_or names k d) out.0).0
