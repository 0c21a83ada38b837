-- The instance without a part.
use Rattle.std.proofs.Common.{◌≡◌, ◌∙◌, ℕ, zero, suc, Option, None, List, [], length, get_or, replicate, refl}
use Rattle.std.proofs.lemmas.List.{length-replicate}
use Rattle.rw_schema.specs.declared.atom.Atom.{Atom}
use Rattle.rw_schema.specs.Signature.{Signature}
use Rattle.rw_spec.specs.Instance.{instance_of}
use Rattle.rw_table.specs.TableFaults.{failure_of, table_fault}
use Rattle.rw_doc.specs.Instances.{rows_of, empty_instance}
use Rattle.rw_schema.proofs.Firsts.{none_from}
use Rattle.rw_doc.proofs.PartLists.{AreLists, names_at, only_equations_fail}

-- what stands at each place of a list of one thing, or behind it
at_each : {A : Type 0} (count i : ℕ) (x : A) → get_or (replicate count x) i x ≡ x
at_each zero i x = refl
at_each (suc count) zero x = refl
at_each (suc count) (suc i) x = at_each count i x

-- the lists without a part
no_parts : (C : Signature) → AreLists C (replicate C.objects 0) (replicate (length C.arrows) []) (replicate (length C.attributes) [])
no_parts C = record {
  all_objects = length-replicate C.objects 0;
  all_arrows = length-replicate (length C.arrows) [];
  all_attributes = length-replicate (length C.attributes) [];
  row_lengths = λ a ends there. rw (at_each {A = List ℕ} (length C.arrows) a [], at_each {A = ℕ} C.objects ends.source.0 0) refl;
  images = λ a ends there. rw (at_each {A = List ℕ} (length C.arrows) a []) refl;
  cell_lengths = λ c ends there. rw (at_each {A = List (Option Atom)} (length C.attributes) c [], at_each {A = ℕ} C.objects ends.object.0 0) refl;
  kinds = λ c ends there. rw (at_each {A = List (Option Atom)} (length C.attributes) c []) refl;
}

-- no equation fails where there is no part
pub nothing_fails : (C : Signature) → table_fault C (empty_instance C).rows ≡ None
nothing_fails C =
    let parts = replicate C.objects 0 in
    let rows = rows_of parts (replicate (length C.arrows) []) (replicate (length C.attributes) []) in
    only_equations_fail C parts (replicate (length C.arrows) []) (replicate (length C.attributes) []) (no_parts C)
    ∙ none_from (failure_of (instance_of C rows)) 0 C.equations
    (λ k equation there. rw (names_at parts equation.object.0, at_each {A = ℕ} C.objects equation.object.0 0) refl)
