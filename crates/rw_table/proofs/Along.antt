-- Walks along arrows, over the arrows alone and over the whole schema.
use Rattle.std.proofs.Common.{◌≡◌, ◌<◌, ℕ, true, nat_lt, List, [], ◌∷◌, length, Option, None, refl, sym, ap, subst, lt-ltb}
use Rattle.std.proofs.lemmas.Bool.{and_from}
use Rattle.std.proofs.lemmas.Option.{slice_get_within}
use Rattle.rw_schema.specs.declared.ids.ArrowId.{ArrowId}
use Rattle.rw_schema.specs.declared.parts.Equation as equations
use Rattle.rw_schema.specs.First.{first_in, fault_unless}
use Rattle.rw_schema.specs.RowLists.{RowLists}
use Rattle.rw_schema.specs.SchemaFaults.{has_arrows}
use Rattle.rw_schema.specs.Signature.{Signature, IsPath, IsCategory}
use Rattle.rw_schema.proofs.Firsts.{first_same}
use Rattle.rw_spec.specs.Instance.{follow, agrees_at, instance_of}
use Rattle.rw_table.specs.inner.Along.{instance_along, AreRowsOf}
use Rattle.rw_table.specs.TableFaults.{has_shape, names_fault, range_fault, kind_fault, failure_of, equation_fault, table_fault}
use Rattle.rw_table.specs.declared.fault.TableFault.{TableFault}
use Rattle.rw_table.specs.declared.fault.TableFault.TheVariants.{Equation}
use Rattle.rw_table.proofs.Checked.{shape_known, row_whole}

-- a path leads to the same name over the arrows alone
pub follow_along : (C : Signature) (rows : RowLists) (path : List ArrowId) (x : ℕ)
    → follow (instance_along C.arrows rows) path x ≡ follow (instance_of C rows) path x
follow_along C rows [] x = refl
follow_along C rows (arrow ∷ path) x = follow_along C rows path ((instance_of C rows).value arrow.0 x)

-- an equation holds at the same names over the arrows alone
agrees_along : (C : Signature) (rows : RowLists) (equation : equations.Equation) (x : ℕ)
    → agrees_at (instance_along C.arrows rows) equation x ≡ agrees_at (instance_of C rows) equation x
agrees_along C rows equation x = rw (follow_along C rows equation.left x, follow_along C rows equation.right x) refl

-- an equation fails first at the same name over the arrows alone
failure_along : (C : Signature) (rows : RowLists) (place : ℕ) (equation : equations.Equation)
    → failure_of (instance_along C.arrows rows) place equation ≡ failure_of (instance_of C rows) place equation
failure_along C rows place equation =
    first_same (λ position x. fault_unless (agrees_at (instance_along C.arrows rows) equation x) (Equation place x))
    (λ position x. fault_unless (agrees_at (instance_of C rows) equation x) (Equation place x)) 0 ((instance_of C rows).names equation.object.0)
    (λ position x. ap (λ test. fault_unless test (Equation place x)) (agrees_along C rows equation x))

-- the same equation fails first over the arrows alone
pub equations_along : (C : Signature) (rows : RowLists) → first_in (failure_of (instance_along C.arrows rows)) 0 C.equations ≡ equation_fault C rows
equations_along C rows = first_same (failure_of (instance_along C.arrows rows)) (failure_of (instance_of C rows)) 0 C.equations (failure_along C rows)

-- lists of the right shape have the rows of a schema's arrows
pub rows_of_arrows : (C : Signature) (rows : RowLists) → IsCategory C → has_shape C rows ≡ true → AreRowsOf C.arrows rows
rows_of_arrows C rows category shaped = record {
  count = (shape_known C rows shaped).arrows;
  sources = λ a ends there. subst (λ objects. ends.source.0 < objects) (sym (shape_known C rows shaped).names) (category.sources a ends there);
  whole = λ a ends there. row_whole C rows a ends shaped there;
}

-- each number of a path is an arrow
pub path_arrows : (C : Signature) (from : ℕ) (path : List ArrowId) (to : ℕ) → IsPath C from path to → has_arrows (length C.arrows) path ≡ true
path_arrows C from [] to leads = refl
path_arrows C from (arrow ∷ path) to (ends, there, leaves, rest) =
    and_from (nat_lt arrow.0 (length C.arrows)) (has_arrows (length C.arrows) path)
    (lt-ltb arrow.0 (length C.arrows) (slice_get_within C.arrows arrow.0 ends there)) (path_arrows C ends.target.0 path to rest)

-- where no condition before them fails, the first fault is that of the equations
pub equations_last : (C : Signature) (rows : RowLists) (fault : Option TableFault) → has_shape C rows ≡ true → names_fault rows ≡ None
    → range_fault C rows ≡ None → kind_fault C rows ≡ None → fault ≡ equation_fault C rows → fault ≡ table_fault C rows
equations_last C rows fault shaped named ranged kept is = rw (shaped, named, ranged, kept) is
