-- The parts of a final pullback complement over one object, as a list: by ascending host part, over the match the kept parts in their order,
-- elsewhere the tuples of parts over the values of the arrows that satisfy the equations, in lexicographic order.
use Rattle.std.specs.Prelude.{◌==◌, ◌||◌, ◌++◌, ◌*◌, ℕ, Bool, not, cond, filter, map, length, take, drop, List, [], ◌∷◌, slice_index}
use Rattle.std.specs.List.{list_any, list_all, flat_map, range_with_len}
use Rattle.rw_schema.specs.declared.parts.Equation.{Equation}
use Rattle.rw_schema.specs.declared.signature.ArrowEnds.{ArrowEnds}
use Rattle.rw_schema.specs.First.{map_in}
use Rattle.rw_schema.specs.Signature.{Signature}
use Rattle.rw_spec.specs.Instance.{Instance}
use Rattle.rw_spec.specs.Natural.{Map}
use Rattle.rw_spec.specs.Redex.{Redex}
use Rattle.rw_copies.specs.Copying.{follow_from}
use Rattle.rw_copies.specs.Made.{Made, Kept, Copied, made_host}
use Rattle.rw_spec.specs.Tuples.{tuples}

-- the host part is the image of a left part
abbrev pub is_matched : Redex → ℕ → ℕ → Bool
is_matched R object g = list_any (λ image. image == g) (map (R.m object) (R.left.names object))

-- the parts that an arrow may lead to from a copy of the host part; an arrow that leaves another object has the one choice 0
abbrev pub choices : Redex → Instance → Map → ℕ → ℕ → ℕ → ArrowEnds → List ℕ
choices R D e object g a ends =
    cond (ends.source.0 == object) (filter (λ v. e ends.target.0 v == R.host.value a g) (D.names ends.target.0)) (0 ∷ [])

-- the equation is of another object, or its sides lead from the row to one part
abbrev pub agrees_on : Instance → ℕ → List ℕ → Equation → Bool
agrees_on D object row equation =
    not (equation.object.0 == object) || follow_from D (slice_index row) equation.left == follow_from D (slice_index row) equation.right

-- the rows of the copies of a host part
abbrev pub copy_rows : Signature → Redex → Instance → Map → ℕ → ℕ → List (List ℕ)
copy_rows C R D e object g = filter (λ row. list_all (agrees_on D object row) C.equations) (tuples (map_in (choices R D e object g) 0 C.arrows))

-- the parts over a host part
abbrev pub made_over : Signature → Redex → Instance → Map → ℕ → ℕ → List Made
made_over C R D e object g =
    cond (is_matched R object g)
    (map Kept (filter (λ z. R.m object (R.l object z) == g) (R.keep.names object)))
    (map (Copied g) (copy_rows C R D e object g))

-- the parts over an object
abbrev pub made_parts : Signature → Redex → Instance → Map → ℕ → List Made
made_parts C R D e object = flat_map (made_over C R D e object) (R.host.names object)

-- the first part over each host part, and the others
abbrev pub first_parts : Signature → Redex → Instance → Map → ℕ → List Made
first_parts C R D e object = flat_map (λ g. take 1 (made_over C R D e object g)) (R.host.names object)

abbrev pub more_parts : Signature → Redex → Instance → Map → ℕ → List Made
more_parts C R D e object = flat_map (λ g. drop 1 (made_over C R D e object g)) (R.host.names object)

-- the parts in the order of their names: the first ones keep the names of their host parts, the others take next names
abbrev pub named_parts : Signature → Redex → Instance → Map → ℕ → List Made
named_parts C R D e object = first_parts C R D e object ++ more_parts C R D e object

abbrev pub part_names : Signature → Redex → Instance → Map → ℕ → ℕ → List ℕ
part_names C R D e object next =
    map (made_host R object) (first_parts C R D e object) ++ range_with_len next (length (more_parts C R D e object))

-- the number of parts of D over a host part
abbrev pub count_over : Instance → Map → ℕ → ℕ → ℕ
count_over D e object g = length (filter (λ v. e object v == g) (D.names object))

-- one factor for each arrow that leaves the object
abbrev pub factor_of : Redex → Instance → Map → ℕ → ℕ → ℕ → ArrowEnds → ℕ
factor_of R D e object g a ends = cond (ends.source.0 == object) (count_over D e ends.target.0 (R.host.value a g)) 1

abbrev pub product : List ℕ → ℕ
product [] = 1
product (n ∷ ns) = n * product ns
