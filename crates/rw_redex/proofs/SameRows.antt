-- Lists of one instance, with the same next names, are the same.
use Rattle.std.proofs.Common.{◌≡◌, ◌∙◌, ◌<◌, ◌↔◌, ℕ, List, [], ◌∷◌, length, get_or, Option, Some, None, slice_get, slice_index, true, refl, sym, ap, inl, inr, arith}
use Rattle.std.specs.List.{Contains}
use Rattle.std.proofs.lemmas.List.{get_or_default, same_lists}
use Rattle.std.proofs.lemmas.List.Elements.{Contains-get_or}
use Rattle.std.proofs.lemmas.Option.{slice_get-get_or}
use Rattle.rw_schema.specs.declared.atom.Atom.{Atom}
use Rattle.rw_schema.specs.declared.atom.Kind.TheVariants as kinds
use Rattle.rw_schema.specs.declared.signature.ArrowEnds.{ArrowEnds}
use Rattle.rw_schema.specs.declared.signature.AttrEnds.{AttrEnds}
use Rattle.rw_schema.specs.RowLists.{RowLists, list_at}
use Rattle.rw_schema.specs.Signature.{Signature, IsCategory}
use Rattle.rw_spec.specs.Distinct.{AreDistinct}
use Rattle.rw_spec.specs.Instance.{instance_of, look}
use Rattle.rw_spec.proofs.Look.{contains_cases, look_at}
use Rattle.rw_spec.proofs.Sequences.{contains_here, contains_later, contains_none}
use Rattle.rw_spec.proofs.Signatures.{source_is, holder_is}
use Rattle.rw_spec.specs.Ascending.{ascends}
use Rattle.rw_spec.proofs.Ascending.{ascends_rest, first_below}
use Rattle.rw_table.specs.TableFaults.{table_fault}
use Rattle.rw_table.proofs.Checked.{AreShaped, checked_known, shape_known, names_ascend, names_apart, row_whole, cells_whole}
use Rattle.rw_spec.specs.Same.{AreSame}
use Rattle.rw_table.proofs.Sound as lists

-- ascending lists with the same members are the same
ascending_same : (xs ys : List ℕ) → ascends xs ≡ true → ascends ys ≡ true → ((x : ℕ) → Contains xs x ↔ Contains ys x) → xs ≡ ys
ascending_same [] [] up up' same = refl
ascending_same [] (y ∷ ys) up up' same = absurd (contains_none y ((same y).1 (contains_here y ys)))
ascending_same (x ∷ xs) [] up up' same = absurd (contains_none x ((same x).0 (contains_here x xs)))
ascending_same (x ∷ xs) (y ∷ ys) up up' same =
    let first : x ≡ y =
    elim (contains_cases y ys x ((same x).0 (contains_here x xs))) [
      | inl here ↦ sym here
      | inr later ↦
          let low : y < x = first_below y ys x up' later in
          elim (contains_cases x xs y ((same y).1 (contains_here y ys))) [
            | inl here ↦ here
            | inr after ↦ let high : x < y = first_below x xs y up after in omega arith
          ]
    ] in
    let onward : (z : ℕ) → Contains xs z → Contains ys z = λ z there.
    let low : x < z = first_below x xs z up there in
    elim (contains_cases y ys z ((same z).0 (contains_later x xs z there))) [
      | inl here ↦ absurd (omega arith)
      | inr later ↦ later
    ] in
    let back : (z : ℕ) → Contains ys z → Contains xs z = λ z there.
    let low : y < z = first_below y ys z up' there in
    elim (contains_cases x xs z ((same z).1 (contains_later y ys z there))) [
      | inl here ↦ absurd (omega arith)
      | inr later ↦ later
    ] in
    let rest : xs ≡ ys = ascending_same xs ys (ascends_rest x xs up) (ascends_rest y ys up') (λ z. (onward z, back z)) in
    rw (first, rest) refl

-- lists of lists are the same where they are at each place
same_at : {A : Type 0} (xs ys : List (List A)) → length xs ≡ length ys → ((k : ℕ) → k < length xs → list_at xs k ≡ list_at ys k) → xs ≡ ys
same_at xs ys long each =
    same_lists xs ys long (λ k d within.
    let within' : k < length ys = rw long at within in
    get_or_default xs k d [] within ∙ each k within ∙ sym (get_or_default ys k d [] within'))

-- entries beside the same names are the same where what is found beside each name is
same_beside : {A : Type 0} (none : A) (names : List ℕ) (xs ys : List A) → AreDistinct names → length xs ≡ length names → length ys ≡ length names
    → ((x : ℕ) → Contains names x → look none names xs x ≡ look none names ys x) → xs ≡ ys
same_beside none names xs ys distinct xs_long ys_long each =
    same_lists xs ys (xs_long ∙ sym ys_long) (λ k d within.
    let within_names : k < length names = rw xs_long at within in
    let within_ys : k < length ys = rw ys_long within_names in
    get_or_default xs k d none within
    ∙ sym (look_at none names xs k distinct within_names)
    ∙ each (get_or names k 0) (Contains-get_or names k 0 within_names)
    ∙ look_at none names ys k distinct within_names
    ∙ sym (get_or_default ys k d none within_ys))

-- the names of two lists of one instance are the same
names_same : (C : Signature) (r r' : RowLists) → table_fault C r ≡ None → table_fault C r' ≡ None → AreSame C (instance_of C r) (instance_of C r')
    → (object : ℕ) → object < C.objects → list_at r.names object ≡ list_at r'.names object
names_same C r r' sound sound' same object known =
    ascending_same (list_at r.names object) (list_at r'.names object) (names_ascend r object (checked_known C r sound).names) (names_ascend r' object (checked_known C r' sound').names)
    (λ x. same.names object x known)

-- so are the rows of an arrow
row_same : (C : Signature) → IsCategory C → (r r' : RowLists) → table_fault C r ≡ None → table_fault C r' ≡ None → AreSame C (instance_of C r) (instance_of C r')
    → (a : ℕ) (ends : ArrowEnds) → slice_get C.arrows a ≡ Some ends → list_at r.arrows a ≡ list_at r'.arrows a
row_same C category r r' sound sound' same a ends there =
    let source : ℕ = ends.source.0 in
    let names : List ℕ = list_at r.names source in
    let row : List ℕ = list_at r.arrows a in
    let row' : List ℕ = list_at r'.arrows a in
    let is : names ≡ list_at r'.names source = names_same C r r' sound sound' same source (category.sources a ends there) in
    same_beside 0 names row row' (names_apart C r source sound)
    (row_whole C r a ends (checked_known C r sound).shape there)
    (row_whole C r' a ends (checked_known C r' sound').shape there ∙ ap length (sym is))
    (λ x has.
    ap (λ (source : ℕ). look 0 (list_at r.names source) row x) (sym (source_is C a ends there))
    ∙ same.values a ends x there has
    ∙ ap (λ (source : ℕ). look 0 (list_at r'.names source) row' x) (source_is C a ends there)
    ∙ ap (λ (names : List ℕ). look 0 names row' x) (sym is))

-- and the cells of an attribute
cells_same : (C : Signature) → IsCategory C → (r r' : RowLists) → table_fault C r ≡ None → table_fault C r' ≡ None → AreSame C (instance_of C r) (instance_of C r')
    → (c : ℕ) (ends : AttrEnds) → slice_get C.attributes c ≡ Some ends → list_at r.cells c ≡ list_at r'.cells c
cells_same C category r r' sound sound' same c ends there =
    let object : ℕ = ends.object.0 in
    let names : List ℕ = list_at r.names object in
    let cells : List (Option Atom) = list_at r.cells c in
    let cells' : List (Option Atom) = list_at r'.cells c in
    let is : names ≡ list_at r'.names object = names_same C r r' sound sound' same object (category.holders c ends there) in
    same_beside None names cells cells' (names_apart C r object sound)
    (cells_whole C r c ends (checked_known C r sound).shape there)
    (cells_whole C r' c ends (checked_known C r' sound').shape there ∙ ap length (sym is))
    (λ x has.
    ap (λ (object : ℕ). look None (list_at r.names object) cells x) (sym (holder_is C c ends there))
    ∙ same.cells c ends x there has
    ∙ ap (λ (object : ℕ). look None (list_at r'.names object) cells' x) (holder_is C c ends there)
    ∙ ap (λ (names : List ℕ). look None names cells' x) (sym is))

-- lists of one instance with the same next names are the same
pub same_rows : (C : Signature) → IsCategory C → (r r' : RowLists) → table_fault C r ≡ None → table_fault C r' ≡ None → AreSame C (instance_of C r) (instance_of C r')
    → ((object : ℕ) → object < C.objects → slice_index r.next object ≡ slice_index r'.next object) → r ≡ r'
same_rows C category r r' sound sound' same next =
    let shaped : AreShaped C r = shape_known C r (checked_known C r sound).shape in
    let shaped' : AreShaped C r' = shape_known C r' (checked_known C r' sound').shape in
    let names : r.names ≡ r'.names =
    same_at r.names r'.names (shaped.names ∙ sym shaped'.names) (λ k within. names_same C r r' sound sound' same k (rw shaped.names at within)) in
    let arrows : r.arrows ≡ r'.arrows =
    same_at r.arrows r'.arrows (shaped.arrows ∙ sym shaped'.arrows) (λ a within.
    let short : a < length C.arrows = rw shaped.arrows at within in
    let none : ArrowEnds = record { source = record { 0 = 0 }; target = record { 0 = 0 } } in
    row_same C category r r' sound sound' same a (get_or C.arrows a none) (slice_get-get_or C.arrows a none short)) in
    let cells : r.cells ≡ r'.cells =
    same_at r.cells r'.cells (shaped.cells ∙ sym shaped'.cells) (λ c within.
    let short : c < length C.attributes = rw shaped.cells at within in
    let none : AttrEnds = record { object = record { 0 = 0 }; kind = kinds.Int } in
    cells_same C category r r' sound sound' same c (get_or C.attributes c none) (slice_get-get_or C.attributes c none short)) in
    let nexts : r.next ≡ r'.next =
    same_lists r.next r'.next (shaped.next ∙ sym shaped'.next) (λ k d within.
    let known : k < C.objects = rw shaped.next at within in
    let within' : k < length r'.next = rw shaped'.next known in
    get_or_default r.next k d 0 within ∙ next k known ∙ sym (get_or_default r'.next k d 0 within')) in
    lists.same_rows r r' names arrows cells nexts
