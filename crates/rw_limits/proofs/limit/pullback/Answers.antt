-- The lists of the pairs are those of the pullback.
use Rattle.std.proofs.Common.{◌≡◌, ◌∙◌, ℕ, None, List, map, length, sym, ap, subst, Vec, Global, arith}
use Rattle.std.specs.List.{range_with_len}
use Rattle.rw_schema.specs.Presentation.{signature_of}
use Rattle.rw_schema.specs.Signature.{IsCategory}
use Rattle.rw_spec.specs.Pullback.{Cospan}
use Rattle.rw_table.proofs.Checked.{checked_known, names_ascend}
use Rattle.rw_limits.specs.inner.PairLists.{IsLexicographic}
use Rattle.rw_limits.specs.Pairs.{pairs_at}
use Rattle.rw_limits.specs.Pullbacks.{cospan_of, pullback_lists, left_parts, right_parts, too_large}
use Rattle.rw_limits.proofs.GivenPairs.{count_given, pairs_given, each_given, lists_given}
use Rattle.rw_limits.proofs.GivenTables.{cospan_same, cospan_with, pullback_sound, pullback_universal}
use Rattle.rw_limits.proofs.Lexicographic.{agreeing_ordered}
use Rattle.rw_limits.proofs.TooLarge.{few_pairs}
use Rattle.rw_limits.proofs.limit.pullback.Goals as goal

pub pullback_rows-requires-clause-objects : goal.pullback_rows-requires-clause-objects
pullback_rows-requires-clause-objects c =
    let S : Cospan = cospan_with (signature_of c.args.schema.now) c.rows.result.now c.rows-2.result.now c.rows-3.result.now c.args.f.now c.args.g.now in
    rw c.as_slice.ensures.value
    (count_given (λ (list : Vec (ℕ × ℕ) Global). list.items) (pairs_at S) (length c.args.schema.now.objects) c.in_ok-pairs.pairs.items c.in_ok-pairs.ensures)

pub pullback_rows-requires-clause-ascend : goal.pullback_rows-requires-clause-ascend
pullback_rows-requires-clause-ascend c =
    let left = c.args.left.now in
    let right = c.args.right.now in
    let S : Cospan = cospan_with (signature_of c.args.schema.now) c.rows.result.now c.rows-2.result.now c.rows-3.result.now c.args.f.now c.args.g.now in
    let ordered : (object : ℕ) → IsLexicographic (pairs_at S object) = λ object.
    agreeing_ordered (S.left_map object) (S.right_map object) (S.left.names object) (S.right.names object)
    (rw c.rows.ensures.value (names_ascend left.rows object (checked_known left.signature left.rows c.rows.ensures.sound).names))
    (rw c.rows-2.ensures.value (names_ascend right.rows object (checked_known right.signature right.rows c.rows-2.ensures.sound).names)) in
    rw c.as_slice.ensures.value
    (λ k d within. subst IsLexicographic (sym (pairs_given (λ (list : Vec (ℕ × ℕ) Global). list.items) (pairs_at S) (length c.args.schema.now.objects) c.in_ok-pairs.pairs.items c.in_ok-pairs.ensures k d within)) (ordered k))

pub pullback_rows-requires-clause-few : goal.pullback_rows-requires-clause-few
pullback_rows-requires-clause-few c =
    let C = signature_of c.args.schema.now in
    let S : Cospan = cospan_with C c.rows.result.now c.rows-2.result.now c.rows-3.result.now c.args.f.now c.args.g.now in
    let items = λ (list : Vec (ℕ × ℕ) Global). list.items in
    let count = count_given items (pairs_at S) (length c.args.schema.now.objects) c.in_ok-pairs.pairs.items c.in_ok-pairs.ensures in
    rw c.as_slice.ensures.value
    (λ k d within.
    rw (pairs_given items (pairs_at S) (length c.args.schema.now.objects) c.in_ok-pairs.pairs.items c.in_ok-pairs.ensures k d within)
    (few_pairs C S (sym c.in_ok-object.ensures ∙ c.in_default.is) k (omega arith)))

pub of_instance-requires : goal.of_instance-requires
of_instance-requires c =
    let C = signature_of c.args.schema.now in
    let S : Cospan = cospan_of c.args.left.now c.args.right.now c.args.base.now c.args.f.now c.args.g.now in
    let items = λ (list : Vec (ℕ × ℕ) Global). list.items in
    let objects : List ℕ = range_with_len 0 (length c.args.schema.now.objects) in
    let same = cospan_same C c.args.left.now c.args.right.now c.args.base.now c.args.f.now c.args.g.now c.requires.left c.requires.right c.requires.base c.rows.result.now c.rows-2.result.now c.rows-3.result.now
    c.rows.ensures.value c.rows-2.ensures.value c.rows-3.ensures.value in
    let are : map items c.as_slice.result.now ≡ map (pairs_at S) objects = ap (map items) c.as_slice.ensures.value ∙ c.in_ok-pairs.ensures ∙ ap (λ (cospan : Cospan). map (pairs_at cospan) objects) same in
    let rows : c.in_ok-rows.rows ≡ pullback_lists C S = c.in_ok-rows.ensures ∙ lists_given C S (map items c.as_slice.result.now) (subst IsCategory c.requires.left c.rows.ensures.category) are in
    rw rows
    (pullback_sound C c.args.left.now c.args.right.now c.args.base.now c.args.f.now c.args.g.now c.requires.left c.requires.right c.requires.base
    c.rows.ensures.category c.rows.ensures.sound c.rows-2.ensures.sound c.requires.f c.requires.g)

pub returns : goal.returns
returns c =
    let C = signature_of c.args.schema.now in
    let S : Cospan = cospan_of c.args.left.now c.args.right.now c.args.base.now c.args.f.now c.args.g.now in
    let items = λ (list : Vec (ℕ × ℕ) Global). list.items in
    let count = length c.args.schema.now.objects in
    let pairs = c.in_ok-pairs.pairs.items in
    let same = cospan_same C c.args.left.now c.args.right.now c.args.base.now c.args.f.now c.args.g.now c.requires.left c.requires.right c.requires.base c.rows.result.now c.rows-2.result.now c.rows-3.result.now
    c.rows.ensures.value c.rows-2.ensures.value c.rows-3.ensures.value in
    let are : map items pairs ≡ map (pairs_at S) (range_with_len 0 count) = c.in_ok-pairs.ensures ∙ ap (λ (cospan : Cospan). map (pairs_at cospan) (range_with_len 0 count)) same in
    let rows : c.in_ok-rows.rows ≡ pullback_lists C S =
    c.in_ok-rows.ensures
    ∙ lists_given C S (map items c.as_slice.result.now) (subst IsCategory c.requires.left c.rows.ensures.category) (ap (map items) c.as_slice.ensures.value ∙ are) in
    let table : c.in_ok-table.table ≡ record { signature = C; rows = pullback_lists C S } = c.in_ok-table.ensures ∙ (λ i. record { signature = C; rows = rows i }) in
    let left : c.from_lists.result ≡ left_parts C S =
    c.from_lists.ensures ∙ c.in_ok-left_parts.ensures ∙ ap (map (λ (list : Vec (ℕ × ℕ) Global). map (λ (pair : ℕ × ℕ). pair.0) list.items)) c.as_slice-2.ensures.value
    ∙ each_given items (pairs_at S) count pairs are (map (λ (pair : ℕ × ℕ). pair.0)) in
    let right : c.from_lists-2.result ≡ right_parts C S =
    c.from_lists-2.ensures ∙ c.in_ok-right_parts.ensures ∙ ap (map (λ (list : Vec (ℕ × ℕ) Global). map (λ (pair : ℕ × ℕ). pair.1) list.items)) c.as_slice-3.ensures.value
    ∙ each_given items (pairs_at S) count pairs are (map (λ (pair : ℕ × ℕ). pair.1)) in
    let few : too_large C S ≡ None = ap (too_large C) (sym same) ∙ sym c.in_ok-object.ensures ∙ c.in_default.is in (
      few,
      pullback_universal C c.args.left.now c.args.right.now c.args.base.now c.args.f.now c.args.g.now c.requires.left c.requires.right c.requires.base
          c.rows.ensures.category c.rows.ensures.sound c.rows-2.ensures.sound c.requires.f c.requires.g c.in_ok-table.table c.from_lists.result c.from_lists-2.result table left right,
    )
