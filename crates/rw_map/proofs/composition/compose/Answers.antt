-- The lists are the composite, which is the one map after the other.
use Rattle.std.proofs.Common.{◌≡◌, ◌∙◌, ℕ, List, length, map, ap, arith}
use Rattle.rw_schema.specs.RowLists.{RowLists, list_at}
use Rattle.rw_spec.specs.Homomorphism.{map_of}
use Rattle.rw_spec.specs.Tabled.{instance_of_table}
use Rattle.rw_map.specs.Homs.{composite}
use Rattle.rw_map.proofs.Composites.{list_more, composite_after, composite_hom}
use Rattle.rw_map.proofs.composition.compose.Goals as goal

pub loop-number-preserved : goal.loop-number-preserved
loop-number-preserved c =
    let Y = instance_of_table c.args.y.now in
    let h : ℕ → List ℕ = λ object. map (map_of Y c.args.g.now object) (list_at c.args.f.now object) in
    let number = c.loop-number.number in
    list_more (λ list. list.items) h c.loop-number.lists.items c.push.new.self.items c.in_ok-images_under.field-0 number
    c.in_ok-push.ensures.items
    c.loop-number.invariant
    (c.in_ok-images_under.ensures ∙ ap (map (map_of Y c.args.g.now number)) c.images.ensures)

pub returns-clause-after : goal.returns-clause-after
returns-clause-after c =
    let x = c.args.x.now in
    let X = instance_of_table x in
    let Y = instance_of_table c.args.y.now in
    let names : length c.rows.result.now.names ≡ length x.rows.names = ap (λ (rows : RowLists). length rows.names) c.rows.ensures.value in
    let count : c.loop-number.number ≡ x.signature.objects = omega arith in
    let listed : c.from_lists.result ≡ composite x.signature Y c.args.f.now c.args.g.now =
    c.from_lists.ensures ∙ rw (← count) c.loop-number.invariant in
    rw listed (composite_after x.signature X Y c.args.f.now c.args.g.now c.requires.f.shape)

pub returns-clause-homomorphism : goal.returns-clause-homomorphism
returns-clause-homomorphism c =
    let x = c.args.x.now in
    let X = instance_of_table x in
    let Y = instance_of_table c.args.y.now in
    let names : length c.rows.result.now.names ≡ length x.rows.names = ap (λ (rows : RowLists). length rows.names) c.rows.ensures.value in
    let count : c.loop-number.number ≡ x.signature.objects = omega arith in
    let listed : c.from_lists.result ≡ composite x.signature Y c.args.f.now c.args.g.now =
    c.from_lists.ensures ∙ rw (← count) c.loop-number.invariant in
    λ Z first second.
    rw listed (composite_hom x.signature X Y Z c.args.f.now c.args.g.now c.rows.ensures.category c.rows.ensures.instance c.requires.f.shape first second)
