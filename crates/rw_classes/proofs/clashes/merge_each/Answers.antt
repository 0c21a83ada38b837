-- The cells of one attribute more.
use Rattle.std.proofs.Common.{◌≡◌, ◌∙◌, ◌+◌, [], ◌∷◌, ◌++◌, length, map, option_map, slice_get, Some, refl, ap, sym, subst, ℕ, arith}
use Rattle.std.proofs.lemmas.Grind.{common_steps}
use Rattle.std.proofs.lemmas.List.{length_push}
use Rattle.std.proofs.lemmas.Option.{slice_get-map, slice_get_read}
use Rattle.rw_schema.specs.Presentation.{ends_of_attribute}
use Rattle.rw_classes.specs.Clashes.{MergesAt}
use Rattle.rw_classes.specs.ClassLists.{number_lists, first_lists}
use Rattle.rw_classes.proofs.FirstClash.{merges_more}
use Rattle.rw_classes.proofs.clashes.merge_each.Goals as goal

pub merge_at-requires : goal.merge_at-requires
merge_at-requires c =
    let attributes = c.args.attributes.now in
    let place = c.loop-place.place in
    let attribute = c.index-attributes-place.result in
    c.requires.cells place (ends_of_attribute attribute)
    (slice_get-map ends_of_attribute attributes place ∙ ap (option_map ends_of_attribute) (slice_get_read attributes (length attributes) place attribute refl c.loop-place-test.true c.index-attributes-place.is))

pub loop-place-preserved : goal.loop-place-preserved
loop-place-preserved c =
    let attributes = c.args.attributes.now in
    let place = c.loop-place.place in
    let attribute = c.index-attributes-place.result in
    let left = c.args.left.now in
    let right = c.args.right.now in
    let numbers = number_lists c.args.classes.now in
    let firsts = first_lists c.args.classes.now in
    let so_far = c.loop-place.merged.items in
    let new = c.in_ok-merge_at.field-0 in
    let last : length so_far ≡ place = c.loop-place.invariant.each in
    let there : slice_get (map ends_of_attribute attributes) place ≡ Some (ends_of_attribute attribute) =
    slice_get-map ends_of_attribute attributes place ∙ ap (option_map ends_of_attribute) (slice_get_read attributes (length attributes) place attribute refl c.loop-place-test.true c.index-attributes-place.is) in
    let pushed : c.push.new.self.items ≡ so_far ++ new ∷ [] = grind (arith, common_steps) in
    rw pushed (record {
      each = length_push so_far new ∙ ap (λ n. n + 1) last;
      merged = merges_more left right numbers firsts (map ends_of_attribute attributes) so_far (ends_of_attribute attribute) new c.loop-place.invariant.merged
          (ap (slice_get (map ends_of_attribute attributes)) last ∙ there)
          (subst (λ (k : ℕ). MergesAt left right numbers firsts k (ends_of_attribute attribute) new) (sym last) c.in_ok-merge_at.ensures);
    })
