-- What a rule over a signature has of its objects and arrows.
use Rattle.std.proofs.Common.{◌≡◌, ℕ, ◌<◌, Some, List, length, slice_get, map, get_or, sym, ap, ◌∙◌, arith}
use Rattle.std.proofs.lemmas.Option.{slice_get-get_or, slice_get_within}
use Rattle.rw_schema.specs.declared.parts.ArrowDef.{ArrowDef}
use Rattle.rw_schema.specs.declared.signature.ArrowEnds.{ArrowEnds}
use Rattle.rw_schema.specs.Presentation.{ends_of_arrow}
use Rattle.rw_schema.specs.RowLists.{list_at}
use Rattle.rw_schema.specs.Signature.{Signature, IsCategory}
use Rattle.rw_pattern.specs.MapFaults.{image_of}
use Rattle.rw_pattern.specs.PatternLists.{size_of}
use Rattle.rw_pattern.proofs.Maps.{IsMap, is_map, lists_long, images_long}
use Rattle.rw_pattern.proofs.Places.{parts_within}
use Rattle.rw_pattern.proofs.Shapes.{IsPattern, row_long, ends_at}
use Rattle.rw_rule.specs.RuleLists.{RuleLists}
use Rattle.rw_redex.proofs.Parts.{value_part}
use Rattle.rw_redex.proofs.RuleMaps.{left_is, keep_is, right_is}
use Rattle.rw_redex.specs.RuleParts.{IsSpanOver, HasObject, HasArrow}

-- a rule over a signature has each of its objects
pub object_known : (C : Signature) (rule : RuleLists) (object : ℕ) → IsSpanOver C rule → object < C.objects → HasObject rule object
object_known C rule object is known =
    let left : IsPattern C rule.goal.left = left_is C rule is in
    let keep : IsPattern C rule.keep = keep_is C rule is in
    let right : IsPattern C rule.right = right_is C rule is in
    let l : IsMap C rule.keep rule.goal.left rule.l = is_map C rule.keep rule.goal.left rule.l is.l in
    let r : IsMap C rule.keep rule.right rule.r = is_map C rule.keep rule.right rule.r is.r in
    let kept : object < length rule.keep.sizes = omega (arith, keep.sizes_long) in
    let of_l : length (list_at rule.l object) ≡ size_of rule.keep object = images_long rule.keep rule.l object l.shape kept in
    let of_r : length (list_at rule.r object) ≡ size_of rule.keep object = images_long rule.keep rule.r object r.shape kept in
    let right_known : object < length rule.right.sizes = omega (arith, right.sizes_long) in
    record {
      left = omega (arith, left.sizes_long);
      right = right_known;
      l = omega (arith, lists_long rule.keep rule.l l.shape);
      r = omega (arith, lists_long rule.keep rule.r r.shape);
      few = omega (arith, parts_within rule.right.sizes object right_known, right.few);
      beside = of_l ∙ sym of_r;
      within = λ part there. l.range object part (image_of rule.l object part) kept (slice_get-get_or (list_at rule.l object) part 0 there);
    }

-- a rule over a category has each of its arrows
arrow_known : (C : Signature) (rule : RuleLists) (arrow : ℕ) (ends : ArrowEnds) → IsCategory C → IsSpanOver C rule
    → slice_get C.arrows arrow ≡ Some ends → HasArrow C rule arrow ends
arrow_known C rule arrow ends category is there =
    let right : IsPattern C rule.right = right_is C rule is in
    let row : List ℕ = list_at rule.right.rows arrow in
    let long : length row ≡ size_of rule.right ends.source.0 = row_long C rule.right arrow ends right there in
    let source_known : ends.source.0 < C.objects = category.sources arrow ends there in
    let target_known : ends.target.0 < C.objects = category.targets arrow ends there in
    record {
      is = there;
      source_known = source_known;
      target_known = target_known;
      source = object_known C rule ends.source.0 is source_known;
      target = object_known C rule ends.target.0 is target_known;
      row = omega (arith, right.rows_long, slice_get_within C.arrows arrow ends there);
      long = long;
      within = λ part below. value_part C rule.right arrow ends part right there below;
    }

-- a rule over a schema has each arrow in the list of its arrows
pub listed_arrow_known : (C : Signature) (rule : RuleLists) (listed arrows : List ArrowDef) (number : ℕ) (arrow : ArrowDef) → IsCategory C → IsSpanOver C rule
    → listed ≡ arrows → map ends_of_arrow arrows ≡ C.arrows → number < length listed → arrow ≡ get_or listed number arrow → HasArrow C rule number (ends_of_arrow arrow)
listed_arrow_known C rule listed arrows number arrow category is same all within here =
    arrow_known C rule number (ends_of_arrow arrow) category is
    (ap (λ (ends : List ArrowEnds). slice_get ends number) (sym all) ∙ ends_at listed arrows number arrow same within here)
