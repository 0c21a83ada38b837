-- Lists of numbers are compared head by head, before they are mapped or after.
use Rattle.std.proofs.Common.{◌∙◌, map}
use Rattle.std.specs.Str.{bytes_eq}
use Rattle.std.proofs.lemmas.Slice.Eq.{slice_eq-Decides, bytes_eq-Decides}
use Rattle.rw_schema.proofs.Lists.{pointwise_map}
use Rattle.rw_schema.proofs.rows.are_equal.Goals as goal

pub returns : goal.returns
returns c =
    let same = pointwise_map bytes_eq (λ list. list.items) c.args.left.now c.args.right.now in
    slice_eq-Decides bytes_eq-Decides (map (λ list. list.items) c.args.left.now) (map (λ list. list.items) c.args.right.now) c.eq.result (c.eq.ensures ∙ same)
