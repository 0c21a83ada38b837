-- The lists have names for each object of the schema.
use Rattle.std.proofs.Common.{◌≡◌, ◌∙◌, ap, length, arith}
use Rattle.std.proofs.lemmas.List.FromFn.{length-map-range_with_len}
use Rattle.rw_schema.specs.RowLists.{RowLists}
use Rattle.rw_schema.specs.Signature.{Signature}
use Rattle.rw_columns.specs.Columned.{instance_of_columns}
use Rattle.rw_app.proofs.runner.sizes_in_columns.Goals as goal

pub sizes_of-requires : goal.sizes_of-requires
sizes_of-requires g c =
    let long : length c.in_ok-rows.rows.names ≡ length c.args.schema.now.objects =
    ap (λ (rows : RowLists). length rows.names) c.in_ok-rows.ensures
    ∙ length-map-range_with_len (instance_of_columns c.args.columns.now).names 0 c.args.columns.now.signature.objects ∙ ap (λ (C : Signature). C.objects) c.requires in
    omega (arith, long, c.objects.ensures.value, c.objects.ensures.few)
