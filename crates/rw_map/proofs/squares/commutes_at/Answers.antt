-- The corners of the square are what stands at the place.
use Rattle.std.proofs.Common.{◌≡◌, ◌∙◌, ◌<◌, ℕ, length, slice_index, List, ap, arith}
use Rattle.std.proofs.lemmas.Option.{slice_get_within}
use Rattle.rw_schema.specs.Presentation.{ends_of_arrow}
use Rattle.rw_schema.specs.RowLists.{RowLists, list_at}
use Rattle.rw_spec.specs.Homomorphism.{map_of}
use Rattle.rw_spec.specs.Tabled.{instance_of_table}
use Rattle.rw_map.proofs.Entries.{distinct_names, image_at, value_at, row_long, square_is}
use Rattle.rw_map.proofs.squares.commutes_at.Goals as goal

pub offset_bounds-row-position : goal.offset_bounds-row-position
offset_bounds-row-position c =
    let x = c.args.x.now in
    let long = row_long x.signature x.rows c.args.arrow.0 (ends_of_arrow c.args.ends.now) c.rows.ensures.sound c.requires.x in
    let within : c.args.position < length c.row.result.now = rw (c.row.ensures, c.rows.ensures.value, long) c.requires.position in
    omega arith

pub bounds-row-position : goal.bounds-row-position
bounds-row-position c =
    let x = c.args.x.now in
    let long = row_long x.signature x.rows c.args.arrow.0 (ends_of_arrow c.args.ends.now) c.rows.ensures.sound c.requires.x in
    rw (c.row.ensures, c.rows.ensures.value, long) c.requires.position

pub value_of-requires : goal.value_of-requires
value_of-requires c = slice_get_within c.args.y.now.signature.arrows c.args.arrow.0 (ends_of_arrow c.args.ends.now) c.requires.y

pub returns : goal.returns
returns c =
    let x = c.args.x.now in
    let X = instance_of_table x in
    let Y = instance_of_table c.args.y.now in
    let a = c.args.arrow.0 in
    let ends = ends_of_arrow c.args.ends.now in
    let k = c.args.position in
    let names = list_at x.rows.names ends.source.0 in
    let distinct = distinct_names x.signature x.rows ends.source.0 c.rows.ensures.sound in
    let row_is : c.row.result.now ≡ list_at x.rows.arrows a = c.row.ensures ∙ ap (λ (rows : RowLists). list_at rows.arrows a) c.rows.ensures.value in
    let value : ℕ = slice_index (list_at x.rows.arrows a) k in
    let image : ℕ = slice_index (list_at c.args.map.now ends.source.0) k in
    square_is X Y (map_of X c.args.map.now) a ends (slice_index names k) value image c.image_of.result c.value_of.result
    (value_at x.signature x.rows a k ends distinct c.requires.x c.requires.position)
    (image_at X c.args.map.now ends.source.0 k distinct c.requires.position)
    (c.image_of.ensures ∙ ap (λ (row : List ℕ). map_of X c.args.map.now ends.target.0 (slice_index row k)) row_is)
    (c.value_of.ensures ∙ ap (Y.value a) c.image-image.ensures)
