-- The cell and its image are what stands at the place.
use Rattle.std.proofs.Common.{◌≡◌, ◌∙◌, ◌<◌, List, Option, None, length, slice_index, get_or, sym, ap, arith}
use Rattle.std.specs.Option.{option_map}
use Rattle.std.proofs.lemmas.List.{get_or_default}
use Rattle.std.proofs.lemmas.Option.{slice_get_within}
use Rattle.rw_schema.specs.declared.atom.Atom.{Atom}
use Rattle.rw_schema.specs.Presentation.{ends_of_attribute}
use Rattle.rw_schema.specs.RowLists.{RowLists, list_at}
use Rattle.rw_spec.specs.Homomorphism.{map_of}
use Rattle.rw_spec.specs.Tabled.{instance_of_table}
use Rattle.rw_map.proofs.Entries.{distinct_names, image_at, cell_at, cells_long, kept_is}
use Rattle.rw_map.proofs.kept.keeps_at.Goals as goal

pub offset_bounds-cells-position : goal.offset_bounds-cells-position
offset_bounds-cells-position c =
    let x = c.args.x.now in
    let long = cells_long x.signature x.rows c.args.attribute.0 (ends_of_attribute c.args.ends.now) c.rows.ensures.sound c.requires.x in
    let within : c.args.position < length c.cells.result.now = rw (c.cells.ensures, c.rows.ensures.value, long) c.requires.position in
    omega arith

pub bounds-cells-position : goal.bounds-cells-position
bounds-cells-position c =
    let x = c.args.x.now in
    let long = cells_long x.signature x.rows c.args.attribute.0 (ends_of_attribute c.args.ends.now) c.rows.ensures.sound c.requires.x in
    rw (c.cells.ensures, c.rows.ensures.value, long) c.requires.position

pub atom-requires : goal.atom-requires
atom-requires c = slice_get_within c.args.y.now.signature.attributes c.args.attribute.0 (ends_of_attribute c.args.ends.now) c.requires.y

pub returns : goal.returns
returns c =
    let x = c.args.x.now in
    let X = instance_of_table x in
    let Y = instance_of_table c.args.y.now in
    let attribute = c.args.attribute.0 in
    let ends = ends_of_attribute c.args.ends.now in
    let k = c.args.position in
    let names = list_at x.rows.names ends.object.0 in
    let distinct = distinct_names x.signature x.rows ends.object.0 c.rows.ensures.sound in
    let long = cells_long x.signature x.rows attribute ends c.rows.ensures.sound c.requires.x in
    let within : k < length c.cells.result.now = rw (c.cells.ensures, c.rows.ensures.value, long) c.requires.position in
    let cells_are : c.cells.result.now ≡ list_at x.rows.cells attribute = c.cells.ensures ∙ ap (λ (rows : RowLists). list_at rows.cells attribute) c.rows.ensures.value in
    let cell = c.index-cells-position.result in
    let here : cell ≡ get_or (list_at x.rows.cells attribute) k None =
    c.index-cells-position.is ∙ get_or_default c.cells.result.now k cell None within ∙ ap (λ (cells : List (Option Atom)). get_or cells k None) cells_are in
    let found = option_map (λ atom. atom.now) c.atom.result in
    kept_is X Y (map_of X c.args.map.now) attribute ends (slice_index names k) c.image-image.result cell found c.goes_to.result
    (cell_at x.signature x.rows attribute k ends distinct c.requires.x c.requires.position ∙ sym here)
    (image_at X c.args.map.now ends.object.0 k distinct c.requires.position ∙ sym c.image-image.ensures)
    c.atom.ensures c.goes_to.ensures
