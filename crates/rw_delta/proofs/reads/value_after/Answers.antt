-- The value is found where the change says that it stands.
use Rattle.std.proofs.Common.{◌≡◌, ◌∙◌, ℕ, List, length, sym, ap, arith, slice_index, slice_index_or}
use Rattle.std.proofs.lemmas.List.{length-map}
use Rattle.rw_schema.specs.RowLists.{list_at}
use Rattle.rw_schema.specs.Signature.{source_of}
use Rattle.rw_columns.specs.Changes.{beside, entry_names}
use Rattle.rw_columns.specs.Columned.{instance_of_columns}
use Rattle.rw_columns.proofs.Changed.{images_beside, rows_differ}
use Rattle.rw_delta.proofs.Live.{was_there}
use Rattle.rw_delta.proofs.Looked.{looked_at, looked_beside, looked_old, place_within}
use Rattle.rw_delta.proofs.reads.value_after.Goals as goal

pub image_at-requires : goal.image_at-requires
image_at-requires g c =
    let change = c.args.change.now in
    let names = list_at change.added.names (source_of c.args.columns.now.signature c.args.arrow.0) in
    let found = rw c.source-source.ensures.source at (sym c.added_place.ensures ∙ c.in-Some.is) in
    let within = place_within names c.args.name c.in-Some.place found in
    rw c.added_images.ensures (omega (arith, within, images_beside c.args.columns.now change c.requires.fits c.args.arrow.0 c.requires.arrow))

pub returns-in-Some-clause-value : goal.returns-in-Some-clause-value
returns-in-Some-clause-value g c =
    let change = c.args.change.now in
    let names = list_at change.added.names (source_of c.args.columns.now.signature c.args.arrow.0) in
    let found = rw c.source-source.ensures.source at (sym c.added_place.ensures ∙ c.in-Some.is) in
    let old = beside ((instance_of_columns c.args.columns.now).value c.args.arrow.0 c.args.name) (list_at change.rows c.args.arrow.0) c.args.name in
    c.image_at.ensures
    ∙ ap (λ (images : List ℕ). slice_index images c.in-Some.place) c.added_images.ensures
    ∙ looked_at old names (list_at change.added.arrows c.args.arrow.0) c.args.name c.in-Some.place 0
    (images_beside c.args.columns.now change c.requires.fits c.args.arrow.0 c.requires.arrow) found

pub place_of_entry-requires : goal.place_of_entry-requires
place_of_entry-requires g c =
    rw c.new_rows-rows.ensures (rows_differ c.args.columns.now c.args.change.now c.requires.fits c.args.arrow.0 c.requires.arrow).ascend

pub value_at-requires : goal.value_at-requires
value_at-requires g c =
    let rows = c.new_rows-rows.result.now in
    let found = sym c.place_of_entry.ensures ∙ c.in-Some-place_of_entry.is in
    let within = place_within (entry_names rows) c.args.name c.in-Some-place_of_entry.place found in
    let long : length (entry_names rows) ≡ length rows = length-map rows (λ (entry : ℕ × ℕ). entry.0) in
    omega (arith, within, long)

pub returns-in-Some-place_of_entry-clause-value : goal.returns-in-Some-place_of_entry-clause-value
returns-in-Some-place_of_entry-clause-value g c =
    let change = c.args.change.now in
    let names = list_at change.added.names (source_of c.args.columns.now.signature c.args.arrow.0) in
    let apart = rw c.source-source.ensures.source at (sym c.added_place.ensures ∙ c.in_default.is) in
    let found = rw c.new_rows-rows.ensures at (sym c.place_of_entry.ensures ∙ c.in-Some-place_of_entry.is) in
    c.value_at.ensures
    ∙ ap (λ (rows : List (ℕ × ℕ)). (slice_index_or rows c.in-Some-place_of_entry.place (0, 0)).1) c.new_rows-rows.ensures
    ∙ looked_beside ((instance_of_columns c.args.columns.now).value c.args.arrow.0 c.args.name) (list_at change.rows c.args.arrow.0) names
    (list_at change.added.arrows c.args.arrow.0) c.args.name c.in-Some-place_of_entry.place apart (0, 0) found

pub value-requires-clause-name : goal.value-requires-clause-name
value-requires-clause-name g c =
    let apart = rw c.source-source.ensures.source at (sym c.added_place.ensures ∙ c.in_default.is) in
    was_there c.args.columns.now c.args.change.now c.requires.fits (source_of c.args.columns.now.signature c.args.arrow.0) c.args.name c.requires.name apart

pub returns-clause-value : goal.returns-clause-value
returns-clause-value g c =
    let change = c.args.change.now in
    let names = list_at change.added.names (source_of c.args.columns.now.signature c.args.arrow.0) in
    let apart = rw c.source-source.ensures.source at (sym c.added_place.ensures ∙ c.in_default.is) in
    let unwritten = rw c.new_rows-rows.ensures at (sym c.place_of_entry.ensures ∙ c.in_default-place_of_entry.is) in
    c.value.ensures.value
    ∙ looked_old ((instance_of_columns c.args.columns.now).value c.args.arrow.0 c.args.name) (list_at change.rows c.args.arrow.0) names (list_at change.added.arrows c.args.arrow.0)
    c.args.name apart unwritten
