-- The row of one arrow more.
use Rattle.std.proofs.Common.{◌≡◌, ◌∙◌, ◌++◌, ◌∷◌, [], ℕ, ◌<◌, List, Vec, Global, length, get_or, map, slice_index, refl, sym, ap, arith}
use Rattle.std.proofs.lemmas.List.{length-map, map-append, get_or_default}
use Rattle.rw_schema.specs.declared.signature.ArrowEnds.{ArrowEnds}
use Rattle.rw_schema.specs.RowLists.{list_at}
use Rattle.rw_column.specs.Threads.{Threaded}
use Rattle.rw_columns.specs.Columned.{no_column, column_at}
use Rattle.rw_columns.specs.inner.Read.{AreWithin, IsRowIn}
use Rattle.rw_columns.proofs.Filled.{all_more}
use Rattle.rw_columns.proofs.ListsRead.{IsWithinAt, within_at}
use Rattle.rw_columns.proofs.read.read_rows.Goals as goal

-- the source of an arrow
abbrev source_in : ArrowEnds → ℕ
source_in ends = ends.source.0

-- the ends that an arrow past the last one has
abbrev no_ends : ArrowEnds
no_ends = record { source = record { 0 = 0 }; target = record { 0 = 0 } }

-- the lists of names
abbrev names_in : List (Vec ℕ Global) → List (List ℕ)
names_in lists = map (λ list. list.items) lists

-- the source of the arrow at a place has names within the arrow's column
source_within : (columns : List Threaded) (ends : List ArrowEnds) (names : List (List ℕ)) (place : ℕ)
    → AreWithin (map source_in ends) (λ arrow. length (column_at columns arrow).values) names → place < length ends
    → IsWithinAt (source_in (get_or ends place no_ends)) (map source_in ends) (length (column_at columns place).values) place names
source_within columns ends names place are within =
    within_at source_in ends (λ arrow. length (column_at columns arrow).values) names place (get_or ends place no_ends) no_ends are within refl

pub list_of-sources-requires : goal.list_of-sources-requires
list_of-sources-requires g c =
    let names = c.args.names.now in
    let source = source_within c.args.columns.now c.args.ends.now (names_in names) c.loop-place.place c.requires.within c.loop-place-test.true in
    rw (length-map names (λ list. list.items)) at source.known

pub values_at-requires : goal.values_at-requires
values_at-requires g c =
    let columns = c.args.columns.now in
    let place = c.loop-place.place in
    let source = source_within columns c.args.ends.now (names_in c.args.names.now) place c.requires.within c.loop-place-test.true in
    let there : place < length columns = rw c.requires.beside c.loop-place-test.true in
    rw (c.list_of-sources.ensures, c.index-columns-place.is, get_or_default columns place c.index-columns-place.result no_column there) source.within

pub loop-place-preserved : goal.loop-place-preserved
loop-place-preserved g c =
    let columns = c.args.columns.now in
    let place = c.loop-place.place in
    let names = names_in c.args.names.now in
    let sources = map source_in c.args.ends.now in
    let source = source_within columns c.args.ends.now names place c.requires.within c.loop-place-test.true in
    let there : place < length columns = rw c.requires.beside c.loop-place-test.true in
    let column : c.index-columns-place.result ≡ column_at columns place = c.index-columns-place.is ∙ get_or_default columns place c.index-columns-place.result no_column there in
    let items = λ (list : Vec ℕ Global). list.items in
    let row = c.in_ok-values_at.field-0 in
    let pushed : c.push.new.self.items ≡ c.loop-place.rows.items ++ row ∷ [] = grind arith in
    all_more [] (IsRowIn columns sources names) place (map items c.loop-place.rows.items) (map items c.push.new.self.items) row.items
    (ap (map items) pushed ∙ map-append items c.loop-place.rows.items (row ∷ [])) c.loop-place.invariant
    (c.in_ok-values_at.ensures
    ∙ ap (λ (each : Threaded). map (slice_index each.values) c.list_of-sources.result.now) column
    ∙ ap (map (slice_index (column_at columns place).values)) (c.list_of-sources.ensures ∙ ap (list_at names) (sym source.is)))
