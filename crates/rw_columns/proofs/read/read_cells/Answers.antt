-- The cells of one attribute more.
use Rattle.std.proofs.Common.{◌≡◌, ◌∙◌, ◌++◌, ◌∷◌, [], ℕ, ◌<◌, List, Option, None, Vec, Global, length, get_or, map, refl, sym, ap, arith}
use Rattle.std.proofs.lemmas.List.{length-map, map-append, get_or-map}
use Rattle.rw_schema.specs.declared.atom.Atom.{Atom}
use Rattle.rw_schema.specs.declared.atom.Kind.TheVariants.{Int}
use Rattle.rw_schema.specs.declared.signature.AttrEnds.{AttrEnds}
use Rattle.rw_schema.specs.RowLists.{list_at}
use Rattle.rw_columns.specs.inner.Read.{AreWithin, AreCellsIn}
use Rattle.rw_columns.proofs.Filled.{all_more}
use Rattle.rw_columns.proofs.ListsRead.{IsWithinAt, within_at}
use Rattle.rw_columns.proofs.read.read_cells.Goals as goal

-- the object of an attribute
abbrev object_in : AttrEnds → ℕ
object_in ends = ends.object.0

-- the ends that an attribute past the last one has
abbrev no_ends : AttrEnds
no_ends = record { object = record { 0 = 0 }; kind = Int }

-- the lists of names
abbrev names_in : List (Vec ℕ Global) → List (List ℕ)
names_in lists = map (λ list. list.items) lists

-- the lists of cells
abbrev cells_in : List (Vec (Option Atom) Global) → List (List (Option Atom))
cells_in lists = map (λ list. list.items) lists

-- the object of the attribute at a place has names within the attribute's cells
holder_within : (lists : List (List (Option Atom))) (ends : List AttrEnds) (names : List (List ℕ)) (place : ℕ)
    → AreWithin (map object_in ends) (λ attribute. length (list_at lists attribute)) names → place < length ends
    → IsWithinAt (object_in (get_or ends place no_ends)) (map object_in ends) (length (list_at lists place)) place names
holder_within lists ends names place are within =
    within_at object_in ends (λ attribute. length (list_at lists attribute)) names place (get_or ends place no_ends) no_ends are within refl

pub list_of-holders-requires : goal.list_of-holders-requires
list_of-holders-requires g c =
    let names = c.args.names.now in
    let holder = holder_within (cells_in c.args.lists.now) c.args.ends.now (names_in names) c.loop-place.place c.requires.within c.loop-place-test.true in
    rw (length-map names (λ list. list.items)) at holder.known

pub cells_at-requires : goal.cells_at-requires
cells_at-requires g c =
    let lists = c.args.lists.now in
    let place = c.loop-place.place in
    let holder = holder_within (cells_in lists) c.args.ends.now (names_in c.args.names.now) place c.requires.within c.loop-place-test.true in
    let there : place < length lists = rw c.requires.beside c.loop-place-test.true in
    let found = c.as_slice.ensures.value ∙ ap (λ (list : Vec (Option Atom) Global). list.items) c.index-lists-place.is
    ∙ sym (get_or-map (λ (list : Vec (Option Atom) Global). list.items) lists place c.index-lists-place.result [] there) in
    rw (c.list_of-holders.ensures, found) holder.within

pub loop-place-preserved : goal.loop-place-preserved
loop-place-preserved g c =
    let lists = c.args.lists.now in
    let place = c.loop-place.place in
    let names = names_in c.args.names.now in
    let holders = map object_in c.args.ends.now in
    let holder = holder_within (cells_in lists) c.args.ends.now names place c.requires.within c.loop-place-test.true in
    let there : place < length lists = rw c.requires.beside c.loop-place-test.true in
    let items = λ (list : Vec (Option Atom) Global). list.items in
    let found = c.as_slice.ensures.value ∙ ap items c.index-lists-place.is ∙ sym (get_or-map items lists place c.index-lists-place.result [] there) in
    let cells = c.in_ok-cells_at.field-0 in
    let pushed : c.push.new.self.items ≡ c.loop-place.cells.items ++ cells ∷ [] = grind arith in
    all_more [] (AreCellsIn (cells_in lists) holders names) place (map items c.loop-place.cells.items) (map items c.push.new.self.items) cells.items
    (ap (map items) pushed ∙ map-append items c.loop-place.cells.items (cells ∷ [])) c.loop-place.invariant
    (c.in_ok-cells_at.ensures
    ∙ ap (λ (list : List (Option Atom)). map (λ name. get_or list name None) c.list_of-holders.result.now) found
    ∙ ap (map (λ name. get_or (list_at (cells_in lists) place) name None)) (c.list_of-holders.ensures ∙ ap (list_at names) (sym holder.is)))
