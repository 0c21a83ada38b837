-- The list of one object more.
use Rattle.std.proofs.Common.{◌≡◌, ◌∙◌, ◌++◌, ◌∷◌, [], ℕ, Option, Vec, Global, map, ap, arith}
use Rattle.std.proofs.lemmas.List.{map-append}
use Rattle.rw_schema.specs.declared.atom.Atom.{Atom}
use Rattle.rw_schema.specs.declared.signature.ArrowEnds.{ArrowEnds}
use Rattle.rw_schema.specs.declared.signature.AttrEnds.{AttrEnds}
use Rattle.rw_columns.proofs.Filled.{all_more}
use Rattle.rw_delta.specs.inner.Gathered.{AreTouched}
use Rattle.rw_delta.proofs.touched.touched_lists.Goals as goal

pub loop-object-preserved : goal.loop-object-preserved
loop-object-preserved c =
    let items = λ (list : Vec ℕ Global). list.items in
    let names = c.in_ok-touched_names.field-0 in
    let pushed : c.push.new.self.items ≡ c.loop-object.lists.items ++ names ∷ [] = grind arith in
    all_more []
    (AreTouched (map (λ (each : ArrowEnds). each.source.0) c.args.arrows.now) (map (λ (list : Vec (ℕ × ℕ) Global). list.items) c.args.rows.now)
    (map (λ (each : AttrEnds). each.object.0) c.args.attributes.now) (map (λ (list : Vec (ℕ × Option Atom) Global). list.items) c.args.cells.now))
    c.loop-object.object (map items c.loop-object.lists.items) (map items c.push.new.self.items) names.items
    (ap (map items) pushed ∙ map-append items c.loop-object.lists.items (names ∷ [])) c.loop-object.invariant c.in_ok-touched_names.ensures
