-- What comes can be made.
use Rattle.std.proofs.Common.{◌≡◌, List, map, slice_get, Some, arith, subst}
use Rattle.std.proofs.lemmas.List.{length-map}
use Rattle.rw_schema.specs.declared.parts.ArrowDef.{ArrowDef}
use Rattle.rw_schema.specs.Presentation.{ends_of_arrow}
use Rattle.rw_glue.proofs.made.added_of.Goals as goal

pub new_name_lists-requires-clause-few : goal.new_name_lists-requires-clause-few
new_name_lists-requires-clause-few c =
    omega (arith, length-map c.args.placed.now (λ list. list.items), c.requires.can.lists, c.arrow_list-arrows.ensures.objects)

pub new_row_lists-requires-clause-arrows : goal.new_row_lists-requires-clause-arrows
new_row_lists-requires-clause-arrows c a ends there =
    c.requires.can.rows a ends (subst (λ (all : List ArrowDef). slice_get (map ends_of_arrow all) a ≡ Some ends) c.arrow_list-arrows.ensures.value there)
