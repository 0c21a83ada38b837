-- The columns are put together.
use Rattle.std.proofs.Common.{◌∙◌, length, map, refl, ap}
use Rattle.std.specs.Vec.{vec_capacity}
use Rattle.rw_schema.specs.Presentation.{ends_of_arrow, ends_of_attribute}
use Rattle.rw_columns.specs.Columned.{Columned}
use Rattle.rw_columns.proofs.FromRows.{ArePartsOf, columns_from, kept_from}
use Rattle.rw_columns.proofs.columns.Columns.from_rows.Goals as goal

-- the columns that are put together
abbrev columns_of : goal.In_ok-equations → Columned
columns_of c = record {
  signature = record {
    objects = length c.in_ok-names.names.items;
    arrows = c.in_ok-arrow_ends.arrow_ends.items;
    attributes = c.in_ok-attribute_ends.attribute_ends.items;
    equations = c.in_ok-equations.equations.items;
  };
  names = c.in_ok-names.names.items;
  arrows = c.in_ok-arrows.arrows.items;
  cells = map (λ list. list.items) c.in_ok-cells.cells.items;
  cell_rooms = map (λ list. vec_capacity list) c.in_ok-cells.cells.items;
}

-- their parts are those of the lists
parts_of : (c : goal.In_ok-equations) → ArePartsOf c.args.schema.now c.args.rows.now (columns_of c)
parts_of c = record {
  category = c.arrow_list.ensures.category;
  no_fault = c.requires;
  arrow_ends = c.in_ok-arrow_ends.ensures ∙ ap (map ends_of_arrow) c.arrow_list.ensures.value;
  attribute_ends = c.in_ok-attribute_ends.ensures ∙ ap (map ends_of_attribute) c.attribute_list.ensures.value;
  equations = c.in_ok-equations.ensures ∙ c.equation_list.ensures.value;
  counted = refl;
  names = c.in_ok-names.ensures;
  arrows = c.in_ok-arrows.ensures;
  cells = c.in_ok-cells.ensures;
}

pub invariant_of-result : goal.invariant_of-result
invariant_of-result c = columns_from c.args.schema.now c.args.rows.now (columns_of c) (parts_of c)

pub returns : goal.returns
returns c = kept_from c.args.schema.now c.args.rows.now (columns_of c) (parts_of c)
