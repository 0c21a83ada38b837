-- A schema: a presented category with attributes, whose objects, arrows and attributes have names.
use Rattle.std.specs.Prelude.{ℕ, List, map, length}
use Rattle.rw_schema.specs.declared.parts.ArrowDef.{ArrowDef}
use Rattle.rw_schema.specs.declared.parts.AttrDef.{AttrDef}
use Rattle.rw_schema.specs.declared.parts.Equation.{Equation}
use Rattle.rw_schema.specs.declared.signature.ArrowEnds.{ArrowEnds}
use Rattle.rw_schema.specs.declared.signature.AttrEnds.{AttrEnds}
use Rattle.rw_schema.specs.Signature.{Signature}

-- the lists of a schema; the number of an object, arrow, attribute or equation is its place in its list
pub record Presentation : Type 0 where
  pub objects : List (List ℕ)
  pub arrows : List ArrowDef
  pub attributes : List AttrDef
  pub equations : List Equation

abbrev pub ends_of_arrow : ArrowDef → ArrowEnds
ends_of_arrow arrow = record { source = arrow.source; target = arrow.target }

abbrev pub ends_of_attribute : AttrDef → AttrEnds
ends_of_attribute attribute = record { object = attribute.object; kind = attribute.kind }

-- the schema without its names
abbrev pub signature_of : Presentation → Signature
signature_of schema = record {
  objects = length schema.objects;
  arrows = map ends_of_arrow schema.arrows;
  attributes = map ends_of_attribute schema.attributes;
  equations = schema.equations;
}
