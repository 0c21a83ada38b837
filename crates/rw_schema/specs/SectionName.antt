-- The printed names of a document's sections.
use Rattle.std.specs.Prelude.{ℕ, List, codes}
use Rattle.rw_schema.specs.declared.section.Section.{Section}
use Rattle.rw_schema.specs.declared.section.Section.TheVariants.{Whole, Schema, Objects, Arrows, Attributes, Equations, Instance, Parts, Rows, Cells, Equation, Rules, Watches, Nested, Boxes, Span, Cospan, Observers}

-- the name that a fault line prints for a section
abbrev pub name_of_section : Section → List ℕ
name_of_section Whole = codes "whole"
name_of_section Schema = codes "schema"
name_of_section Objects = codes "objects"
name_of_section Arrows = codes "arrows"
name_of_section Attributes = codes "attributes"
name_of_section Equations = codes "equations"
name_of_section Instance = codes "instance"
name_of_section Parts = codes "parts"
name_of_section Rows = codes "rows"
name_of_section Cells = codes "cells"
name_of_section Equation = codes "equation"
name_of_section Rules = codes "rules"
name_of_section Watches = codes "watches"
name_of_section Nested = codes "nested"
name_of_section Boxes = codes "boxes"
name_of_section Span = codes "span"
name_of_section Cospan = codes "cospan"
name_of_section Observers = codes "observers"
