-- The lists that a pattern is built from.
use Rattle.std.specs.Prelude.{map}
use Rattle.rw_schema.specs.Signature.{Signature}
use Rattle.rw_pattern.specs.declared.parts.PatternParts.{PatternParts}
use Rattle.rw_pattern.specs.PatternLists.{PatternLists, holders_in}

abbrev pub lists_of_parts : Signature → PatternParts → PatternLists
lists_of_parts C parts = record {
  sizes = parts.sizes.items;
  rows = map (λ row. row.items) parts.rows.items;
  cells = parts.cells.items;
  holders = holders_in C;
}
