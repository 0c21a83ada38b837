-- What a build answers says which conditions hold.
use Rattle.std.proofs.Common.{map, refl}
use Rattle.rw_schema.specs.Presentation.{signature_of}
use Rattle.rw_docpattern.proofs.BareFaults.{misshapen, too_many, astray}
use Rattle.rw_docpattern.proofs.bare.bare_of.Goals as goal

pub returns-in-Err-Shape : goal.returns-in-Err-Shape
returns-in-Err-Shape c =
    let rows = map (λ row. row.items) c.args.rows.items in
    rw c.refused.ensures (
      refl,
      misshapen (signature_of c.args.schema.now) c.args.sizes.items rows
          (rw (c.in-Err-Shape.field-0-is, c.new-cells.ensures.items) at c.in-Err-Shape.ensures.built),
    )

pub returns-in-Err-Limit : goal.returns-in-Err-Limit
returns-in-Err-Limit c =
    too_many (signature_of c.args.schema.now) c.args.sizes.items (map (λ row. row.items) c.args.rows.items)
    (rw (c.in-Err-Limit.field-0-is, c.new-cells.ensures.items) at c.in-Err-Limit.ensures.built)

pub returns-in-Err-Range : goal.returns-in-Err-Range
returns-in-Err-Range c =
    astray (signature_of c.args.schema.now) c.args.sizes.items (map (λ row. row.items) c.args.rows.items)
    (rw (c.in-Err-Range.field-0-is, c.new-cells.ensures.items) at c.in-Err-Range.ensures.built)
