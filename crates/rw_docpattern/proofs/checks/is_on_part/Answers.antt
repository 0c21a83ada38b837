-- The object is that of the schema's attribute.
use Rattle.std.proofs.Common.{[], refl}
use Rattle.rw_schema.specs.Presentation.{signature_of}
use Rattle.rw_pattern.proofs.Over.{holder_is}
use Rattle.rw_docpattern.specs.Bare.{lists_of}
use Rattle.rw_docpattern.proofs.checks.is_on_part.Goals as goal

pub returns : goal.returns
returns c =
    let lists = lists_of (signature_of c.args.schema.now) c.args.sizes.now [] in
    rw (holder_is c.args.schema.now lists c.args.entry.now.attr.0 c.attr.result.now refl c.attr.ensures.entry, c.size_of.ensures)
