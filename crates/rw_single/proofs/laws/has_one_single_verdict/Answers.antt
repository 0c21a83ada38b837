-- The law is a fact about a rule over the schema's signature.
use Rattle.std.proofs.Common.{List}
use Rattle.std.proofs.lemmas.List.{length-map}
use Rattle.rw_schema.specs.Presentation.{signature_of}
use Rattle.rw_terms.specs.OpEntries.{entries}
use Rattle.rw_terms.specs.OpTables.{OpEntry, codes_of}
use Rattle.rw_single.proofs.OneVerdict.{one_single_verdict}
use Rattle.rw_single.proofs.laws.has_one_single_verdict.Goals as goal

pub returns : goal.returns
returns g c =
    let ops : List OpEntry = entries c.args.ops.now in
    one_single_verdict (signature_of c.args.schema.now) c.arrow_list-arrows.ensures.category (codes_of ops) c.args.rule.now
    (rw (length-map ops (λ (op : OpEntry). op.code)) c.requires.rule) c.requires.kind
