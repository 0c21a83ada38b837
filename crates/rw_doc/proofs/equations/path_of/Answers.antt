-- The names are the texts that the values are.
use Rattle.std.proofs.Common.{rules, ◌≡◌, ◌∙◌, Ok, map}
use Rattle.serde_json.specs.View.{view}
use Rattle.rw_doc.specs.Schemas as spec
use Rattle.rw_doc.specs.Texts.{text_of}
use Rattle.rw_doc.proofs.Chains.{each_mapped}
use Rattle.rw_doc.proofs.Named.{path_known}
use Rattle.rw_doc.proofs.equations.path_of.Goals as goal

pub returns-in_err-found-clause-gives : goal.returns-in_err-found-clause-gives
returns-in_err-found-clause-gives c =
    rw (each_mapped (λ place. spec.arrow_named c.args.fault c.args.arrows.now) text_of 0 (map view c.args.names.now)) (search rules)

pub returns-clause-gives : goal.returns-clause-gives
returns-clause-gives c =
    rw (each_mapped (λ place. spec.arrow_named c.args.fault c.args.arrows.now) text_of 0 (map view c.args.names.now), c.of.ensures) c.in_ok-found.ensures

pub returns-clause-known : goal.returns-clause-known
returns-clause-known c =
    let names = map text_of (map view c.args.names.now) in
    let named : spec.path_named c.args.fault c.args.arrows.now names ≡ Ok c.in_ok-found.found.items =
    each_mapped (λ place. spec.arrow_named c.args.fault c.args.arrows.now) text_of 0 (map view c.args.names.now) ∙ c.in_ok-found.ensures in
    rw c.of.ensures (path_known c.args.fault c.args.arrows.now names c.in_ok-found.found.items named)
