-- The values are there, or the first set without one is told.
use Rattle.std.proofs.Common.{◌≡◌, ◌∙◌, None, ap, filter, is_some, length, sym}
use Rattle.rw_schema.specs.Presentation.{signature_of}
use Rattle.rw_terms.specs.OpEntries.{entries}
use Rattle.rw_terms.specs.OpTables.{codes_of}
use Rattle.rw_redex.specs.SetValues.{no_value, set_values}
use Rattle.rw_glue.proofs.NoValues.{none_missing, told_missing, values_are, values_there}
use Rattle.rw_glue.proofs.set_values.values.Goals as goal

pub returns-in-Some : goal.returns-in-Some
returns-in-Some c = λ c' tuple X same.
    let C = signature_of c'.args.schema.now in
    let codes = codes_of (entries c'.args.ops.now) in
    let found : c'.in_ok-found.found.items ≡ set_values codes c'.args.rule.now tuple X =
    values_are codes c'.args.rule.now tuple X c'.args.valuation.now c'.in_ok-found.found.items same c'.in_ok-found.ensures in
    told_missing C codes c'.args.rule.now tuple X c'.first_without_value-missing.result c'.in-Some.right_part c'.in-Some.attr
    (c'.first_without_value-missing.ensures codes tuple X (c'.as_slice.ensures.value ∙ found)) (sym c'.set_in.ensures ∙ c'.in-Some.is)

pub returns : goal.returns
returns c = λ c' tuple X same.
    let C = signature_of c'.args.schema.now in
    let codes = codes_of (entries c'.args.ops.now) in
    let found : c'.in_ok-found.found.items ≡ set_values codes c'.args.rule.now tuple X =
    values_are codes c'.args.rule.now tuple X c'.args.valuation.now c'.in_ok-found.found.items same c'.in_ok-found.ensures in
    let none : no_value C codes c'.args.rule.now tuple X ≡ None =
    none_missing C codes c'.args.rule.now tuple X c'.first_without_value-missing.result
    (c'.first_without_value-missing.ensures codes tuple X (c'.as_slice.ensures.value ∙ found)) (sym c'.set_in.ensures ∙ c'.in_default.is) in (
      sym (c'.in_ok-present.ensures ∙ ap (filter is_some) (c'.as_slice-2.ensures.value ∙ found)
          ∙ values_there C (length (entries c'.args.ops.now)) codes c'.args.rule.now tuple X c'.requires.rule none),
      none,
    )
