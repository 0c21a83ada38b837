-- Without a rule the first box is the exit.
use Rattle.std.proofs.Common.{◌≡◌, ◌∙◌, [], None, ap, sym, refl, slice_get}
use Rattle.std.specs.Option.{option_copied}
use Rattle.rw_terms.specs.OpEntries.{entries}
use Rattle.rw_terms.specs.OpTables.{codes_of}
use Rattle.rw_document.specs.Models.{document_lists}
use Rattle.rw_app.proofs.Leading.{none_first, run_without_rules}
use Rattle.rw_app.specs.Runners.{at_first, rows_in}
use Rattle.rw_app.proofs.runner.run_schedule.Goals as goal

pub returns-in-None : goal.returns-in-None
returns-in-None g c =
    let document = document_lists c.args.document.now in
    let codes = codes_of (entries c.args.ops.now) in
    let none : slice_get c.args.document.now.rules.items 0 ≡ None = rw c.deref.ensures.value at (sym c.first.ensures.value ∙ ap option_copied c.in-None.is) in (
      [],
      (
        at_first c.args.fuel (rows_in c.args.world.now),
        run_without_rules codes document c.args.fuel _ c.args.world.now (none_first c.args.document.now.rules.items none) c.new.ensures.items refl refl c.requires.start,
      ),
    )
