-- The draft is made of the entries, by what is found out of the lists.
use Rattle.std.proofs.Common.{rules, map}
use Rattle.rw_docpattern.proofs.DraftSteps.{draft_is}
use Rattle.rw_docpattern.proofs.draft.draft_of.Goals as goal

pub returns-in_err-entries : goal.returns-in_err-entries
returns-in_err-entries c =
    let made = draft_is c.args.schema.now c.args.piece c.args.form.sizes.items (map (λ row. row.items) c.args.form.rows.items) c.args.form.entries.items
    c.in_ok-bare.bare c.in_ok-bare.ensures in
    rw made (search rules)

pub returns-in-Some : goal.returns-in-Some
returns-in-Some c =
    let made = draft_is c.args.schema.now c.args.piece c.args.form.sizes.items (map (λ row. row.items) c.args.form.rows.items) c.args.form.entries.items
    c.in_ok-bare.bare c.in_ok-bare.ensures in
    rw made (search rules)
