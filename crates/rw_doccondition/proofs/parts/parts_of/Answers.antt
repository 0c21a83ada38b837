-- A draft that is read is sound.
use Rattle.std.proofs.Common.{◌≡◌, ◌∙◌, Ok, sym, subst}
use Rattle.rw_doc.specs.Gives.{Gives}
use Rattle.rw_docpattern.specs.Drafts.{draft_of, draft_seen}
use Rattle.rw_docpattern.specs.Views.{form_of}
use Rattle.rw_docpattern.proofs.SoundDrafts.{form_sound}
use Rattle.rw_doccondition.proofs.BothGive.{first_gave}
use Rattle.rw_doccondition.proofs.parts.parts_of.Goals as goal

pub returns-clause-sound : goal.returns-clause-sound
returns-clause-sound c =
    let schema = c.args.schema.now in
    let given : c.draft_of-draft.result ≡ Ok c.in_ok-draft.draft =
    first_gave c.draft_of-draft.result c.both.result c.in_ok-draft.draft (c.in_ok-draft.monic, c.in_ok-draft.images) (sym c.both-2.ensures ∙ c.in_ok-draft.was) in
    form_sound schema c.args.piece (form_of c.args.form.pattern) (draft_seen c.in_ok-draft.draft)
    (subst (λ read. Gives draft_seen read (draft_of schema c.args.piece (form_of c.args.form.pattern))) given c.draft_of-draft.ensures)
