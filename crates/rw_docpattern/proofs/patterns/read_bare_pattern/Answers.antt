-- The pattern is that of the draft.
use Rattle.std.proofs.Common.{rules}
use Rattle.serde_json.specs.View.{view}
use Rattle.rw_docpattern.specs.Drafts.{IsSound, draft_seen}
use Rattle.rw_docpattern.specs.Forms.{bare_keys}
use Rattle.rw_docpattern.proofs.DraftTurns.{bare_by_draft}
use Rattle.rw_docpattern.proofs.SoundDrafts.{draft_sound}
use Rattle.rw_docpattern.proofs.patterns.read_bare_pattern.Goals as goal

pub returns-in_err-draft-clause-gives : goal.returns-in_err-draft-clause-gives
returns-in_err-draft-clause-gives c = rw (bare_by_draft c.args.schema.now c.args.piece (view c.args.value.now)) (search rules)

pub returns : goal.returns
returns c =
    let sound : IsSound c.args.schema.now (draft_seen c.in_ok-draft.draft) =
    draft_sound c.args.schema.now c.args.piece bare_keys (view c.args.value.now) (draft_seen c.in_ok-draft.draft) c.in_ok-draft.ensures in
    record {
      gives = rw (bare_by_draft c.args.schema.now c.args.piece (view c.args.value.now)) (search rules);
      over = sound.over;
      free = sound.free;
    }
