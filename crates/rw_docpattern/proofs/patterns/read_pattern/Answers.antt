-- The pattern is made of the draft.
use Rattle.std.proofs.Common.{rules}
use Rattle.serde_json.specs.View.{view}
use Rattle.rw_docpattern.specs.Drafts.{draft_seen}
use Rattle.rw_docpattern.specs.Forms.{pattern_keys}
use Rattle.rw_docpattern.proofs.DraftTurns.{pattern_by_draft}
use Rattle.rw_docpattern.proofs.SoundDrafts.{draft_sound}
use Rattle.rw_docpattern.proofs.patterns.read_pattern.Goals as goal

pub with_entries-requires : goal.with_entries-requires
with_entries-requires c =
    draft_sound c.args.schema.now c.args.piece pattern_keys (view c.args.value.now) (draft_seen c.in_ok-draft.draft) c.in_ok-draft.ensures

pub returns-in_err-draft-clause-gives : goal.returns-in_err-draft-clause-gives
returns-in_err-draft-clause-gives c = rw (pattern_by_draft c.args.schema.now c.args.piece (view c.args.value.now)) (search rules)

pub returns-clause-gives : goal.returns-clause-gives
returns-clause-gives c = rw (pattern_by_draft c.args.schema.now c.args.piece (view c.args.value.now)) (search rules)
