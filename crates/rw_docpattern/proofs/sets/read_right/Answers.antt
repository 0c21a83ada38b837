-- The right pattern is made of the draft.
use Rattle.std.proofs.Common.{rules}
use Rattle.serde_json.specs.View.{view}
use Rattle.rw_terms.specs.OpEntries.{entries}
use Rattle.rw_docpattern.specs.Drafts.{draft_seen}
use Rattle.rw_docpattern.specs.Forms.{pattern_keys}
use Rattle.rw_docpattern.specs.Reads.{pattern_read}
use Rattle.rw_docpattern.proofs.DraftTurns.{right_by_draft}
use Rattle.rw_docpattern.proofs.SoundDrafts.{draft_sound}
use Rattle.rw_docpattern.proofs.sets.read_right.Goals as goal

pub with_sets-requires-clause-sound : goal.with_sets-requires-clause-sound
with_sets-requires-clause-sound g c =
    draft_sound c.args.schema.now c.args.piece pattern_keys (view c.args.value.now) (draft_seen c.in_ok-draft.draft) c.in_ok-draft.ensures

pub returns-in_err-draft-clause-gives : goal.returns-in_err-draft-clause-gives
returns-in_err-draft-clause-gives g c =
    rw (right_by_draft c.args.schema.now (entries c.args.ops.now) c.args.piece (pattern_read c.args.left.now) (view c.args.value.now)) (search rules)

pub returns-clause-gives : goal.returns-clause-gives
returns-clause-gives g c =
    rw (right_by_draft c.args.schema.now (entries c.args.ops.now) c.args.piece (pattern_read c.args.left.now) (view c.args.value.now)) (search rules)
