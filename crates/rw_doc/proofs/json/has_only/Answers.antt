-- The keys of an object are those of its members.
use Rattle.std.proofs.Common.{◌∙◌, sym}
use Rattle.rw_doc.proofs.Readings.{keys_among}
use Rattle.rw_doc.proofs.json.has_only.Goals as goal

pub returns-in-Some : goal.returns-in-Some
returns-in-Some c = rw (← c.in-Some.ensures) (c.are_among.ensures ∙ sym (keys_among c.args.allowed.now c.in-Some.members.now.entries))
