-- All that is read is what was read so far, with what is read of the names that are left.
use Rattle.rw_doc.specs.Schemas as spec
use Rattle.rw_doc.specs.Texts.{text_of}
use Rattle.rw_doc.proofs.Readings.{ReadSo}
use Rattle.rw_doc.proofs.equations.arrows_at.Given as goal

abbrev pub invariant-loop-name : goal.invariant-loop-name
invariant-loop-name l = ReadSo (λ name. spec.arrow_named l.fault l.arrows (text_of name)) l.names l.name-index l.found.items
