-- Right patterns, by their drafts.
use Rattle.std.specs.Prelude.{List, Result, Ok}
use Rattle.rw_schema.specs.Presentation.{Presentation, signature_of}
use Rattle.rw_pattern.specs.PatternLists.{PatternLists}
use Rattle.rw_terms.specs.OpTables.{OpEntry}
use Rattle.rw_doc.specs.declared.fault.DocFault.{DocFault}
use Rattle.rw_doc.specs.Chain.{checked}
use Rattle.rw_docpattern.specs.declared.entry.Entry.{Entry}
use Rattle.rw_doc.specs.declared.piece.Piece.{Piece}
use Rattle.rw_docpattern.specs.Patterns.{PatternRead}
use Rattle.rw_doc.specs.Pieces.{fault_in}
use Rattle.rw_docpattern.specs.Sets.{RightRead, are_sets, sets_of}

-- the pattern, and the entries as sets
abbrev pub right_with : Presentation → List OpEntry → Piece → PatternRead → PatternLists → List Entry → Result RightRead DocFault
right_with schema ops piece left bare entries =
    checked (fault_in piece 14) (are_sets (signature_of schema) ops left (sets_of ops left.variables entries))
    (Ok (record { pattern = bare; sets = sets_of ops left.variables entries }))
