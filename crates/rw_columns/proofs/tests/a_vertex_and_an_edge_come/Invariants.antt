-- The ledger is the blank one.
use Rattle.rw_columns.proofs.tests.a_vertex_and_an_edge_come.Given as goal

abbrev pub ghosts-gain : goal.ghosts-gain
ghosts-gain g a = record { name = a.blank.name; parts = a.blank.parts }

abbrev pub ghosts-is_gained : goal.ghosts-is_gained
ghosts-is_gained g a = record { name = a.blank.name; parts = a.blank.parts }
