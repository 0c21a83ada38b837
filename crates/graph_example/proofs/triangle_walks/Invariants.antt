-- The ledger is the blank one.
use Rattle.graph_example.proofs.triangle_walks.Given as goal

abbrev pub ghosts-counted_walks : goal.ghosts-counted_walks
ghosts-counted_walks a = record { name = a.blank.name; parts = a.blank.parts }
