-- The laws are facts about lists.
use Rattle.rw_schema.specs.Presentation.{signature_of}
use Rattle.rw_pattern.proofs.MatchesAscend.{matches_ascend}
use Rattle.rw_pattern.proofs.Naturality.{matches_natural}
use Rattle.rw_pattern.proofs.Shapes.{is_pattern}
use Rattle.rw_pattern.proofs.Valuations.{values_read}
use Rattle.rw_pattern.proofs.laws.matches_are_maps.Goals as goal

pub returns-clause-matches : goal.returns-clause-matches
returns-clause-matches c = matches_natural (signature_of c.args.schema.now) c.args.pattern.now c.args.monic.now c.requires

pub returns-clause-values : goal.returns-clause-values
returns-clause-values c = values_read c.args.pattern.now

pub returns-clause-ascend : goal.returns-clause-ascend
returns-clause-ascend c = matches_ascend (signature_of c.args.schema.now) c.args.pattern.now c.args.monic.now (is_pattern (signature_of c.args.schema.now) c.args.pattern.now c.requires)
