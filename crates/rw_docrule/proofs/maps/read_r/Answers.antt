-- The images are as many as the objects.
use Rattle.serde_json.specs.View.{view}
use Rattle.rw_schema.specs.Presentation.{signature_of}
use Rattle.rw_docrule.proofs.ReadMaps.{long_read}
use Rattle.rw_docrule.proofs.maps.read_r.Goals as goal

pub returns-clause-long : goal.returns-clause-long
returns-clause-long c =
    long_read (signature_of c.args.schema.now) c.rule_piece.result c.args.sides.now.keep c.args.sides.now.right.pattern (view c.args.members.now.r.now) c.read_map.result c.read_map.ensures
