-- Each pattern is over the schema.
use Rattle.std.proofs.lemmas.List.{length-map}
use Rattle.rw_schema.specs.Presentation.{ends_of_attribute}
use Rattle.rw_docrule.proofs.sides.read_sides.Goals as goal

pub returns-clause-over : goal.returns-clause-over
returns-clause-over g c = record {
  left = c.in_ok-left.ensures.over;
  keep = c.in_ok-keep.ensures.over;
  right = c.in_ok-right.ensures.over;
  keep_free = c.in_ok-keep.ensures.free;
  right_free = c.in_ok-right.ensures.free;
  attributes = rw (length-map c.args.schema.now.attributes ends_of_attribute) c.in_ok-right.ensures.attributes;
  few = c.in_ok-right.ensures.few;
}
