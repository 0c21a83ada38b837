-- What is written of an instance, and spans and cospans, as contracts see them.
use Rattle.std.specs.Prelude.{map}
use Rattle.serde_json.specs.View.{view}
use Rattle.rw_docspan.specs.declared.forms.Form.{Form}
use Rattle.rw_docspan.specs.declared.frame.FrameKeys as key_references
use Rattle.rw_docspan.specs.declared.frame.FrameMembers as references
use Rattle.rw_docspan.specs.declared.frame.Instances as instances
use Rattle.rw_docspan.specs.declared.frame.Maps as maps
use Rattle.rw_docspan.specs.declared.span.Span as spans
use Rattle.rw_docspan.specs.declared.cospan.Cospan as cospans
use Rattle.rw_docspan.specs.Frames.{FrameKeys, FrameMembers, ThreeLists}
use Rattle.rw_docspan.specs.Instances.{InstanceForm}
use Rattle.rw_docspan.specs.Spans.{SpanLists, CospanLists, TwoMaps}

abbrev pub form_lists : Form → InstanceForm
form_lists form = record {
  parts = form.parts.items;
  rows = map (λ row. row.items) form.rows.items;
  cells = map (λ list. map view list.now) form.cells.items;
}

abbrev pub keys_of_frame : key_references.FrameKeys → FrameKeys
keys_of_frame keys = record {
  first = keys.first.now;
  second = keys.second.now;
  third = keys.third.now;
  first_map = keys.first_map.now;
  second_map = keys.second_map.now;
}

abbrev pub members_of_frame : references.FrameMembers → FrameMembers
members_of_frame members = record {
  first = view members.first.now;
  second = view members.second.now;
  third = view members.third.now;
  first_map = view members.first_map.now;
  second_map = view members.second_map.now;
}

abbrev pub three_lists : instances.Instances → ThreeLists
three_lists three = record { first = three.first; second = three.second; third = three.third }

abbrev pub two_maps : maps.Maps → TwoMaps
two_maps maps = record { first = maps.first; second = maps.second }

abbrev pub span_lists : spans.Span → SpanLists
span_lists span = record { apex = span.apex; left = span.left; right = span.right; to_left = span.to_left; to_right = span.to_right }

abbrev pub cospan_lists : cospans.Cospan → CospanLists
cospan_lists cospan = record { left = cospan.left; right = cospan.right; base = cospan.base; left_map = cospan.left_map; right_map = cospan.right_map }
