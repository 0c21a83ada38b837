-- What is known of the gluing of two instances, in one place.
use Rattle.rw_schema.specs.RowLists.{list_at}
use Rattle.rw_glued.specs.OneGluing.{GluedAreDoublePushouts, HaveOneGluing}
use Rattle.rw_glued.proofs.Clash.{cocone_has_one_atom}
use Rattle.rw_glued.proofs.Clashes.{clashes_from_classes, no_cocone_at_clash}
use Rattle.rw_glued.proofs.DoublePushout.{glued_is_double_pushout}
use Rattle.rw_glued.proofs.OnlyClash as only
use Rattle.rw_glued.proofs.Result.{glued_is_initial, glued_is_named}

-- the classes of a frame's parts decide what is glued of it
pub one_gluing : HaveOneGluing
one_gluing C category F frame next numbers firsts joined = record {
  pushout = glued_is_initial C category F frame.left frame.right frame.apex frame.to_left frame.to_right next (list_at numbers) (list_at firsts) joined;
  named = glued_is_named C category F frame.left frame.right frame.apex frame.to_left frame.to_right next (list_at numbers) (list_at firsts) joined;
  one_atom = cocone_has_one_atom C category F frame.to_left frame.to_right (list_at numbers) (list_at firsts) joined.classes;
  clash = clashes_from_classes C category F frame.left frame.right frame.apex frame.to_left frame.to_right next numbers firsts joined;
  none_at_clash = no_cocone_at_clash C category F next;
  only_clash = only.only_clash C category F frame.left frame.right frame.to_left next;
}

-- the classes of the context and a right side, under their names, are the double pushout
pub double_pushouts : GluedAreDoublePushouts
double_pushouts C category R right r next numbers firsts known one =
    glued_is_double_pushout C category R known.redex known.condition right known.instance r known.natural next known.host_ascends known.right_ascends known.below
    (list_at numbers) (list_at firsts) known.classes one
