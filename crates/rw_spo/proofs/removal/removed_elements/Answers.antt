-- First what the rule removes goes, and then whatever goes with it.
use Rattle.std.proofs.Common.{◌<◌, List, length, refl, sym, subst}
use Rattle.std.proofs.lemmas.Option.{slice_get_read}
use Rattle.rw_schema.specs.Signature.{Signature}
use Rattle.rw_pattern.specs.PatternLists.{size_of}
use Rattle.rw_spo.specs.PairContexts.{applied}
use Rattle.rw_spo.specs.declared.element.Element.{Element}
use Rattle.rw_spo.specs.inner.Removal.{Grows, deleted, overwritten}
use Rattle.rw_spo.proofs.Growth.{grown_below, grows_more, none_go}
use Rattle.rw_spo.proofs.removal.removed_elements.Goals as goal

pub spread-requires-clause-sound : goal.spread-requires-clause-sound
spread-requires-clause-sound g c =
    c.in_ok-mark_overwritten.ensures.grows.sound (c.in_ok-mark_deleted.ensures.grows.sound (none_go (g.P.Probe.signature c.args.probe.now)
    (applied c.args.rule.now c.args.tuple.now (g.P.Probe.instance c.args.probe.now)) c.new-removed.result c.new-removed.ensures))

pub returns : goal.returns
returns g c =
    let C : Signature = g.P.Probe.signature c.args.probe.now in
    let rule = c.args.rule.now in
    let tuple = c.args.tuple.now in
    let S = applied rule tuple (g.P.Probe.instance c.args.probe.now) in
    let first : List Element = c.mark_deleted.new.removed in
    let second : List Element = c.mark_overwritten.new.removed in
    let all : List Element = c.spread.new.removed in
    let spreads : Grows C S second all = c.in_ok-spread.ensures.grows in
    record {
      sound = spreads.sound (c.in_ok-mark_overwritten.ensures.grows.sound (c.in_ok-mark_deleted.ensures.grows.sound (none_go C S c.new-removed.result c.new-removed.ensures)));
      deleted = λ object known.
          let below : object < c.objects.result = rw c.objects.ensures.value (subst (λ (C : Signature). object < C.objects) c.requires.probe known) in
          grown_below C S first all (size_of rule.goal.left object) (deleted rule tuple object)
          (grows_more C S first second all c.in_ok-mark_overwritten.ensures.grows spreads) (c.in_ok-mark_deleted.ensures.deleted object below);
      overwritten = λ attribute ends there.
          grown_below C S second all (size_of rule.keep ends.object.0) (overwritten rule tuple attribute ends.object.0) spreads (c.in_ok-mark_overwritten.ensures.overwritten attribute ends there);
      followed = λ element there. c.in_ok-spread.ensures.followed there.0 element there.1 (slice_get_read all (length all) there.0 element refl there.1 (sym there.2));
    }
