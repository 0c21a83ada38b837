-- What is read of rules, as contracts see it.
use Rattle.rw_rule.specs.RuleParts.{rule_of_parts}
use Rattle.rw_docpattern.specs.Reads.{pattern_read, right_read}
use Rattle.rw_docrule.specs.declared.heads.HeadForm as forms
use Rattle.rw_docrule.specs.declared.heads.RuleHead as heads
use Rattle.rw_docrule.specs.declared.maps.Maps as maps
use Rattle.rw_docrule.specs.declared.pieces.Body as bodies
use Rattle.rw_docrule.specs.declared.pieces.RuleRead as rules
use Rattle.rw_docrule.specs.declared.sides.Sides as sides
use Rattle.rw_docrule.specs.Heads.{HeadForm, RuleHead}
use Rattle.rw_docrule.specs.Rules.{Body, Maps, RuleRead, Sides}

abbrev pub form_of_rule : forms.HeadForm → HeadForm
form_of_rule form = record { name = form.name; kind = form.kind; monic = form.monic.items; conditions = form.conditions }

abbrev pub head_of_rule : heads.RuleHead → RuleHead
head_of_rule head = record { name = head.name; kind = head.kind; monic = head.monic.items }

abbrev pub sides_read : sides.Sides → Sides
sides_read read = record { left = pattern_read read.left; keep = read.keep; right = right_read read.right }

abbrev pub maps_read : maps.Maps → Maps
maps_read maps = record { l = maps.l; r = maps.r }

abbrev pub body_read : bodies.Body → Body
body_read body = record { sides = sides_read body.sides; maps = maps_read body.maps }

abbrev pub rule_read : rules.RuleRead → RuleRead
rule_read read = record { rule = rule_of_parts read.parts; has_conditions = read.has_conditions }
