-- The lists of a rule that is read have no fault but that arrows may lead round a cycle.
use Rattle.std.proofs.lemmas.List.Elements.{All-nil}
use Rattle.std.proofs.Common.{◌≡◌, ℕ, Bool, true, false, not, ◌&&◌, ◌||◌, None, Ok, List, length, refl, subst}
use Rattle.rw_schema.specs.Presentation.{Presentation, signature_of}
use Rattle.rw_schema.specs.Signature.{Signature}
use Rattle.rw_terms.specs.OpTables.{OpEntry}
use Rattle.rw_rule.specs.declared.fault.RuleFault.TheVariants.{Unbound, BadTerm}
use Rattle.rw_rule.specs.declared.kind.RuleKind.{RuleKind}
use Rattle.rw_rule.specs.declared.set.SetCell.{SetCell}
use Rattle.rw_rule.specs.Images.{is_injective}
use Rattle.rw_rule.specs.RuleFaults.{AreOver, IsConditionOver, is_map, is_sqpo, rule_fault}
use Rattle.rw_rule.specs.RuleLists.{RuleLists}
use Rattle.rw_rule.specs.Sets.{fits_set, is_closed, value_missing}
use Rattle.rw_doc.proofs.Chains.{chain}
use Rattle.rw_schema.proofs.Firsts.{none_unless}
use Rattle.rw_docpattern.specs.Maps.{read_map}
use Rattle.rw_docpattern.specs.Patterns.{read_bare_pattern, read_pattern}
use Rattle.rw_doc.specs.Pieces.{fault_in}
use Rattle.rw_docpattern.specs.Sets.{read_right}
use Rattle.rw_docrule.specs.Heads.{RuleHead, RuleMembers}
use Rattle.rw_docrule.specs.Known.{AreSidesOver}
use Rattle.rw_docrule.specs.Rules.{Body, Maps, Sides, read_body, read_l, read_maps, read_r, read_sides, rule_piece, rule_with}
use Rattle.rw_doc.proofs.Checked.{passed}
use Rattle.rw_docrule.proofs.ReadMaps.{map_read}
use Rattle.rw_docrule.proofs.RightSets.{AreSets, sets_read}

-- the sets of the right pattern fit
sides_fit : (schema : Presentation) (ops : List OpEntry) (place : ℕ) (members : RuleMembers) (sides : Sides)
    → read_sides schema ops place members ≡ Ok sides → AreSets (signature_of schema) ops sides.left sides.right
sides_fit schema ops place members =
    let P : Sides → Type 0 = λ sides. AreSets (signature_of schema) ops sides.left sides.right in
    chain P (read_pattern schema (rule_piece place 1) members.left) _
    (λ left is_left. chain P (read_bare_pattern schema (rule_piece place 2) members.keep) _
    (λ keep is_keep. chain P (read_right schema ops (rule_piece place 3) left members.right) _
    (λ right is_right sides is. let same : record { left = left; keep = keep; right = right } ≡ sides = cc in
    subst P same (sets_read schema ops (rule_piece place 3) left members.right right is_right))))

-- the images are a map to the left, which is injective but in a sesqui-pushout rule
record IsMapToLeft (C : Signature) (kind : RuleKind) (sides : Sides) (l : List (List ℕ)) : Type 0 where
  map : is_map C sides.keep sides.left.pattern l ≡ true
  apart : (is_sqpo kind || is_injective sides.keep l) ≡ true

-- so are images that are read
l_fits : (schema : Presentation) (place : ℕ) (kind : RuleKind) (sides : Sides) (members : RuleMembers) (l : List (List ℕ))
    → read_l schema place kind sides members ≡ Ok l → IsMapToLeft (signature_of schema) kind sides l
l_fits schema place kind sides members =
    let C : Signature = signature_of schema in
    let P : List (List ℕ) → Type 0 = IsMapToLeft C kind sides in
    chain P (read_map C (rule_piece place 4) sides.keep sides.left.pattern members.l) _
    (λ images read. passed P (fault_in (rule_piece place 4) 12) (is_sqpo kind || is_injective sides.keep images) images
    (λ apart. record { map = (map_read C (rule_piece place 4) sides.keep sides.left.pattern members.l images read).map; apart = apart }))

-- no cycle is known
no_cycle : (sqpo : Bool) → not (sqpo && false) ≡ true
no_cycle true = refl
no_cycle false = refl

-- lists that fit have no fault
lists_sound : (C : Signature) (ops : List OpEntry) (head : RuleHead) (body : Body) → AreSets C ops body.sides.left body.sides.right
    → IsMapToLeft C head.kind body.sides body.maps.l → is_map C body.sides.keep body.sides.right.pattern body.maps.r ≡ true → value_missing C (rule_with head body) ≡ None
    → rule_fault C (length ops) false (rule_with head body) ≡ None
lists_sound C ops head body sets left right given =
    let rule : RuleLists = rule_with head body in
    let sides : Sides = body.sides in
    rw (
      left.map,
      right,
      left.apart,
      no_cycle (is_sqpo head.kind),
      none_unless (λ (set : SetCell). is_closed sides.left.pattern set.term) Unbound 0 sides.right.sets sets.closed,
      none_unless (fits_set C (length ops) rule) BadTerm 0 sides.right.sets sets.fit,
      sets.once,
    ) given

-- the maps of a rule fit its patterns
record AreMaps (C : Signature) (kind : RuleKind) (sides : Sides) (maps : Maps) : Type 0 where
  left : IsMapToLeft C kind sides maps.l
  right : is_map C sides.keep sides.right.pattern maps.r ≡ true

-- so do maps that are read
maps_fit : (schema : Presentation) (place : ℕ) (kind : RuleKind) (sides : Sides) (members : RuleMembers) (maps : Maps)
    → read_maps schema place kind sides members ≡ Ok maps → AreMaps (signature_of schema) kind sides maps
maps_fit schema place kind sides members =
    let C : Signature = signature_of schema in
    let P : Maps → Type 0 = AreMaps C kind sides in
    chain P (read_l schema place kind sides members) _
    (λ l is_l. chain P (read_r schema place sides members) _
    (λ r is_r maps is. let same : record { l = l; r = r } ≡ maps = cc in
    subst P same (record {
      left = l_fits schema place kind sides members l is_l;
      right = (map_read C (rule_piece place 5) sides.keep sides.right.pattern members.r r is_r).map;
    })))

-- the sets and the maps of a rule fit its patterns
record IsFit (C : Signature) (ops : List OpEntry) (kind : RuleKind) (body : Body) : Type 0 where
  sets : AreSets C ops body.sides.left body.sides.right
  maps : AreMaps C kind body.sides body.maps

-- so do those that are read
body_fits : (schema : Presentation) (ops : List OpEntry) (place : ℕ) (kind : RuleKind) (members : RuleMembers) (body : Body)
    → read_body schema ops place kind members ≡ Ok body → IsFit (signature_of schema) ops kind body
body_fits schema ops place kind members =
    let P : Body → Type 0 = IsFit (signature_of schema) ops kind in
    chain P (read_sides schema ops place members) _
    (λ sides are_sides. chain P (read_maps schema place kind sides members) _
    (λ maps are_maps body is. let same : record { sides = sides; maps = maps } ≡ body = cc in
    subst P same (record {
      sets = sides_fit schema ops place members sides are_sides;
      maps = maps_fit schema place kind sides members maps are_maps;
    })))

-- lists that are read have no fault
pub rule_sound : (schema : Presentation) (ops : List OpEntry) (place : ℕ) (members : RuleMembers) (head : RuleHead) (body : Body)
    → read_body schema ops place head.kind members ≡ Ok body → value_missing (signature_of schema) (rule_with head body) ≡ None
    → rule_fault (signature_of schema) (length ops) false (rule_with head body) ≡ None
rule_sound schema ops place members head body is given =
    let fit = body_fits schema ops place head.kind members body is in
    lists_sound (signature_of schema) ops head body fit.sets fit.maps.left fit.maps.right given

-- they are over the schema
pub rule_over : (C : Signature) (head : RuleHead) (body : Body) → AreSidesOver C body.sides → length head.monic ≡ C.objects → AreOver C (rule_with head body)
rule_over C head body sides monic = record {
  goal = record { left = sides.left; monic = monic; conditions = All-nil (IsConditionOver C body.sides.left.kinds) };
  keep = sides.keep;
  right = sides.right;
  keep_free = sides.keep_free;
  right_free = sides.right_free;
  attributes = sides.attributes;
}
