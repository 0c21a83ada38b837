-- A reading of a rule tells its first fault.
use Rattle.std.proofs.Common.{◌≡◌, ◌∙◌, ◌⊎◌, ◌&&◌, ◌||◌, inl, inr, ◌<◌, ◌≤◌, ℕ, Bool, true, false, not, nat_le, is_none, IsSomeAnd, IsOkAnd, Option, Some, None, Result, Ok, Err, List, refl, sym, subst, arith, zero-add}
use Rattle.std.specs.List.{list_any}
use Rattle.std.specs.Str.{bytes_eq}
use Rattle.std.proofs.lemmas.Bool.{leb-false, leb-true}
use Rattle.serde_json.specs.Data.{Data}
use Rattle.rw_schema.specs.declared.section.Section.TheVariants as sections
use Rattle.rw_schema.specs.Presentation.{Presentation, signature_of}
use Rattle.rw_schema.specs.SchemaFaults.{is_name}
use Rattle.rw_schema.specs.Signature.{Signature}
use Rattle.rw_schema.specs.First.{fault_unless, first_in}
use Rattle.rw_schema.proofs.Firsts.{none_at, passed_unless}
use Rattle.rw_terms.specs.OpTables.{OpEntry}
use Rattle.rw_rule.specs.declared.fault.RuleFault.{RuleFault}
use Rattle.rw_rule.specs.declared.fault.RuleFault.TheVariants.{NoValueGiven}
use Rattle.rw_rule.specs.declared.kind.RuleKind.{RuleKind}
use Rattle.rw_rule.specs.Images.{is_image, is_injective, parts_of}
use Rattle.rw_rule.specs.RuleFaults.{is_sqpo}
use Rattle.rw_rule.specs.RuleLists.{RuleLists}
use Rattle.rw_rule.specs.Sets.{is_given, is_set, part_without, value_missing}
use Rattle.rw_doc.specs.declared.fault.DocFault.{DocFault}
use Rattle.rw_doc.specs.declared.piece.Piece.{Piece}
use Rattle.rw_doc.specs.Chain.{and_then, checked, some_or}
use Rattle.rw_doc.specs.Entries.{no_code}
use Rattle.rw_doc.specs.Numbers.{as_number_lists}
use Rattle.rw_doc.specs.Pieces.{fault_in}
use Rattle.rw_doc.proofs.Chains.{chain, checked_then, there}
use Rattle.rw_docpattern.specs.Codes.{TellsLeast, row}
use Rattle.rw_docpattern.specs.MapCodes.{MonicHas}
use Rattle.rw_docpattern.specs.Objects.{read_monic}
use Rattle.rw_docpattern.specs.PatternCodes.{BareHas, PatternHas, RightHas}
use Rattle.rw_docpattern.specs.Patterns.{read_bare_pattern, read_pattern}
use Rattle.rw_docpattern.specs.PieceCodes.{TellsFirstPiece, no_piece, piece_row}
use Rattle.rw_docpattern.specs.Sets.{RightRead, read_right}
use Rattle.rw_docpattern.proofs.Codes.{IsFrom, from_none, from_row, here, past, tells_checked, tells_none}
use Rattle.rw_docpattern.proofs.MapCodes.{found_at, failed_unless, map_then}
use Rattle.rw_docpattern.proofs.NamedCodes.{named_tells}
use Rattle.rw_docpattern.proofs.PatternCodes.{bare_tells, pattern_tells, right_tells}
use Rattle.rw_docpattern.proofs.PieceCodes.{IsFromPiece, from_no_piece, from_piece, in_turn, piece_last, piece_then}
use Rattle.rw_docrule.specs.Heads.{HeadForm, RuleHead, RuleMembers, head_form, read_rule_head, rule_members}
use Rattle.rw_docrule.specs.RuleCodes.{FirstRuleFault, HeadFormHas, HeadHas, IsNotApart, LacksValue, LeftMapHas, PiecesHave, RightMapHas, RuleHas}
use Rattle.rw_docrule.specs.Rules.{Body, RuleRead, Sides, read_body, read_l, read_maps, read_pieces, read_r, read_rule_where, read_sides, rule_piece, rule_with, with_values}

-- ---- what is told of what comes after, or of what is known

-- readings within readings are readings one after the other
least_in_turn : {A B C : Type 0} (piece : Piece) (Has : ℕ → Type 0) (first : Result A DocFault) (second : A → Result B DocFault) (third : B → Result C DocFault)
    → TellsLeast piece Has (and_then first (λ x. and_then (second x) third)) → TellsLeast piece Has (and_then (and_then first second) third)
least_in_turn piece Has (Ok x) second third told = told
least_in_turn piece Has (Err fault) second third told = told

-- a table of what was read is that of what is known
known_ok : {A B : Type 0} (piece : Piece) (found : Result A DocFault) (x : A) (Has : A → ℕ → Type 0) (reading : Result B DocFault) → found ≡ Ok x
    → TellsLeast piece (Has x) reading → TellsLeast piece (λ code. IsOkAnd found (λ x. Has x code)) reading
known_ok piece (Ok y) x Has reading is told = let same : y ≡ x = cc in subst (λ x. TellsLeast piece (Has x) reading) (sym same) told
known_ok piece (Err fault) x Has reading is told = cc

-- the same of what is there
known_some : {A B : Type 0} (piece : Piece) (found : Option A) (x : A) (Has : A → ℕ → Type 0) (reading : Result B DocFault) → found ≡ Some x
    → TellsLeast piece (Has x) reading → TellsLeast piece (λ code. IsSomeAnd found (λ x. Has x code)) reading
known_some piece (Some y) x Has reading is told = let same : y ≡ x = cc in subst (λ x. TellsLeast piece (Has x) reading) (sym same) told
known_some piece None x Has reading is told = cc

-- ---- piece 0

-- a name or a number of conditions that is past its limits
limit_fails : (form : HeadForm) → (is_name form.name && nat_le form.conditions 16) ≡ false → (is_name form.name ≡ false) ⊎ (16 < form.conditions)
limit_fails form fails = of_name (is_name form.name) refl
  where
    of_name : (name : Bool) → is_name form.name ≡ name → (is_name form.name ≡ false) ⊎ (16 < form.conditions)
    of_name false is = inl is
    of_name true is = inr (leb-false form.conditions 16 (rw is at fails))

-- names and numbers of conditions within the limits
limit_passes : (form : HeadForm) → (is_name form.name && nat_le form.conditions 16) ≡ true → (is_name form.name ≡ false) ⊎ (16 < form.conditions) → ⊥
limit_passes form passes past = of_name (is_name form.name) refl past
  where
    of_name : (name : Bool) → is_name form.name ≡ name → (is_name form.name ≡ false) ⊎ (16 < form.conditions) → ⊥
    of_name false is past = let never : false ≡ true = rw is at passes in cc
    of_name true is (inl bad) = let never : true ≡ false = sym is ∙ bad in cc
    of_name true is (inr many) = let few : form.conditions ≤ 16 = leb-true form.conditions 16 (rw is at passes) in omega arith

-- the form of a piece that is read
pub record HasForm (members : RuleMembers) (head : RuleHead) : Type 0 where
  pub form : HeadForm
  pub is_form : head_form members ≡ Some form
  pub same_kind : head.kind ≡ form.kind
  pub same_name : head.name ≡ form.name

-- so it is read
pub head_is : (objects taken : List (List ℕ)) (piece : Piece) (members : RuleMembers) (head : RuleHead) → read_rule_head objects taken piece members ≡ Ok head → HasForm members head
head_is objects taken piece members =
    let P : RuleHead → Type 0 = HasForm members in
    chain P (some_or (fault_in piece 2) (head_form members)) _
    (λ form is_there. checked_then P (fault_in piece 4) (is_name form.name && nat_le form.conditions 16) _
    (λ within. checked_then P (fault_in piece 5) (not (list_any (bytes_eq form.name) taken)) _
    (λ new. chain P (read_monic objects piece form.monic) _
    (λ monic is_monic head is.
    let same : record { name = form.name; kind = form.kind; monic = monic } ≡ head = cc in
    subst P same (record { form = form; is_form = there (fault_in piece 2) (head_form members) form is_there; same_kind = refl; same_name = refl })))))

-- no row of a map's table is below 11
above_12 : (Condition : Type 0) → IsFrom 11 (row 12 Condition no_code)
above_12 Condition other less (inl has) = let same : other ≡ 12 = has.0 in omega arith
above_12 Condition other less (inr has) = has

above_14 : (Condition : Type 0) → IsFrom 11 (row 14 Condition no_code)
above_14 Condition other less (inl has) = let same : other ≡ 14 = has.0 in omega arith
above_14 Condition other less (inr has) = has

-- ---- piece 5

-- where a value is missing, it is one
value_found : (C : Signature) (rule : RuleLists) (right : RightRead) → rule.right ≡ right.pattern → rule.sets ≡ right.sets → (found : Option RuleFault) → value_missing C rule ≡ found
    → is_none found ≡ false → LacksValue C right rule.r
value_found C rule right same_right same_sets None is fails = cc
value_found C rule right same_right same_sets (Some fault) is fails =
    let outer = found_at (part_without rule) 0 C.attributes fault is in
    let attribute : ℕ = outer.place in
    let here : part_without rule attribute outer.item ≡ Some fault = subst (λ (place : ℕ). part_without rule place outer.item ≡ Some fault) (zero-add attribute) outer.is in
    let object : ℕ = outer.item.object.0 in
    let f : ℕ → ℕ → Option RuleFault = λ place part. fault_unless (is_given rule attribute object part) (NoValueGiven (record { 0 = attribute }) part) in
    let inner = found_at f 0 (parts_of rule.right object) fault here in
    let failed = failed_unless (is_given rule attribute object inner.item) (NoValueGiven (record { 0 = attribute }) inner.item) fault inner.is in
    (attribute, outer.item, inner.place, inner.item, outer.there, rw (← same_right) inner.there, rw (← same_sets) failed.0)

-- where none is missing, none is
value_passes : (C : Signature) (rule : RuleLists) (right : RightRead) → rule.right ≡ right.pattern → rule.sets ≡ right.sets → (found : Option RuleFault) → value_missing C rule ≡ found
    → is_none found ≡ true → LacksValue C right rule.r → ⊥
value_passes C rule right same_right same_sets (Some fault) is passes lacks = cc
value_passes C rule right same_right same_sets None is passes lacks =
    let attribute : ℕ = lacks.0 in
    let object : ℕ = lacks.1.object.0 in
    let part : ℕ = lacks.3 in
    let f : ℕ → ℕ → Option RuleFault = λ place part. fault_unless (is_given rule attribute object part) (NoValueGiven (record { 0 = attribute }) part) in
    let inner : first_in f 0 (parts_of rule.right object) ≡ None = none_at (part_without rule) C.attributes attribute lacks.1 is lacks.4 in
    let given : is_given rule attribute object part ≡ true =
    passed_unless (is_given rule attribute object part) (NoValueGiven (record { 0 = attribute }) part)
    (none_at f (parts_of rule.right object) lacks.2 part inner (rw same_right lacks.5)) in
    let missing : (is_image rule.r object part || is_set rule.sets attribute part) ≡ false = rw same_sets lacks.6 in
    let never : true ≡ false = sym given ∙ missing in
    cc

-- the names that are taken are these
module _ (schema : Presentation) (ops : List OpEntry) (taken : List (List ℕ)) (IsTaken : List ℕ → Type 0)
    (is_taken : (name : List ℕ) → list_any (bytes_eq name) taken ≡ true → IsTaken name) (was_taken : (name : List ℕ) → IsTaken name → list_any (bytes_eq name) taken ≡ true) (place : ℕ) where
  -- a rule's own piece, by its form
  form_tells : (piece : Piece) (found : Option HeadForm) → TellsLeast {A = RuleHead} piece (HeadFormHas schema.objects IsTaken found) (and_then (some_or (fault_in piece 2) found) (λ form.
      checked (fault_in piece 4) (is_name form.name && nat_le form.conditions 16)
      (checked (fault_in piece 5) (not (list_any (bytes_eq form.name) taken))
      (and_then (read_monic schema.objects piece form.monic) (λ monic. Ok (record { name = form.name; kind = form.kind; monic = monic }))))))
  form_tells piece None = here piece 2 4 (None ≡ None) (row 4 ⊥ (row 5 ⊥ (λ code. ⊥))) (omega arith) (from_row 4 5 ⊥ (row 5 ⊥ (λ code. ⊥)) (omega arith)
      (from_row 5 5 ⊥ (λ code. ⊥) (omega arith) (λ other less has. has))) refl
  form_tells piece (Some form) =
      let Past : Type 0 = (is_name form.name ≡ false) ⊎ (16 < form.conditions) in
      past piece 2 (Some form ≡ None) (row 4 Past (row 5 (IsTaken form.name) (MonicHas schema.objects form.monic))) _ (λ none. cc)
      (named_tells piece schema.objects taken IsTaken is_taken was_taken form.name form.monic (λ monic. record { name = form.name; kind = form.kind; monic = monic })
      (is_name form.name && nat_le form.conditions 16) Past (limit_fails form) (limit_passes form))

  -- the map to the right, and then the values of new parts
  right_map_tells : (members : RuleMembers) (sides : Sides) (head : RuleHead) (l : List (List ℕ))
      → TellsLeast (rule_piece place 5) (RightMapHas (signature_of schema) sides members.r) (and_then (read_r schema place sides members)
      (λ r. with_values schema place members (rule_with head (record { sides = sides; maps = record { l = l; r = r } }))))
  right_map_tells members sides head l =
      let C : Signature = signature_of schema in
      let Lacks : Type 0 = IsSomeAnd (as_number_lists members.r) (LacksValue C sides.right) in
      let rule : List (List ℕ) → RuleLists = λ r. rule_with head (record { sides = sides; maps = record { l = l; r = r } }) in
      map_then C (rule_piece place 5) sides.keep sides.right.pattern (row 14 Lacks no_code) (λ r. with_values schema place members (rule r)) (above_14 Lacks) members.r
      (λ r is. tells_checked (rule_piece place 5) 14 14 Lacks no_code (is_none (value_missing C (rule r))) _ (omega arith) (from_none 14)
      (λ fails. rw is (value_found C (rule r) sides.right refl refl (value_missing C (rule r)) refl fails))
      (λ passes lacks. value_passes C (rule r) sides.right refl refl (value_missing C (rule r)) refl passes (rw is at lacks))
      (λ passes code has. has))

  -- the map to the left
  left_map_tells : (members : RuleMembers) (sides : Sides) (kind : RuleKind)
      → TellsLeast (rule_piece place 4) (LeftMapHas (signature_of schema) kind sides members.l) (read_l schema place kind sides members)
  left_map_tells members sides kind =
      let C : Signature = signature_of schema in
      let Apart : Type 0 = IsSomeAnd (as_number_lists members.l) (IsNotApart kind sides.keep) in
      map_then C (rule_piece place 4) sides.keep sides.left.pattern (row 12 Apart no_code)
      (λ images. checked (fault_in (rule_piece place 4) 12) (is_sqpo kind || is_injective sides.keep images) (Ok images)) (above_12 Apart) members.l
      (λ images is. tells_checked (rule_piece place 4) 12 12 Apart no_code (is_sqpo kind || is_injective sides.keep images) (Ok images) (omega arith) (from_none 12)
      (λ fails. rw is fails)
      (λ passes apart. let failed : (is_sqpo kind || is_injective sides.keep images) ≡ false = rw is at apart in let never : true ≡ false = sym passes ∙ failed in cc)
      (λ passes. tells_none (rule_piece place 4) images))

  -- the tables of the pieces that are left, from the last one
  abbrev From5 : Option RuleMembers → ℕ → ℕ → Type 0
  From5 members = piece_row 5 (λ code. IsSomeAnd members (λ m. IsOkAnd (read_sides schema ops place m) (λ sides. RightMapHas (signature_of schema) sides m.r code))) no_piece

  abbrev From4 : Option RuleMembers → ℕ → ℕ → Type 0
  From4 members = piece_row 4 (λ code. IsSomeAnd members (λ m. IsOkAnd (read_sides schema ops place m)
      (λ sides. IsSomeAnd (head_form m) (λ form. LeftMapHas (signature_of schema) form.kind sides m.l code)))) (From5 members)

  abbrev From3 : Option RuleMembers → ℕ → ℕ → Type 0
  From3 members = piece_row 3 (λ code. IsSomeAnd members (λ m. IsOkAnd (read_pattern schema (rule_piece place 1) m.left) (λ left. RightHas schema ops left m.right code))) (From4 members)

  abbrev From2 : Option RuleMembers → ℕ → ℕ → Type 0
  From2 members = piece_row 2 (λ code. IsSomeAnd members (λ m. BareHas schema m.keep code)) (From3 members)

  abbrev From1 : Option RuleMembers → ℕ → ℕ → Type 0
  From1 members = piece_row 1 (λ code. IsSomeAnd members (λ m. PatternHas schema m.left code)) (From2 members)

  -- they stand in order
  order5 : (members : Option RuleMembers) → IsFromPiece 5 (From5 members)
  order5 members = from_piece 5 6 (λ code. IsSomeAnd members (λ m. IsOkAnd (read_sides schema ops place m) (λ sides. RightMapHas (signature_of schema) sides m.r code))) no_piece (omega arith) (from_no_piece 6)

  order4 : (members : Option RuleMembers) → IsFromPiece 4 (From4 members)
  order4 members = from_piece 4 5 (λ code. IsSomeAnd members (λ m. IsOkAnd (read_sides schema ops place m)
      (λ sides. IsSomeAnd (head_form m) (λ form. LeftMapHas (signature_of schema) form.kind sides m.l code)))) (From5 members) (omega arith) (order5 members)

  order3 : (members : Option RuleMembers) → IsFromPiece 3 (From3 members)
  order3 members = from_piece 3 4 (λ code. IsSomeAnd members (λ m. IsOkAnd (read_pattern schema (rule_piece place 1) m.left) (λ left. RightHas schema ops left m.right code))) (From4 members)
      (omega arith) (order4 members)

  order2 : (members : Option RuleMembers) → IsFromPiece 2 (From2 members)
  order2 members = from_piece 2 3 (λ code. IsSomeAnd members (λ m. BareHas schema m.keep code)) (From3 members) (omega arith) (order3 members)

  order1 : (members : Option RuleMembers) → IsFromPiece 1 (From1 members)
  order1 members = from_piece 1 2 (λ code. IsSomeAnd members (λ m. PatternHas schema m.left code)) (From2 members) (omega arith) (order2 members)

  -- the maps
  maps_tell : (members : RuleMembers) (form : HeadForm) (sides : Sides) (head : RuleHead) → head_form members ≡ Some form → head.kind ≡ form.kind
      → read_sides schema ops place members ≡ Ok sides
      → TellsFirstPiece sections.Rules place (From4 (Some members)) (and_then (read_l schema place head.kind sides members)
      (λ l. and_then (and_then (read_r schema place sides members) (λ r. Ok (record { l = l; r = r })))
      (λ maps. with_values schema place members (rule_with head (record { sides = sides; maps = maps })))))
  maps_tell members form sides head is_form same_kind are_sides =
      let C : Signature = signature_of schema in
      piece_then sections.Rules place 4 _ (From5 (Some members)) (read_l schema place head.kind sides members) _ (order5 (Some members))
      (known_ok (rule_piece place 4) (read_sides schema ops place members) sides (λ sides code. IsSomeAnd (head_form members) (λ form. LeftMapHas C form.kind sides members.l code)) _ are_sides
      (known_some (rule_piece place 4) (head_form members) form (λ form. LeftMapHas C form.kind sides members.l) _ is_form
      (rw same_kind (left_map_tells members sides form.kind))))
      (λ l is_l. piece_last sections.Rules place 5 _ _
      (known_ok (rule_piece place 5) (read_sides schema ops place members) sides (λ sides. RightMapHas C sides members.r) _ are_sides
      (least_in_turn (rule_piece place 5) (RightMapHas C sides members.r) (read_r schema place sides members) (λ r. Ok (record { l = l; r = r })) _
      (right_map_tells members sides head l))))

  -- the patterns and the maps
  body_tells : (members : RuleMembers) (form : HeadForm) (head : RuleHead) → head_form members ≡ Some form → head.kind ≡ form.kind
      → TellsFirstPiece sections.Rules place (From1 (Some members)) (and_then (read_body schema ops place head.kind members) (λ body. with_values schema place members (rule_with head body)))
  body_tells members form head is_form same_kind =
      let last : Body → Result RuleRead DocFault = λ body. with_values schema place members (rule_with head body) in
      let maps : Sides → Result Body DocFault = λ sides. and_then (read_maps schema place head.kind sides members) (λ maps. Ok (record { sides = sides; maps = maps })) in
      let rest : Sides → Result RuleRead DocFault = λ sides. and_then (maps sides) last in
      in_turn sections.Rules place (From1 (Some members)) (read_sides schema ops place members) maps last
      (in_turn sections.Rules place (From1 (Some members)) (read_pattern schema (rule_piece place 1) members.left) _ rest
      (piece_then sections.Rules place 1 _ (From2 (Some members)) (read_pattern schema (rule_piece place 1) members.left) _ (order2 (Some members))
      (pattern_tells schema (rule_piece place 1) members.left)
      (λ left is_left. in_turn sections.Rules place (From2 (Some members)) (read_bare_pattern schema (rule_piece place 2) members.keep) _ rest
      (piece_then sections.Rules place 2 _ (From3 (Some members)) (read_bare_pattern schema (rule_piece place 2) members.keep) _ (order3 (Some members))
      (bare_tells schema (rule_piece place 2) members.keep)
      (λ keep is_keep. in_turn sections.Rules place (From3 (Some members)) (read_right schema ops (rule_piece place 3) left members.right) _ rest
      (piece_then sections.Rules place 3 _ (From4 (Some members)) (read_right schema ops (rule_piece place 3) left members.right) _ (order4 (Some members))
      (known_ok (rule_piece place 3) (read_pattern schema (rule_piece place 1) members.left) left (λ left. RightHas schema ops left members.right) _ is_left
      (right_tells schema ops (rule_piece place 3) left members.right))
      (λ right is_right.
      let sides : Sides = record { left = left; keep = keep; right = right } in
      in_turn sections.Rules place (From4 (Some members)) (read_maps schema place head.kind sides members) _ last
      (in_turn sections.Rules place (From4 (Some members)) (read_l schema place head.kind sides members)
      (λ l. and_then (read_r schema place sides members) (λ r. Ok (record { l = l; r = r }))) (λ maps. last (record { sides = sides; maps = maps }))
      (maps_tell members form sides head is_form same_kind (rw (is_left, is_keep, is_right) refl))))))))))

  -- a rule's own piece
  head_tells : (members : RuleMembers) → TellsLeast (rule_piece place 0) (HeadHas schema.objects IsTaken (Some members)) (read_rule_head schema.objects taken (rule_piece place 0) members)
  head_tells members = past (rule_piece place 0) 2 (Some members ≡ None) (HeadFormHas schema.objects IsTaken (head_form members)) _ (λ none. cc) (form_tells (rule_piece place 0) (head_form members))

  -- the rule with these members, or what has none
  members_tell : (found : Option RuleMembers) → TellsFirstPiece sections.Rules place (PiecesHave schema ops IsTaken place found)
      (and_then (some_or (fault_in (rule_piece place 0) 2) found) (read_pieces schema ops taken place))
  members_tell None = piece_then {A = RuleHead} {B = RuleRead} sections.Rules place 0 (HeadHas schema.objects IsTaken None) (From1 None) (Err (fault_in (rule_piece place 0) 2)) (λ head. Err (fault_in (rule_piece place 0) 2))
      (order1 None) (here (rule_piece place 0) 2 2 (None ≡ None) (λ code. ⊥) (omega arith) (λ other less has. has) refl) (λ head is. cc)
  members_tell (Some members) = piece_then sections.Rules place 0 (HeadHas schema.objects IsTaken (Some members)) (From1 (Some members))
      (read_rule_head schema.objects taken (rule_piece place 0) members) _ (order1 (Some members)) (head_tells members)
      (λ head is_head. let known = head_is schema.objects taken (rule_piece place 0) members head is_head in body_tells members known.form head known.is_form known.same_kind)

  -- the rule at the place
  pub taken_tells : (value : Data) → TellsFirstPiece sections.Rules place (RuleHas schema ops IsTaken place value) (read_rule_where schema ops taken place value)
  taken_tells value = members_tell (rule_members value)

-- rules
pub rule_tells : FirstRuleFault
rule_tells schema ops taken place value = taken_tells schema ops taken (λ name. list_any (bytes_eq name) taken ≡ true) (λ name is. is) (λ name is. is) place value
