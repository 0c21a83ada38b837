-- A reading of a watch tells its first fault, and so does one of the list of watches.
use Rattle.std.proofs.Common.{◌≡◌, ◌∙◌, ◌⊎◌, inl, inr, ◌<◌, ◌≤◌, ℕ, Bool, true, false, ◌||◌, not, IsSomeAnd, Option, Some, None, option_map, codes, if◌then◌else◌, Result, Ok, Err, List, [], ◌++◌, map, length, refl, sym, ap, subst, arith, zero-add}
use Rattle.std.specs.List.{list_any}
use Rattle.std.specs.Str.{bytes_eq}
use Rattle.std.proofs.lemmas.List.Folds.{list_any-append}
use Rattle.serde_json.specs.Data.{Data}
use Rattle.serde_json.specs.Find.{as_str, get}
use Rattle.rw_schema.specs.declared.section.Section.TheVariants as sections
use Rattle.rw_schema.specs.Presentation.{Presentation}
use Rattle.rw_schema.specs.SchemaFaults.{is_name}
use Rattle.rw_rule.specs.RuleLists.{WatchLists}
use Rattle.rw_doc.specs.declared.fault.DocFault.{DocFault}
use Rattle.rw_doc.specs.declared.piece.Piece.{Piece}
use Rattle.rw_doc.specs.Chain.{and_then, checked, each_after, some_or}
use Rattle.rw_doc.specs.Json.{has_only}
use Rattle.rw_doc.specs.Pieces.{fault_in}
use Rattle.rw_doc.proofs.Chains.{behind_long, chain, checked_then, there}
use Rattle.rw_docpattern.specs.Codes.{TellsLeast, row}
use Rattle.rw_docpattern.specs.MapCodes.{MonicHas}
use Rattle.rw_docpattern.specs.Objects.{read_monic}
use Rattle.rw_docpattern.specs.PatternCodes.{PatternHas}
use Rattle.rw_docpattern.specs.Patterns.{read_pattern}
use Rattle.rw_docpattern.specs.PieceCodes.{IsNameOf, TellsFirstPiece, name_written, no_piece, piece_row}
use Rattle.rw_docpattern.proofs.Codes.{from_row, here, past}
use Rattle.rw_docpattern.proofs.NamedCodes.{is_read, made_of, named_tells, there_parts, was_written}
use Rattle.rw_docpattern.proofs.PatternCodes.{pattern_tells}
use Rattle.rw_docpattern.proofs.PieceCodes.{any_list_tells, from_no_piece, from_piece, items_tell, piece_last, piece_then}
use Rattle.rw_docwatch.specs.Heads.{WatchForm, WatchHead, WatchMembers, read_watch_head, watch_form, watch_keys, watch_members}
use Rattle.rw_docwatch.specs.WatchCodes.{FirstWatchFault, FirstWatchesFault, HeadFormHas, HeadHas, PiecesHave, WatchBehindHas, WatchHas}
use Rattle.rw_docwatch.specs.Watches.{read_watch, read_watch_pieces, read_watch_where, watch_piece}

-- a test that failed did not pass
never_passed : (test : Bool) → test ≡ true → test ≡ false → ⊥
never_passed true passes fails = cc
never_passed false passes fails = cc

-- the names that are taken are these
module _ (schema : Presentation) (taken : List (List ℕ)) (IsTaken : List ℕ → Type 0)
    (is_taken : (name : List ℕ) → list_any (bytes_eq name) taken ≡ true → IsTaken name) (was_taken : (name : List ℕ) → IsTaken name → list_any (bytes_eq name) taken ≡ true) (place : ℕ) where
  -- a watch's own piece, by its form
  form_tells : (piece : Piece) (found : Option WatchForm) → TellsLeast {A = WatchHead} piece (HeadFormHas schema.objects IsTaken found) (and_then (some_or (fault_in piece 2) found) (λ form.
      checked (fault_in piece 4) (is_name form.name)
      (checked (fault_in piece 5) (not (list_any (bytes_eq form.name) taken))
      (and_then (read_monic schema.objects piece form.monic) (λ monic. Ok (record { name = form.name; monic = monic }))))))
  form_tells piece None = here piece 2 4 (None ≡ None) (row 4 ⊥ (row 5 ⊥ (λ code. ⊥))) (omega arith) (from_row 4 5 ⊥ (row 5 ⊥ (λ code. ⊥)) (omega arith)
      (from_row 5 5 ⊥ (λ code. ⊥) (omega arith) (λ other less has. has))) refl
  form_tells piece (Some form) =
      past piece 2 (Some form ≡ None) (row 4 (is_name form.name ≡ false) (row 5 (IsTaken form.name) (MonicHas schema.objects form.monic))) _ (λ none. cc)
      (named_tells piece schema.objects taken IsTaken is_taken was_taken form.name form.monic (λ monic. record { name = form.name; monic = monic })
      (is_name form.name) (is_name form.name ≡ false) (λ fails. fails) (never_passed (is_name form.name)))

  -- a watch's own piece
  head_tells : (members : WatchMembers) → TellsLeast (watch_piece place 0) (HeadHas schema.objects IsTaken (Some members)) (read_watch_head schema.objects taken (watch_piece place 0) members)
  head_tells members = past (watch_piece place 0) 2 (Some members ≡ None) (HeadFormHas schema.objects IsTaken (watch_form members)) _ (λ none. cc) (form_tells (watch_piece place 0) (watch_form members))

  -- the table of its pattern
  abbrev From1 : Option WatchMembers → ℕ → ℕ → Type 0
  From1 members = piece_row 1 (λ code. IsSomeAnd members (λ m. PatternHas schema m.pattern code)) no_piece

  -- the watch with these members, or what has none
  members_tell : (found : Option WatchMembers) → TellsFirstPiece sections.Watches place (PiecesHave schema IsTaken found)
      (and_then (some_or (fault_in (watch_piece place 0) 2) found) (read_watch_pieces schema taken place))
  members_tell None = piece_then {A = WatchHead} {B = WatchLists} sections.Watches place 0 (HeadHas schema.objects IsTaken None) (From1 None) (Err (fault_in (watch_piece place 0) 2))
      (λ head. Err (fault_in (watch_piece place 0) 2)) (from_piece 1 2 (λ code. ⊥) no_piece (omega arith) (from_no_piece 2))
      (here (watch_piece place 0) 2 2 (None ≡ None) (λ code. ⊥) (omega arith) (λ other less has. has) refl) (λ head is. cc)
  members_tell (Some members) = piece_then sections.Watches place 0 (HeadHas schema.objects IsTaken (Some members)) (From1 (Some members))
      (read_watch_head schema.objects taken (watch_piece place 0) members) _ (from_piece 1 2 (PatternHas schema members.pattern) no_piece (omega arith) (from_no_piece 2)) (head_tells members)
      (λ head is_head. piece_last sections.Watches place 1 (PatternHas schema members.pattern) _
      (made_of (watch_piece place 1) (PatternHas schema members.pattern) _ _ (pattern_tells schema (watch_piece place 1) members.pattern)))

  -- the watch at the place
  pub taken_tells : (value : Data) → TellsFirstPiece sections.Watches place (WatchHas schema IsTaken value) (read_watch_where schema taken place value)
  taken_tells value = members_tell (watch_members value)

-- watches
pub watch_tells : FirstWatchFault
watch_tells schema taken place value = taken_tells schema taken (λ name. list_any (bytes_eq name) taken ≡ true) (λ name is. is) (λ name is. is) place value

-- ---- the list

-- something is there only where a test lets it pass
where_passed : {A : Type 0} (test : Bool) (found : Option A) (x : A) → (if test then found else None) ≡ Some x → found ≡ Some x
where_passed true found x is = is
where_passed false found x is = cc

-- what is made of something that is there
mapped_from : {A B : Type 0} (f : A → B) (found : Option A) (y : B) → option_map f found ≡ Some y → (x : A) × (f x ≡ y)
mapped_from f (Some x) y is = let same : f x ≡ y = cc in (x, same)
mapped_from f None y is = cc

-- the name of a watch is among its members
members_name : (value : Data) (members : WatchMembers) → watch_members value ≡ Some members → get (codes "name") value ≡ Some members.name
members_name value members is =
    let found = where_passed (has_only watch_keys value) _ members is in
    let name = there_parts (get (codes "name") value) _ members found in
    let pattern = mapped_from _ (get (codes "pattern") value) members name.is_second in
    name.is_first ∙ ap (λ (members : WatchMembers). Some members.name) pattern.1

-- the name of a watch is a text
form_name : (members : WatchMembers) (form : WatchForm) → watch_form members ≡ Some form → as_str members.name ≡ Some form.name
form_name members form is =
    let name = there_parts (as_str members.name) _ form is in
    let monic = mapped_from _ _ form name.is_second in
    name.is_first ∙ ap (λ (form : WatchForm). Some form.name) monic.1

-- the form of a piece that is read
record HasForm (members : WatchMembers) (head : WatchHead) : Type 0 where
  form : WatchForm
  is_form : watch_form members ≡ Some form
  same_name : head.name ≡ form.name

-- so it is read
head_is : (objects taken : List (List ℕ)) (piece : Piece) (members : WatchMembers) (head : WatchHead) → read_watch_head objects taken piece members ≡ Ok head → HasForm members head
head_is objects taken piece members =
    let P : WatchHead → Type 0 = HasForm members in
    chain P (some_or (fault_in piece 2) (watch_form members)) _
    (λ form is_there. checked_then P (fault_in piece 4) (is_name form.name) _
    (λ within. checked_then P (fault_in piece 5) (not (list_any (bytes_eq form.name) taken)) _
    (λ new. chain P (read_monic objects piece form.monic) _
    (λ monic is_monic head is.
    let same : record { name = form.name; monic = monic } ≡ head = cc in
    subst P same (record { form = form; is_form = there (fault_in piece 2) (watch_form members) form is_there; same_name = refl })))))

-- a watch that is read has the name that it is written with
watch_named : (schema : Presentation) (taken : List (List ℕ)) (place : ℕ) (value : Data) (watch : WatchLists)
    → read_watch_where schema taken place value ≡ Ok watch → name_written value ≡ Some watch.name
watch_named schema taken place value =
    let P : WatchLists → Type 0 = λ (watch : WatchLists). name_written value ≡ Some watch.name in
    chain P (some_or (fault_in (watch_piece place 0) 2) (watch_members value)) _
    (λ members are_members. chain P (read_watch_head schema.objects taken (watch_piece place 0) members) _
    (λ head is_head. chain P (read_pattern schema (watch_piece place 1) members.pattern) _
    (λ read is_read watch is.
    let made : WatchLists = record { name = head.name; goal = record { left = read.pattern; monic = head.monic; conditions = []; kinds = read.kinds } } in
    let same : made ≡ watch = cc in
    let known = head_is schema.objects taken (watch_piece place 0) members head is_head in
    let found : watch_members value ≡ Some members = there (fault_in (watch_piece place 0) 2) (watch_members value) members are_members in
    subst P same (rw (members_name value members found) (form_name members known.form known.is_form ∙ ap Some (sym known.same_name))))))

-- the name of a watch
abbrev name_of : WatchLists → List ℕ
name_of watch = watch.name

-- a name among two lists is in one of them
in_one : (one other : Bool) → (one || other) ≡ true → (one ≡ true) ⊎ (other ≡ true)
in_one true other is = inl refl
in_one false other is = inr is

-- a name in one of two lists is among them
in_both : (one other : Bool) → (one ≡ true) ⊎ (other ≡ true) → (one || other) ≡ true
in_both true other is = refl
in_both false other (inl is) = cc
in_both false other (inr is) = is

-- a watch behind others
behind_tells : (schema : Presentation) (rules : List (List ℕ)) (done : List Data) (before : List WatchLists) (item : Data) → each_after (read_watch schema rules) [] done ≡ Ok before
    → TellsFirstPiece sections.Watches (length done) (WatchBehindHas schema rules done item) (read_watch schema rules before item)
behind_tells schema rules done before item read =
    let named : (before : List WatchLists) (item : Data) (watch : WatchLists) → read_watch schema rules before item ≡ Ok watch → name_written item ≡ Some (name_of watch) =
    λ before item watch. watch_named schema (rules ++ map name_of before) (length before) item watch in
    let long : length before ≡ length done = behind_long (read_watch schema rules) [] done before read ∙ zero-add (length done) in
    let IsTaken : List ℕ → Type 0 = λ name. (list_any (bytes_eq name) rules ≡ true) ⊎ IsNameOf done name in
    subst (λ (place : ℕ). TellsFirstPiece sections.Watches place (WatchHas schema IsTaken item) (read_watch_where schema (rules ++ map name_of before) (length before) item)) long
    (taken_tells schema (rules ++ map name_of before) IsTaken
    (λ name met. elim (in_one (list_any (bytes_eq name) rules) (list_any (bytes_eq name) (map name_of before)) (sym (list_any-append (bytes_eq name) rules (map name_of before)) ∙ met)) [
      | inl of_rule ↦ inl of_rule
      | inr of_watch ↦ inr (was_written name_of (read_watch schema rules) named done before name read of_watch)
    ])
    (λ name known. list_any-append (bytes_eq name) rules (map name_of before) ∙ in_both (list_any (bytes_eq name) rules) (list_any (bytes_eq name) (map name_of before)) (elim known [
      | inl of_rule ↦ inl of_rule
      | inr written ↦ inr (is_read name_of (read_watch schema rules) named done before name read written)
    ])) (length before) item)

-- watches
pub watches_tell : FirstWatchesFault
watches_tell schema rules value =
    any_list_tells sections.Watches 64 (read_watch schema rules) (WatchBehindHas schema rules)
    (items_tell sections.Watches (read_watch schema rules) (WatchBehindHas schema rules) (behind_tells schema rules)) value
