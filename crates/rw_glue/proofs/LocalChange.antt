-- The lists that are made of touched names, their classes and their preimages are the change of a frame over its host.
use Rattle.std.proofs.Common.{◌≡◌, ◌≢◌, ◌∙◌, ◌||◌, ◌==◌, ◌<◌, ◌+◌, ℕ, Bool, true, false, not, map, List, [], Contains, length, Option, Some, None, slice_get, slice_index, slice_index_or, refl, sym, ap, subst, inl, inr, arith, append-nil, zero-add}
use Rattle.std.specs.List.{list_any, range_with_len}
use Rattle.std.specs.Option.{option_eq}
use Rattle.std.proofs.lemmas.Bool.{both_ways, eq-eqb, eqb-true, not-true}
use Rattle.std.proofs.lemmas.List.{get_or-map}
use Rattle.std.proofs.lemmas.Option.{get_or_from_slice_get, slice_get_within}
use Rattle.rw_schema.specs.declared.atom.Atom.{Atom}
use Rattle.rw_schema.specs.Atoms.{is_same_atom}
use Rattle.rw_schema.specs.declared.signature.ArrowEnds.{ArrowEnds}
use Rattle.rw_schema.specs.declared.signature.AttrEnds.{AttrEnds}
use Rattle.rw_schema.specs.First.{map_in}
use Rattle.rw_schema.specs.RowLists.{RowLists, list_at}
use Rattle.rw_schema.specs.Signature.{Signature, IsCategory, source_of}
use Rattle.rw_schema.proofs.Lists.{get_or_map_in}
use Rattle.rw_spec.specs.Cocone.{Frame}
use Rattle.rw_spec.specs.Ends.{target_of}
use Rattle.rw_spec.specs.Instance.{Instance, Has}
use Rattle.rw_spec.specs.Natural.{Map}
use Rattle.rw_spec.proofs.Ascending.{ascends_distinct, ascends_filter}
use Rattle.rw_spec.proofs.Look.{found_contained}
use Rattle.rw_spec.proofs.Sequences.{contained_in_filter, contained_in_flat_map, contains_filter, contains_flat_map}
use Rattle.rw_spec.proofs.Signatures.{holder_is, source_is, target_is}
use Rattle.rw_classes.specs.Clashes.{FirstOf, MergesAt, MergesEach, both_cells}
use Rattle.rw_classes.specs.Merging.{AreFirsts, AreMerged, cell_at}
use Rattle.rw_classes.specs.Places.{cell_of, count_at, spot}
use Rattle.rw_classes.specs.declared.merge.Merged.{Merged}
use Rattle.rw_classes.specs.declared.merge.Merged.TheVariants.{Firsts, Differ}
use Rattle.rw_classes.proofs.Sides.{spot_at, spot_within}
use Rattle.rw_columns.specs.Changes.{ChangeLists, beside, entry_names, staying}
use Rattle.rw_columns.specs.Columned.{preimage_of}
use Rattle.rw_columns.specs.inner.Filled.{AreAll}
use Rattle.rw_delta.specs.ContextLists.{is_in}
use Rattle.rw_complement.specs.Named.{new_parts}
use Rattle.rw_glued.specs.OneGluing.{IsNaturalFrame}
use Rattle.rw_glued.specs.Result.{HaveOneAtom, class_name, next_after}
use Rattle.rw_redex.proofs.Bridges.{one_atom_merged}
use Rattle.rw_local.specs.Over.{IsOver}
use Rattle.rw_local.specs.inner.ChangeTo.{other_cells, other_values}
use Rattle.rw_local.specs.inner.Glued.{added_names, goes, local_change, removed_names}
use Rattle.rw_local.specs.inner.Local.{AreLocal, IsRenaming, local_cell, narrow, new_names, placed, renamed, wanted}
use Rattle.rw_local.proofs.Classes.{renamed_is, renamed_other, renamed_touched, touched_or_not}
use Rattle.rw_local.proofs.Local.{cell_of_class, cells_from_touched, class_atom_is, new_cells, new_row, removed_from_touched, rows_from_preimages}
use Rattle.rw_local.proofs.Reached.{any_filtered}
use Rattle.rw_local.proofs.Renamed.{cell_old, value_old}
use Rattle.rw_glue.specs.inner.Changed.{AreCellChanges, AreCellsBy, AreRemoved, AreRowChanges, firsts_in, leads_out, touched_cell, unmoved}
use Rattle.rw_glue.proofs.Listed.{all_mapped, all_mapped_in}
use Rattle.rw_glue.proofs.Moved.{and_then_same, moved_beside, moves_from, moves_to, other_same, unmoved_from, unmoved_to}

-- neither gone nor merged away
stays_not : (gone least : Bool) → not (gone || not least) ≡ true → (gone ≡ false) × (least ≡ true)
stays_not true least passes = let no : ⊥ = cc in absurd no
stays_not false true passes = (refl, refl)
stays_not false false passes = let no : ⊥ = cc in absurd no

-- names that come with their rows and cells are those of new parts, where right parts go as s says
pub record AreComing (C : Signature) (F : Frame) (given : List ℕ) (s : Map) (added : RowLists) : Type 0 where
  pub names : AreAll [] (λ object list. list ≡ new_names F s object) C.objects added.names
  pub rows : AreAll [] (λ a row. (ends : ArrowEnds) → slice_get C.arrows a ≡ Some ends → row ≡ map (λ y. s ends.target.0 (F.right.value a y)) (new_parts F ends.source.0))
      (length C.arrows) added.arrows
  pub cells : AreAll [] (λ c list. (ends : AttrEnds) → slice_get C.attributes c ≡ Some ends → list ≡ map (F.right.cell c) (new_parts F ends.object.0))
      (length C.attributes) added.cells
  pub next : AreAll 0 (λ object name. name ≡ slice_index given object + length (new_parts F object)) C.objects added.next

-- of the host nothing is other than it was but what the lists say
pub record IsHostBut (C : Signature) (F : Frame) (X : Instance) (gone touched : ℕ → List ℕ) (lost : List (List ℕ)) : Type 0 where
  pub lost_is : (object : ℕ) → object < C.objects → list_at lost object ≡ gone object
  pub gone_there : (object x : ℕ) → object < C.objects → Contains (gone object) x → Has X object x
  pub same : (a : ℕ) (ends : ArrowEnds) → slice_get C.arrows a ≡ Some ends → (x : ℕ) → Has F.left ends.source.0 x → F.left.value a x ≡ X.value a x
  pub plain : (c : ℕ) (ends : AttrEnds) → slice_get C.attributes c ≡ Some ends
      → (x : ℕ) → Has F.left ends.object.0 x → is_in (touched ends.object.0) x ≡ false → F.left.cell c x ≡ X.cell c x

module _ (C : Signature) (category : IsCategory C) (F : Frame) (frame : IsNaturalFrame C F) (X : Instance) (gone : ℕ → List ℕ) (next : List ℕ)
    (over : IsOver C X F.left gone (λ object. []) next next) (left right : RowLists) (numbers firsts : List (List ℕ))
    (local : AreLocal C F next (list_at left.names) (list_at numbers) (list_at firsts))
    (cells_are : (c : ℕ) (ends : AttrEnds) → slice_get C.attributes c ≡ Some ends → (e : ℕ) → e < count_at (narrow F (list_at left.names)) ends.object.0
    → cell_at (both_cells left right c) e ≡ cell_of (narrow F (list_at left.names)) ends.object.0 c e)
    (merged : List Merged) (each : length merged ≡ length C.attributes) (merges : MergesEach left right numbers firsts C.attributes merged)
    (free : FirstOf (length C.attributes) C.attributes merged None)
  where
    -- the touched names of an object
    abbrev touched : ℕ → List ℕ
    touched object = list_at left.names object

    -- the cells of an attribute were merged
    merged_at : (c : ℕ) (ends : AttrEnds) → slice_get C.attributes c ≡ Some ends
        → AreMerged (cell_at (both_cells left right c)) (list_at numbers ends.object.0) (length (list_at firsts ends.object.0)) (list_at (map firsts_in merged) c)
    merged_at c ends there =
        let within : c < length merged = rw each (slice_get_within C.attributes c ends there) in
        let found = merges c ends within there in
        at found.0 found.1 found.2
      where
        at : (which : Merged) → slice_get merged c ≡ Some which → MergesAt left right numbers firsts c ends which
            → AreMerged (cell_at (both_cells left right c)) (list_at numbers ends.object.0) (length (list_at firsts ends.object.0)) (list_at (map firsts_in merged) c)
        at (Firsts places) is merges =
            let within : c < length merged = slice_get_within merged c (Firsts places) is in
            let listed : list_at (map firsts_in merged) c ≡ places.items =
            get_or-map firsts_in merged c (Firsts places) [] within ∙ ap firsts_in (get_or_from_slice_get merged c (Firsts places) (Firsts places) is) in
            subst (λ (list : List (Option ℕ)). AreMerged (cell_at (both_cells left right c)) (list_at numbers ends.object.0) (length (list_at firsts ends.object.0)) list)
            (sym listed) merges
        at (Differ difference) is merges = absurd (free c ends difference (slice_get_within C.attributes c ends there) there is)

    -- each part has a class
    long : (object : ℕ) → object < C.objects → length (list_at numbers object) ≡ count_at (narrow F (list_at left.names)) object
    long object known = (local.classes object known).numbered.each

    -- so the atoms of each class are one
    pub one : HaveOneAtom C (narrow F (list_at left.names)) (list_at numbers)
    one =
        one_atom_merged C category (narrow F (list_at left.names)) (list_at numbers) long
        (λ c ends there. (
          length (list_at firsts ends.object.0),
          list_at (map firsts_in merged) c,
          cell_at (both_cells left right c),
          merged_at c ends there,
          cells_are c ends there,
        ))

    -- where names of the left side go
    abbrev d : Map
    d = renamed F next (list_at left.names) (list_at numbers) (list_at firsts)

    -- where right parts go
    abbrev s : Map
    s = placed F next (list_at left.names) (list_at numbers) (list_at firsts)

    -- the cells of names that stay
    abbrev cell : ℕ → ℕ → Option Atom
    cell = local_cell C F next (list_at left.names) (list_at numbers) (list_at firsts)

    -- what the change gives
    abbrev H : Instance
    H = wanted C F d s cell

    -- the change
    abbrev change : ChangeLists
    change = local_change C X F (list_at left.names) (list_at numbers) (list_at firsts) gone (λ object. []) next

    -- the names of the host that stay
    abbrev stay : ℕ → List ℕ
    stay object = staying (removed_names X gone d object) (X.names object)

    -- the classes rename the whole
    renaming : IsRenaming C F next d s
    renaming = renamed_is C category F frame next (list_at left.names) (list_at numbers) (list_at firsts) local

    -- a name of the left side is one of the host that is not gone
    left_host : (object x : ℕ) → object < C.objects → Has F.left object x → Has X object x × (is_in (gone object) x ≡ false)
    left_host object x known has =
        let there = contained_in_filter (λ name. not (is_in (gone object) name)) (X.names object) x
        (subst (λ (names : List ℕ). Contains names x) (over.names object known ∙ append-nil (staying (gone object) (X.names object))) has) in
        (there.0, not-true (is_in (gone object) x) there.1)

    -- a name that stays is one of the left side, and keeps its name
    stay_left : (object x : ℕ) → object < C.objects → Contains (stay object) x → Has F.left object x × (d object x ≡ x)
    stay_left object x known there =
        let kept = contained_in_filter (λ name. not (list_any (λ other. other == name) (removed_names X gone d object))) (X.names object) x there in
        let passes : not (goes gone d object x) ≡ true = ap not (sym (any_filtered (goes gone d object) (X.names object) x kept.0)) ∙ kept.1 in
        let both = stays_not (is_in (gone object) x) (d object x == x) passes in (
          subst (λ (names : List ℕ). Contains names x) (sym (over.names object known ∙ append-nil (staying (gone object) (X.names object))))
              (contains_filter (λ name. not (is_in (gone object) name)) (X.names object) x kept.0 (ap not both.0)),
          eqb-true (d object x) x both.1,
        )

    -- a name of the left side that keeps its name stays
    to_stay : (object x : ℕ) → object < C.objects → Has F.left object x → d object x ≡ x → Contains (stay object) x
    to_stay object x known has least =
        let host = left_host object x known has in
        let goes_not : goes gone d object x ≡ false = ap (λ (lost : Bool). lost || not (d object x == x)) host.1 ∙ ap not (eq-eqb (d object x) x least) in
        contains_filter (λ name. not (list_any (λ other. other == name) (removed_names X gone d object))) (X.names object) x host.0
        (ap not (any_filtered (goes gone d object) (X.names object) x host.0 ∙ goes_not))

    module _ (moved : List (List (ℕ × ℕ)))
        (moved_is : (object : ℕ) → object < C.objects
        → list_at moved object ≡ other_values (λ x. x) (renamed F next (list_at left.names) (list_at numbers) (list_at firsts) object) (list_at left.names object))
      where
        -- a name that gets another is touched and gets another
        moving : (object x : ℕ) → object < C.objects → Contains (entry_names (list_at moved object)) x → Contains (touched object) x × (d object x ≢ x)
        moving object x known there =
            moves_from (d object) (touched object) x (subst (λ (entries : List (ℕ × ℕ)). Contains (entry_names entries) x) (moved_is object known) there)

        -- and each such name is one
        moved_there : (object x : ℕ) → object < C.objects → Contains (touched object) x → d object x ≢ x → Contains (entry_names (list_at moved object)) x
        moved_there object x known there away =
            subst (λ (entries : List (ℕ × ℕ)). Contains (entry_names entries) x) (sym (moved_is object known)) (moves_to (d object) (touched object) x there away)

        -- what is found beside a name is where it goes
        name_beside : (object x : ℕ) → object < C.objects → beside x (list_at moved object) x ≡ d object x
        name_beside object x known =
            ap (λ (entries : List (ℕ × ℕ)). beside x entries x) (moved_is object known)
            ∙ moved_beside (d object) (touched object) x
            (elim (touched_or_not C category F frame next (list_at left.names) (list_at numbers) (list_at firsts) local object x) [
              | inl there ↦ inl there
              | inr other ↦ inr (renamed_other C category F frame next (list_at left.names) (list_at numbers) (list_at firsts) local object x other)
            ])

        -- the names that go
        pub removed_are : (lost removed : List (List ℕ)) → ((object : ℕ) → object < C.objects → list_at lost object ≡ gone object)
            → ((object x : ℕ) → object < C.objects → Contains (gone object) x → Has X object x)
            → AreAll [] (AreRemoved lost moved) C.objects removed → (object : ℕ) → object < C.objects
            → list_at removed object ≡ removed_names X gone (renamed F next (list_at left.names) (list_at numbers) (list_at firsts)) object
        removed_are lost removed lost_is gone_there are object known =
            let list = are.each object known in
            removed_from_touched C category F frame X gone (λ object. []) next next over (list_at left.names) (list_at numbers) (list_at firsts) local one
            object (list_at removed object) known list.ascend
            (λ x there.
            elim ((list.members x).0 there) [
              | inl away ↦
                  let is : Contains (gone object) x = subst (λ (names : List ℕ). Contains names x) (lost_is object known) away in
                  (gone_there object x known is, inl is)
              | inr moves ↦
                  let from = moving object x known moves in
                  ((left_host object x known (local.in_left object x known from.0)).0, inr from)
            ])
            (λ x has away. (list.members x).1 (inl (subst (λ (names : List ℕ). Contains names x) (sym (lost_is object known)) away)))
            (λ x has there away. (list.members x).1 (inr (moved_there object x known there away)))

        -- the rows of names that stay, where arrows lead as in the host
        pub rows_are : (removed : List (List ℕ)) → ((object : ℕ) → object < C.objects
            → list_at removed object ≡ removed_names X gone (renamed F next (list_at left.names) (list_at numbers) (list_at firsts)) object)
            → (a : ℕ) (ends : ArrowEnds) → slice_get C.arrows a ≡ Some ends → ((x : ℕ) → Has F.left ends.source.0 x → F.left.value a x ≡ X.value a x)
            → (row : List (ℕ × ℕ)) → AreRowChanges C X removed moved a row
            → row ≡ list_at (local_change C X F (list_at left.names) (list_at numbers) (list_at firsts) gone (λ object. []) next).rows a
        rows_are removed removed_is a ends there same row are =
            let source : ℕ = ends.source.0 in
            let target : ℕ = ends.target.0 in
            let source_known : source < C.objects = category.sources a ends there in
            let target_known : target < C.objects = category.targets a ends there in
            let away : List ℕ = list_at removed (source_of C a) in
            let targets : List ℕ = entry_names (list_at moved (target_of C a)) in
            let away_is : away ≡ removed_names X gone d source = ap (list_at removed) (source_is C a ends there) ∙ removed_is source source_known in
            let targets_are : targets ≡ entry_names (list_at moved target) = ap (λ (o : ℕ). entry_names (list_at moved o)) (target_is C a ends there) in
            let names_are : X.names (source_of C a) ≡ X.names source = ap X.names (source_is C a ends there) in
            let within : (x : ℕ) → Contains are.some x → Contains (stay source) x =
            λ x some.
            let from = contained_in_flat_map (leads_out C X a away) targets x ((are.all.members x).0 some) in
            let out = contained_in_filter (λ x. not (is_in away x)) (preimage_of C X a from.0) x from.2 in
            let led = contained_in_filter (λ name. X.value a name == from.0) (X.names (source_of C a)) x out.0 in
            contains_filter (λ name. not (list_any (λ other. other == name) (removed_names X gone d source))) (X.names source) x
            (subst (λ (names : List ℕ). Contains names x) names_are led.0)
            (subst (λ (names : List ℕ). not (is_in names x) ≡ true) away_is out.1) in
            let led : (x : ℕ) → Contains (stay source) x → Contains (touched target) (F.left.value a x) → d target (F.left.value a x) ≢ F.left.value a x → Contains are.some x =
            λ x stays touches moves.
            let old = stay_left source x source_known stays in
            let kept = contained_in_filter (λ name. not (list_any (λ other. other == name) (removed_names X gone d source))) (X.names source) x stays in
            let value : F.left.value a x ≡ X.value a x = same x old.0 in
            let leads : Contains (preimage_of C X a (X.value a x)) x =
            contains_filter (λ name. X.value a name == X.value a x) (X.names (source_of C a)) x
            (subst (λ (names : List ℕ). Contains names x) (sym names_are) kept.0) (eq-eqb (X.value a x) (X.value a x) refl) in
            (are.all.members x).1
            (contains_flat_map (leads_out C X a away) targets (X.value a x) x
            (subst (λ (names : List ℕ). Contains names (X.value a x)) (sym targets_are)
            (subst (λ (v : ℕ). Contains (entry_names (list_at moved target)) v) value (moved_there target (F.left.value a x) target_known touches moves)))
            (contains_filter (λ x. not (is_in away x)) (preimage_of C X a (X.value a x)) x leads
            (subst (λ (names : List ℕ). not (is_in names x) ≡ true) (sym away_is) kept.1))) in
            are.differ
            ∙ other_same (λ one other. one == other) (X.value a) (λ x. beside (X.value a x) (list_at moved (target_of C a)) (X.value a x)) (H.value a) are.some
            (λ x some.
            let old = stay_left source x source_known (within x some) in
            ap (λ (o : ℕ). beside (X.value a x) (list_at moved o) (X.value a x)) (target_is C a ends there)
            ∙ name_beside target (X.value a x) target_known
            ∙ ap (d target) (sym (same x old.0))
            ∙ sym (value_old C category F frame next local.below d s renaming cell a ends x there old.0))
            ∙ sym (rows_from_preimages C category F frame X gone (λ object. []) next next over (list_at left.names) (list_at numbers) (list_at firsts) local one
            a ends are.some there are.all.ascend within
            (λ x stays differs. absurd (differs (same x (stay_left source x source_known stays).0)))
            led)

        -- the cell of a touched name that keeps its name is that of its class
        cell_is : (c : ℕ) (ends : AttrEnds) (x : ℕ) → slice_get C.attributes c ≡ Some ends → Contains (touched ends.object.0) x → d ends.object.0 x ≡ x
            → touched_cell (list_at (map firsts_in merged) c) (list_at numbers ends.object.0) (both_cells left right c) (spot (touched ends.object.0) x) ≡ H.cell c x
        cell_is c ends x there touches keeps =
            let object : ℕ = ends.object.0 in
            let known : object < C.objects = category.holders c ends there in
            let places : List (Option ℕ) = list_at (map firsts_in merged) c in
            let k : ℕ = slice_index (list_at numbers object) (spot (touched object) x) in
            let w : ℕ = class_name (narrow F (list_at left.names)) next object (slice_index (list_at firsts object) k) in
            let are : AreMerged (cell_at (both_cells left right c)) (list_at numbers object) (length (list_at firsts object)) places = merged_at c ends there in
            let n : ℕ = count_at (narrow F (list_at left.names)) object in
            let all : length (list_at numbers object) ≡ n = long object known in
            let same : (e : ℕ) → e < n → cell_at (both_cells left right c) e ≡ cell_of (narrow F (list_at left.names)) object c e = cells_are c ends there in
            let place : spot (touched object) x < length (touched object) = spot_within (touched object) x touches in
            let class : k < length (list_at firsts object) = (local.classes object known).numbered.within (spot (touched object) x) (omega (arith, place)) in
            let below : (class' place' : ℕ) → slice_index_or places class' None ≡ Some place' → place' < n =
            λ class' place' is. subst (λ (m : ℕ). place' < m) all (are.found.below class' place' is) in
            let first : AreFirsts (cell_of (narrow F (list_at left.names)) object c) (list_at numbers object) n places = record {
              below = below;
              found = λ class' place' is.
                  let found = are.found.found class' place' is in
                  record {
                    class = found.class;
                    atom = found.atom;
                    has = sym (same place' (below class' place' is)) ∙ found.has;
                    earlier = λ e before in_class.
                        let within : place' < n = below class' place' is in
                        sym (same e (omega (arith, before, within))) ∙ found.earlier e before in_class;
                  };
              missing = λ e within is. sym (same e within) ∙ are.found.missing e (subst (λ (m : ℕ). e < m) (sym all) within) is;
            } in
            let name : x ≡ w = sym keeps ∙ renamed_touched C category F frame next (list_at left.names) (list_at numbers) (list_at firsts) local object x touches in
            and_then_same (cell_at (both_cells left right c)) (cell_of (narrow F (list_at left.names)) object c) n (slice_index_or places k None) (below k) same
            ∙ sym (class_atom_is (narrow F (list_at left.names)) (list_at numbers object) object c k places first)
            ∙ sym (cell_of_class C category F frame X gone (λ object. []) next next over (list_at left.names) (list_at numbers) (list_at firsts) local one
            c ends k there class (subst (Contains (touched object)) name touches))
            ∙ ap (cell c) (sym name)
            ∙ sym (cell_old C category F frame next local.below d s renaming cell c ends x there (local.in_left object x known touches))

        -- the cells of names that stay, where cells that are not touched are as in the host
        pub cells_are_those : (c : ℕ) (ends : AttrEnds) → slice_get C.attributes c ≡ Some ends
            → ((x : ℕ) → Has F.left ends.object.0 x → is_in (list_at left.names ends.object.0) x ≡ false → F.left.cell c x ≡ X.cell c x)
            → (list : List (ℕ × Option Atom)) → AreCellChanges C X left right numbers merged moved c list
            → list ≡ list_at (local_change C X F (list_at left.names) (list_at numbers) (list_at firsts) gone (λ object. []) next).cells c
        cells_are_those c ends there plain list are =
            let object : ℕ = ends.object.0 in
            let known : object < C.objects = category.holders c ends there in
            let names : List ℕ = touched object in
            let entries : List (ℕ × ℕ) = other_values (λ x. x) (d object) names in
            let places : List (Option ℕ) = list_at (map firsts_in merged) c in
            let new : ℕ → Option Atom = λ x. touched_cell places (list_at numbers object) (both_cells left right c) (spot names x) in
            let by : AreCellsBy (X.cell c) places (list_at numbers object) (both_cells left right c) names entries list =
            subst (λ (entries : List (ℕ × ℕ)). AreCellsBy (X.cell c) places (list_at numbers object) (both_cells left right c) names entries list) (moved_is object known)
            (subst (λ (o : ℕ). AreCellsBy (X.cell c) places (list_at numbers o) (both_cells left right c) (list_at left.names o) (list_at moved o) list) (holder_is C c ends there) are) in
            let some : List ℕ = unmoved entries names in
            let stays : (x : ℕ) → Contains some x → Contains (stay object) x =
            λ x has.
            let from = unmoved_from (d object) names x has in
            to_stay object x known (local.in_left object x known from.0) from.1 in
            by new
            (λ place within.
            ap (touched_cell places (list_at numbers object) (both_cells left right c)) (spot_at names place (ascends_distinct names (local.touched_ascends object known)) within))
            ∙ other_same (option_eq is_same_atom) (X.cell c) new (H.cell c) some
            (λ x has. let from = unmoved_from (d object) names x has in cell_is c ends x there from.0 from.1)
            ∙ sym (cells_from_touched C category F frame X gone (λ object. []) next next over (list_at left.names) (list_at numbers) (list_at firsts) local one
            c ends some there (ascends_filter (λ x. not (is_in (entry_names entries) x)) names (local.touched_ascends object known)) stays
            (λ x kept other.
            let old = stay_left object x known kept in
            elim (touched_or_not C category F frame next (list_at left.names) (list_at numbers) (list_at firsts) local object x) [
              | inl touches ↦ absurd (both_ways (is_in some x) other (found_contained some x (unmoved_to (d object) names x touches old.1)))
              | inr none ↦ (none, plain x old.0 none)
            ]))

        -- all lists are those of the change
        pub change_is : (lost : List (List ℕ)) (made : ChangeLists) → IsHostBut C F X gone (list_at left.names) lost
            → AreAll [] (AreRemoved lost moved) C.objects made.removed
            → AreComing C F next (placed F next (list_at left.names) (list_at numbers) (list_at firsts)) made.added
            → AreAll [] (AreRowChanges C X made.removed moved) (length C.arrows) made.rows
            → AreAll [] (AreCellChanges C X left right numbers merged moved) (length C.attributes) made.cells
            → made ≡ local_change C X F (list_at left.names) (list_at numbers) (list_at firsts) gone (λ object. []) next
        change_is lost made host removed coming rows cells =
            let removed_is : (object : ℕ) → object < C.objects → list_at made.removed object ≡ removed_names X gone d object =
            removed_are lost made.removed host.lost_is host.gone_there removed in
            let arrow_rows : ℕ → ArrowEnds → List (ℕ × ℕ) = λ a (ends : ArrowEnds). other_values (X.value a) (H.value a) (stay ends.source.0) in
            let other : ℕ → AttrEnds → List (ℕ × Option Atom) = λ c (ends : AttrEnds). other_cells (X.cell c) (H.cell c) (stay ends.object.0) in
            let new_rows : ℕ → ArrowEnds → List ℕ = λ a (ends : ArrowEnds). map (H.value a) (new_names F s ends.source.0) in
            let new_ones : ℕ → AttrEnds → List (Option Atom) = λ c (ends : AttrEnds). map (H.cell c) (new_names F s ends.object.0) in
            let removed_all : made.removed ≡ map (removed_names X gone d) (range_with_len 0 C.objects) =
            all_mapped [] (removed_names X gone d) C.objects 0 made.removed removed.count
            (λ object known. removed_is object known ∙ ap (removed_names X gone d) (sym (zero-add object))) in
            let names_all : made.added.names ≡ map (added_names F d s (λ object. [])) (range_with_len 0 C.objects) =
            all_mapped [] (added_names F d s (λ object. [])) C.objects 0 made.added.names coming.names.count
            (λ object known. coming.names.each object known ∙ ap (new_names F s) (sym (zero-add object))) in
            let next_all : made.added.next ≡ next_after C F next =
            all_mapped 0 (λ object. slice_index next object + length (new_parts F object)) C.objects 0 made.added.next coming.next.count
            (λ object known. coming.next.each object known ∙ ap (λ (o : ℕ). slice_index next o + length (new_parts F o)) (sym (zero-add object))) in
            let arrows_all : made.added.arrows ≡ map_in new_rows 0 C.arrows =
            all_mapped_in [] new_rows 0 C.arrows made.added.arrows coming.rows.count
            (λ a ends there.
            coming.rows.each a (slice_get_within C.arrows a ends there) ends there
            ∙ sym (new_row C category F frame X gone (λ object. []) next next over (list_at left.names) (list_at numbers) (list_at firsts) local one a ends there)
            ∙ ap (λ (k : ℕ). new_rows k ends) (sym (zero-add a))) in
            let new_all : made.added.cells ≡ map_in new_ones 0 C.attributes =
            all_mapped_in [] new_ones 0 C.attributes made.added.cells coming.cells.count
            (λ c ends there.
            coming.cells.each c (slice_get_within C.attributes c ends there) ends there
            ∙ sym (new_cells C category F frame X gone (λ object. []) next next over (list_at left.names) (list_at numbers) (list_at firsts) local one c ends there)
            ∙ ap (λ (k : ℕ). new_ones k ends) (sym (zero-add c))) in
            let rows_all : made.rows ≡ map_in arrow_rows 0 C.arrows =
            all_mapped_in [] arrow_rows 0 C.arrows made.rows rows.count
            (λ a ends there.
            rows_are made.removed removed_is a ends there (host.same a ends there) (list_at made.rows a) (rows.each a (slice_get_within C.arrows a ends there))
            ∙ get_or_map_in arrow_rows 0 C.arrows a ends [] there) in
            let cells_all : made.cells ≡ map_in other 0 C.attributes =
            all_mapped_in [] other 0 C.attributes made.cells cells.count
            (λ c ends there.
            cells_are_those c ends there (host.plain c ends there) (list_at made.cells c) (cells.each c (slice_get_within C.attributes c ends there))
            ∙ get_or_map_in other 0 C.attributes c ends [] there) in
            λ i. record {
              removed = removed_all i;
              added = record { names = names_all i; arrows = arrows_all i; cells = new_all i; next = next_all i };
              rows = rows_all i;
              cells = cells_all i;
            }
