-- What is made of a rule at a match, with its context, is the step's change or its first clash.
use Rattle.std.proofs.Common.{◌≡◌, ◌∙◌, ◌==◌, ◌<◌, ◌≤◌, ◌+◌, ◌-◌, ◌++◌, ◌&&◌, ℕ, Bool, true, false, not, cond, filter, map, nat_lt, List, [], All, Contains, length, drop, Option, Some, None, Result, Ok, Err, slice_get, slice_index, slice_index_or, refl, sym, ap, subst, arith, append-nil, zero-add, lt-ltb, le-ltb, eqb-true}
use Rattle.std.specs.List.{range_with_len}
use Rattle.std.proofs.lemmas.Bool.{both_ways, false_from_ne_true, ltb-false}
use Rattle.std.proofs.lemmas.List.{get_or-drop, get_or-map, get_or_default, length-drop}
use Rattle.std.proofs.lemmas.List.Elements.{All-contains, Contains-get_or, filter-append}
use Rattle.std.proofs.lemmas.List.FromFn.{get_or-map-range_with_len, length-range_with_len}
use Rattle.std.proofs.lemmas.Simd.{map-map}
use Rattle.rw_schema.specs.declared.atom.Atom.{Atom}
use Rattle.rw_schema.specs.declared.ids.AttrId.{AttrId}
use Rattle.rw_schema.specs.declared.ids.ObjectId.{ObjectId}
use Rattle.rw_schema.specs.declared.signature.ArrowEnds.{ArrowEnds}
use Rattle.rw_schema.specs.declared.signature.AttrEnds.{AttrEnds}
use Rattle.rw_schema.specs.RowLists.{RowLists, list_at}
use Rattle.rw_schema.specs.Signature.{Signature, holder_of, source_of}
use Rattle.rw_spec.specs.Cocone.{Frame}
use Rattle.rw_spec.specs.Instance.{Instance, IsInstance}
use Rattle.rw_spec.specs.Natural.{IsNatural, Map}
use Rattle.rw_spec.specs.Redex.{Redex}
use Rattle.rw_spec.proofs.Ascending.{ascends_distinct}
use Rattle.rw_spec.proofs.Look.{found_contained}
use Rattle.rw_spec.proofs.Ranges.{own_place, range_below, range_bounds, range_distinct}
use Rattle.rw_spec.proofs.Sequences.{contained_in_filter}
use Rattle.rw_spec.proofs.Signatures.{holder_is, source_is, target_is}
use Rattle.rw_terms.specs.declared.code.OpCode.{OpCode}
use Rattle.rw_pattern.specs.MapFaults.{image_of}
use Rattle.rw_pattern.specs.PatternLists.{size_of}
use Rattle.rw_pattern.proofs.PartNames.{part_below}
use Rattle.rw_rule.specs.Images.{is_image, parts_of}
use Rattle.rw_rule.specs.RuleFaults.{IsRuleOver}
use Rattle.rw_rule.specs.RuleLists.{RuleLists}
use Rattle.rw_rule.specs.Sets.{is_on_cell}
use Rattle.rw_classes.specs.Clashes.{FirstOf, both_cells}
use Rattle.rw_classes.specs.FirstClash.{IsFirstClash}
use Rattle.rw_classes.specs.Merging.{cell_at}
use Rattle.rw_classes.specs.Places.{cell_of, count_at, spot}
use Rattle.rw_classes.specs.declared.clashes.ClashAt.{ClashAt}
use Rattle.rw_classes.specs.declared.merge.Merged.{Merged}
use Rattle.rw_classes.proofs.Sides.{spot_at}
use Rattle.rw_columns.specs.Changes.{ChangeLists}
use Rattle.rw_columns.proofs.Walked.{filter_all, filter_none}
use Rattle.rw_complement.specs.Complement.{IsContext}
use Rattle.rw_complement.specs.Context.{context_map, context_of, is_blank_over, is_blanked, is_removed, is_under}
use Rattle.rw_complement.specs.Named.{new_before, new_parts}
use Rattle.rw_complement.specs.Redex.{IsRedex}
use Rattle.rw_complement.proofs.Least.{context_is_least}
use Rattle.rw_complement.proofs.Tests.{some_from}
use Rattle.rw_delta.specs.ContextLists.{ContextLists, is_in}
use Rattle.rw_dpo.specs.Contexts.{removed_names}
use Rattle.rw_glued.specs.Clash.{Clashes}
use Rattle.rw_glued.specs.OneGluing.{IsNaturalFrame}
use Rattle.rw_glued.specs.Result.{class_name}
use Rattle.rw_glued.proofs.Clashes.{no_cocone_at_clash}
use Rattle.rw_redex.specs.Instantiated.{redex_of, right_at}
use Rattle.rw_redex.specs.NewParts as rule_parts
use Rattle.rw_redex.specs.SetValues.{set_value}
use Rattle.rw_redex.specs.Verdicts.{step_frame}
use Rattle.rw_redex.proofs.Bridges.{new_parts_are}
use Rattle.rw_redex.proofs.Gluing.{can_be_glued_at}
use Rattle.rw_redex.proofs.Instantiated.{redex_is}
use Rattle.rw_redex.proofs.Parts.{value_part}
use Rattle.rw_redex.proofs.Ranges.{range_split}
use Rattle.rw_redex.proofs.Right.{keep_to_right, right_instance}
use Rattle.rw_redex.proofs.RuleKnown.{IsKnown, rule_known}
use Rattle.rw_redex.proofs.RuleMaps.{right_is}
use Rattle.rw_redex.proofs.SetKinds.{IsMet, met_by_match}
use Rattle.rw_local.specs.Answer.{IsAnswer}
use Rattle.rw_local.specs.Over.{IsOver}
use Rattle.rw_local.specs.inner.ChangeTo.{other_values}
use Rattle.rw_local.specs.inner.Glued.{gone_names}
use Rattle.rw_local.specs.inner.Local.{AreLocal, narrow, new_names, placed as placed_by, renamed}
use Rattle.rw_local.proofs.Answer.{answer_frame, change_is_answer}
use Rattle.rw_local.proofs.Classes.{renamed_touched}
use Rattle.rw_local.proofs.Local.{map_same}
use Rattle.rw_local.proofs.Reached.{over_ascends}
use Rattle.rw_local.proofs.StepChange.{context_over}
use Rattle.rw_local.proofs.Verdict.{clashes_from_small}
use Rattle.rw_glue.specs.Given.{AreValues}
use Rattle.rw_glue.specs.Glues.{Glues, HasNoCocone}
use Rattle.rw_glue.specs.declared.end.GlueEnd.{GlueEnd}
use Rattle.rw_glue.specs.declared.end.GlueEnd.TheVariants as ends
use Rattle.rw_glue.specs.inner.Glued.{AreNamedClasses, IsChangeBy, IsGlued, IsGluedClash, IsSite}
use Rattle.rw_glue.specs.inner.Names.{name_of_first}
use Rattle.rw_glue.specs.inner.Sides.{AreSides, set_atom}
use Rattle.rw_glue.proofs.Joined as joined
use Rattle.rw_glue.proofs.Listed.{value_found}
use Rattle.rw_glue.proofs.LocalChange.{AreComing, IsHostBut, change_is, one}
use Rattle.rw_glue.proofs.SmallClash.{first_clash_is}

-- two choices are the same where the second ones are, if these are taken
second_same : {A : Type 0} (first : Bool) (x y z : A) → (first ≡ false → y ≡ z) → cond first x y ≡ cond first x z
second_same true x y z same = refl
second_same false x y z same = same refl

-- there is nothing where a test that fails has to pass
under_from : (first second : Bool) → (first && second) ≡ true → first ≡ true
under_from true second both = refl
under_from false second both = both

module _ (C : Signature) (codes : List OpCode) (rule : RuleLists) (tuple : List ℕ) (X : Instance) (context : ContextLists) (values : List Atom) (kept : List (List ℕ)) (left right : RowLists)
    (site : IsSite C rule tuple X context) (sides : AreSides C X rule values context kept left right)
    (rule_over : IsRuleOver C (length codes) rule) (are : AreValues codes rule tuple X values)
  where
    -- the rule at the match
    abbrev R : Redex
    R = redex_of rule tuple X

    -- the context and the right side
    abbrev F : Frame
    F = step_frame C codes rule tuple X

    -- the rule is over the schema
    known : IsKnown C (length codes) rule
    known = rule_known C (length codes) rule rule_over

    -- the match gives its values
    met : IsMet C rule tuple X
    met = met_by_match C rule tuple X site.category site.host rule_over.parts.goal.left site.can.matched

    -- the rule at the match is a redex
    redex : IsRedex C R
    redex = redex_is C site.category rule known.span site.can.split tuple X site.host met.natural

    -- its right side is an instance
    instance : IsInstance C (right_at codes rule tuple X)
    instance = right_instance C codes rule tuple X known met

    -- the map to it is natural
    natural : IsNatural C R.keep (right_at codes rule tuple X) (image_of rule.r)
    natural = keep_to_right C codes rule tuple X (length codes) known

    -- the context is the least complement
    least : IsContext C R (context_of C R) (context_map R)
    least = context_is_least C site.category R redex (can_be_glued_at C site.category rule known.span tuple X site.can.apart site.can.undangling)

    -- both sides are glued along natural maps
    frame : IsNaturalFrame C (step_frame C codes rule tuple X)
    frame = answer_frame C site.category R redex (right_at codes rule tuple X) instance (image_of rule.r) natural (context_of C R) (context_map R) least

    -- the context is over the host
    over : IsOver C X (context_of C R) (gone_names R) (λ object. []) context.next context.next
    over = context_over C R context.next (λ object within. site.ascend object) site.can.below

    -- of the host nothing is other than it was but what the context says
    host_but : IsHostBut C F X (gone_names R) (list_at left.names) context.removed
    host_but = record {
      lost_is = λ object within.
          ap (λ lists. list_at lists object) site.can.is_context.removed ∙ get_or-map-range_with_len (removed_names rule tuple X) 0 C.objects object object [] within (zero-add object);
      gone_there = λ object x within there. (contained_in_filter (is_removed R object) (X.names object) x there).0;
      same = λ a ends there x has. refl;
      plain = λ c ends there x has other.
          let object : ℕ = ends.object.0 in
          let within : object < C.objects = site.category.holders c ends there in
          let stays : is_blanked R (holder_of C c) c x ≡ false =
          false_from_ne_true (is_blanked R (holder_of C c) c x)
          (λ blanked.
          let blanked_here : is_blanked R object c x ≡ true = subst (λ (o : ℕ). is_blanked R o c x ≡ true) (holder_is C c ends there) blanked in
          let under = some_from (λ z. R.m object (R.l object z) == x) (R.keep.names object) (under_from (is_under R object x) (is_blank_over R object c x) blanked_here) in
          let touches : Contains (list_at left.names object) x =
          subst (Contains (list_at left.names object)) (eqb-true (R.m object (R.l object under.0)) x under.2)
          (joined.under_there C site.category codes rule tuple X context values kept left right site.host (length codes) known site.can sides object under.0 within under.1) in
          both_ways (is_in (list_at left.names object) x) other (found_contained (list_at left.names object) x touches)) in
          ap (λ (blank : Bool). cond blank None (X.cell c x)) stays;
    }

    -- as many new parts come before a part
    before_are : (object y : ℕ) → object < C.objects → y < size_of rule.right object → new_before F object y ≡ rule_parts.new_before rule object y
    before_are object y within below =
        let n : ℕ = size_of rule.right object in
        let new : ℕ → Bool = λ part. not (is_image rule.r object part) in
        let lesser : ℕ → Bool = λ other. nat_lt other y in
        let first : List ℕ = range_with_len 0 y in
        let later : List ℕ = range_with_len (0 + y) (n - y) in
        let whole : y + (n - y) ≡ n = omega (arith, below) in
        let split : range_with_len 0 n ≡ first ++ later = ap (range_with_len 0) (sym whole) ∙ range_split 0 y (n - y) in
        ap (λ (parts : List ℕ). length (filter lesser parts)) (new_parts_are C codes rule tuple X object known.span within)
        ∙ ap (λ (parts : List ℕ). length (filter lesser (filter new parts))) split
        ∙ ap (λ (parts : List ℕ). length (filter lesser parts)) (filter-append new first later)
        ∙ ap length (filter-append lesser (filter new first) (filter new later))
        ∙ ap (λ (parts : List ℕ). length (parts ++ filter lesser (filter new later)))
        (filter_all lesser (filter new first) (λ x has. lt-ltb x y (range_below y x (contained_in_filter new first x has).0)))
        ∙ ap (λ (parts : List ℕ). length (filter new first ++ parts))
        (filter_none lesser (filter new later)
        (λ x has. let bounds = range_bounds (0 + y) (n - y) x (contained_in_filter new later x has).0 in le-ltb x y (omega (arith, bounds.0))))
        ∙ ap length (append-nil (filter new first))

    -- where the classes have names
    module _ (numbers firsts : List (List ℕ)) (merged : List Merged) (names : List (List ℕ))
        (named : AreNamedClasses C rule context kept left right numbers firsts merged names)
      where
        -- the classes are local to the step
        local : AreLocal C F context.next (list_at left.names) (list_at numbers) (list_at firsts)
        local = joined.local C site.category codes rule tuple X context values kept left right site.host (length codes) known site.can sides numbers firsts named.classes

        -- the cells of both sides are those of the frame
        cells : (c : ℕ) (ends : AttrEnds) → slice_get C.attributes c ≡ Some ends → (e : ℕ) → e < count_at (narrow F (list_at left.names)) ends.object.0
            → cell_at (both_cells left right c) e ≡ cell_of (narrow F (list_at left.names)) ends.object.0 c e
        cells c ends there e within =
            joined.cells_are C site.category codes rule tuple X context values kept left right site.host (length codes) known site.can sides are c ends there e within

        -- the name of a class
        name_is : (object first : ℕ) → object < C.objects → first < count_at (narrow F (list_at left.names)) object
            → name_of_first rule (slice_index context.next object) (list_at left.names object) object first ≡ class_name (narrow F (list_at left.names)) context.next object first
        name_is object first within below =
            let touched : List ℕ = list_at left.names object in
            let size : ℕ = size_of rule.right object in
            let place : ℕ = first - length touched in
            let parts : length (F.right.names object) ≡ size = length-range_with_len 0 size in
            second_same (nat_lt first (length touched)) (slice_index touched first) (slice_index context.next object + rule_parts.new_before rule object place)
            (slice_index context.next object + new_before F object (slice_index (F.right.names object) place))
            (λ past.
            let far : length touched ≤ first = ltb-false first (length touched) past in
            let inside : place < size = omega (arith, below, far, parts) in
            ap (λ (n : ℕ). slice_index context.next object + n)
            (sym (ap (new_before F object) (own_place size place 0 inside) ∙ before_are object place within inside)))

        -- the names of all
        names_are : (object : ℕ) → object < C.objects
            → list_at names object ≡ map (class_name (narrow F (list_at left.names)) context.next object) (list_at firsts object)
        names_are object within =
            let n : ℕ = count_at (narrow F (list_at left.names)) object in
            let below : All (λ first. first < n) (list_at firsts object) =
            λ k d inside.
            subst (λ (first : ℕ). first < n) (get_or_default (list_at firsts object) k 0 d inside) ((local.classes object within).numbered.below k inside) in
            named.named.each object within
            ∙ map_same (name_of_first rule (slice_index context.next object) (list_at left.names object) object) (class_name (narrow F (list_at left.names)) context.next object) (list_at firsts object)
            (λ first has. name_is object first within (All-contains (λ first. first < n) (list_at firsts object) first below has))

        -- the name of the class of a part
        name_at_place : (object e : ℕ) → object < C.objects → e < count_at (narrow F (list_at left.names)) object
            → slice_index (list_at names object) (slice_index (list_at numbers object) e)
            ≡ class_name (narrow F (list_at left.names)) context.next object (slice_index (list_at firsts object) (slice_index (list_at numbers object) e))
        name_at_place object e within below =
            ap (λ (list : List ℕ). slice_index list (slice_index (list_at numbers object) e)) (names_are object within)
            ∙ get_or-map (class_name (narrow F (list_at left.names)) context.next object) (list_at firsts object) (slice_index (list_at numbers object) e) 0 0
            ((local.classes object within).numbered.within e below)

        -- what is told of the first clash
        clash_is : (clash : ClashAt) (a b : Atom) → IsFirstClash C (narrow F (list_at left.names)) numbers clash.object.0 clash.difference.class clash.attr.0 a b
            → clash.object.0 < C.objects
            → Clashes C F context.next clash.object.0 (slice_index (list_at names clash.object.0) clash.difference.class) clash.attr.0 a b
        clash_is clash a b first within =
            let object : ℕ = clash.object.0 in
            let parts = first.clash.2 in
            let class : slice_index (list_at numbers object) first.clash.0 ≡ clash.difference.class = parts.first_class in
            let long : length (list_at numbers object) ≡ count_at (narrow F (list_at left.names)) object = (local.classes object within).numbered.each in
            let below : first.clash.0 < count_at (narrow F (list_at left.names)) object = subst (λ (n : ℕ). first.clash.0 < n) long (omega (arith, parts.order, parts.within)) in
            let name : slice_index (list_at names object) clash.difference.class
            ≡ class_name (narrow F (list_at left.names)) context.next object (slice_index (list_at firsts object) clash.difference.class) =
            subst (λ (w : ℕ). slice_index (list_at names object) w ≡ class_name (narrow F (list_at left.names)) context.next object (slice_index (list_at firsts object) w))
            class (name_at_place object first.clash.0 within below) in
            subst (λ (w : ℕ). Clashes C F context.next object w clash.attr.0 a b) (sym name)
            (clashes_from_small C site.category F frame context.next (list_at left.names) numbers firsts local
            (over_ascends C X (context_of C R) (gone_names R) (λ object. []) context.next context.next over) object clash.difference.class clash.attr.0 a b first)

        module _ (change : ChangeLists) (by : IsChangeBy C X rule context left right numbers merged names change)
          where
            -- the names of parts of the right side
            placed_is : (object y : ℕ) → object < C.objects → y < size_of rule.right object
                → slice_index (list_at by.placed object) y ≡ placed_by F context.next (list_at left.names) (list_at numbers) (list_at firsts) object y
            placed_is object y within below =
                let touched : List ℕ = list_at left.names object in
                let all : List ℕ = list_at numbers object in
                let size : ℕ = size_of rule.right object in
                let behind : List ℕ = drop (length touched) all in
                let parts : length (F.right.names object) ≡ size = length-range_with_len 0 size in
                let long : length all ≡ count_at (narrow F (list_at left.names)) object = (local.classes object within).numbered.each in
                let inside : y < length behind = omega (arith, length-drop (length touched) all, long, parts, below) in
                let place : spot (F.right.names object) y ≡ y =
                subst (λ (k : ℕ). spot (F.right.names object) k ≡ y) (own_place size y 0 below) (spot_at (F.right.names object) y (range_distinct size) (rw parts below)) in
                ap (λ (list : List ℕ). slice_index list y) (by.places.each object within)
                ∙ get_or-map (slice_index (list_at names object)) behind y 0 0 inside
                ∙ ap (slice_index (list_at names object)) (get_or-drop (length touched) all y 0)
                ∙ name_at_place object (length touched + y) within (omega (arith, parts, below))
                ∙ ap (λ (k : ℕ). class_name (narrow F (list_at left.names)) context.next object (slice_index (list_at firsts object) (slice_index all (length touched + k)))) (sym place)

            -- a new part is a part
            new_below : (object y : ℕ) → Contains (rule_parts.new_parts rule object) y → y < size_of rule.right object
            new_below object y has =
                part_below rule.right object y (contained_in_filter (λ part. not (is_image rule.r object part)) (parts_of rule.right object) y has).0

            -- names that move
            moved_are : (object : ℕ) → object < C.objects
                → list_at by.moved object ≡ other_values (λ x. x) (renamed F context.next (list_at left.names) (list_at numbers) (list_at firsts) object) (list_at left.names object)
            moved_are object within =
                let touched : List ℕ = list_at left.names object in
                by.moves.each object within (renamed F context.next (list_at left.names) (list_at numbers) (list_at firsts) object)
                (λ place below.
                let x : ℕ = slice_index touched place in
                renamed_touched C site.category F frame context.next (list_at left.names) (list_at numbers) (list_at firsts) local object x (Contains-get_or touched place 0 below)
                ∙ ap (λ (k : ℕ). class_name (narrow F (list_at left.names)) context.next object (slice_index (list_at firsts object) (slice_index (list_at numbers object) k)))
                (spot_at touched place (ascends_distinct touched (local.touched_ascends object within)) below)
                ∙ sym (name_at_place object place within (omega (arith, below))))

            -- names that come
            coming_names : (object : ℕ) → object < C.objects
                → list_at change.added.names object ≡ new_names F (placed_by F context.next (list_at left.names) (list_at numbers) (list_at firsts)) object
            coming_names object within =
                let s : Map = placed_by F context.next (list_at left.names) (list_at numbers) (list_at firsts) in
                by.made.added.names.each object within
                ∙ map_same (slice_index (list_at by.placed object)) (s object) (rule_parts.new_parts rule object) (λ y has. placed_is object y within (new_below object y has))
                ∙ ap (map (s object)) (sym (new_parts_are C codes rule tuple X object known.span within))

            -- their rows
            coming_rows : (a : ℕ) → a < length C.arrows → (ends : ArrowEnds) → slice_get C.arrows a ≡ Some ends
                → list_at change.added.arrows a
                ≡ map (λ y. placed_by F context.next (list_at left.names) (list_at numbers) (list_at firsts) ends.target.0 (F.right.value a y)) (new_parts F ends.source.0)
            coming_rows a a_known ends there =
                let s : Map = placed_by F context.next (list_at left.names) (list_at numbers) (list_at firsts) in
                let row : List ℕ = list_at rule.right.rows a in
                let source : ℕ = ends.source.0 in
                let target : ℕ = ends.target.0 in
                let source_known : source < C.objects = site.category.sources a ends there in
                let target_known : target < C.objects = site.category.targets a ends there in
                by.made.added.rows.each a a_known
                ∙ ap (λ (o : ℕ). map (slice_index (list_at by.placed o)) (map (slice_index row) (rule_parts.new_parts rule (source_of C a)))) (target_is C a ends there)
                ∙ ap (λ (o : ℕ). map (slice_index (list_at by.placed target)) (map (slice_index row) (rule_parts.new_parts rule o))) (source_is C a ends there)
                ∙ map-map (slice_index (list_at by.placed target)) (slice_index row) (rule_parts.new_parts rule source)
                ∙ map_same (λ y. slice_index (list_at by.placed target) (slice_index row y)) (λ y. s target (F.right.value a y)) (rule_parts.new_parts rule source)
                (λ y has. placed_is target (slice_index row y) target_known (value_part C rule.right a ends y (right_is C rule known.span) there (new_below source y has)))
                ∙ ap (map (λ y. s target (F.right.value a y))) (sym (new_parts_are C codes rule tuple X source known.span source_known))

            -- and their cells
            coming_cells : (c : ℕ) → c < length C.attributes → (ends : AttrEnds) → slice_get C.attributes c ≡ Some ends
                → list_at change.added.cells c ≡ map (F.right.cell c) (new_parts F ends.object.0)
            coming_cells c c_known ends there =
                let object : ℕ = ends.object.0 in
                let size : ℕ = size_of rule.right object in
                let known_object : object < C.objects = site.category.holders c ends there in
                let cells_listed : list_at right.cells c ≡ map (set_atom values rule.sets c) (range_with_len 0 size) =
                sides.set.each c c_known ∙ ap (λ (o : ℕ). map (set_atom values rule.sets c) (range_with_len 0 (size_of rule.right o))) (holder_is C c ends there) in
                by.made.added.cells.each c c_known
                ∙ ap (λ (o : ℕ). map (λ part. slice_index_or (list_at right.cells c) part None) (rule_parts.new_parts rule o)) (holder_is C c ends there)
                ∙ map_same (λ part. slice_index_or (list_at right.cells c) part None) (F.right.cell c) (rule_parts.new_parts rule object)
                (λ y has.
                ap (λ (list : List (Option Atom)). slice_index_or list y None) cells_listed
                ∙ get_or-map-range_with_len (set_atom values rule.sets c) 0 size y y None (new_below object y has) (zero-add y)
                ∙ value_found (set_value codes rule tuple X) (is_on_cell c y) rule.sets values are)
                ∙ ap (map (F.right.cell c)) (sym (new_parts_are C codes rule tuple X object known.span known_object))

            -- what comes
            coming : AreComing C F context.next (placed_by F context.next (list_at left.names) (list_at numbers) (list_at firsts)) change.added
            coming = record {
              names = record { count = by.made.added.names.count; each = coming_names };
              rows = record { count = by.made.added.rows.count; each = coming_rows };
              cells = record { count = by.made.added.cells.count; each = coming_cells };
              next = record {
                count = by.made.added.next.count;
                each = λ object within.
                    by.made.added.next.each object within
                    ∙ ap (λ (parts : List ℕ). slice_index context.next object + length parts) (sym (new_parts_are C codes rule tuple X object known.span within));
              };
            }

            -- where no atoms clash, the change is the answer
            answer : FirstOf (length C.attributes) C.attributes merged None → IsAnswer C R (right_at codes rule tuple X) (image_of rule.r) context.next change
            answer free =
                let all =
                change_is C site.category F frame X (gone_names R) context.next over left right numbers firsts local cells merged named.each named.merges free
                by.moved moved_are context.removed change host_but by.made.removed coming by.made.rows by.made.cells in
                subst (λ (change : ChangeLists). IsAnswer C R (right_at codes rule tuple X) (image_of rule.r) context.next change) (sym all)
                (change_is_answer C site.category R redex (right_at codes rule tuple X) instance (image_of rule.r) natural (context_of C R) (context_map R) least
                (gone_names R) context.next over (list_at left.names) (list_at numbers) (list_at firsts) local
                (one C site.category F frame X (gone_names R) context.next over left right numbers firsts local cells merged named.each named.merges free))

    -- at a clash there is no cocone
    no_cocone : (object w c : ℕ) (a b : Atom) → Clashes C F context.next object w c a b → HasNoCocone C codes rule tuple X
    no_cocone object w c a b clash T d s cocone = no_cocone_at_clash C site.category F context.next object w c a b clash T d s cocone

    -- what is told of the first clash is true
    told : (object : ObjectId) (name : ℕ) (attr : AttrId) (a b : Atom) → IsGluedClash C rule context kept left right (ends.Clash object name attr a b)
        → Clashes C F context.next object.0 name attr.0 a b
    told object name attr a b glued =
        let clash : ClashAt = glued.clash in
        let first : IsFirstClash C (narrow F (list_at left.names)) glued.numbers clash.object.0 clash.difference.class clash.attr.0 a b =
        first_clash_is C (narrow F (list_at left.names)) left right glued.numbers glued.firsts
        (λ c ends there e within.
        cells glued.numbers glued.firsts glued.merged glued.names glued.are c ends there e
        (subst (λ (n : ℕ). e < n) ((local glued.numbers glued.firsts glued.merged glued.names glued.are).classes ends.object.0 (site.category.holders c ends there)).numbered.each within))
        glued.merged clash a b glued.are.each glued.are.merges glued.first glued.tells.3 glued.tells.4 in
        let within : clash.object.0 < C.objects = subst (λ (o : ℕ). o < C.objects) first.holder (site.category.holders clash.attr.0 first.ends first.there) in
        let is : Clashes C F context.next clash.object.0 (slice_index (list_at glued.names clash.object.0) clash.difference.class) clash.attr.0 a b =
        clash_is glued.numbers glued.firsts glued.merged glued.names glued.are clash a b first within in
        subst (λ (o : ObjectId). Clashes C F context.next o.0 name attr.0 a b) (sym glued.tells.0)
        (subst (λ (w : ℕ). Clashes C F context.next clash.object.0 w attr.0 a b) (sym glued.tells.1)
        (subst (λ (c : AttrId). Clashes C F context.next clash.object.0 (slice_index (list_at glued.names clash.object.0) clash.difference.class) c.0 a b) (sym glued.tells.2) is))

    -- so what is glued is the step
    pub glues : (result : Result ChangeLists GlueEnd) → IsGlued C X rule context kept left right result → Glues C codes rule tuple X context.next result
    glues (Ok change) glued = (site.room, answer glued.numbers glued.firsts glued.merged glued.names glued.are change glued.by glued.free)
    glues (Err (ends.TooLarge object)) glued = absurd glued
    glues (Err (ends.Clash object name attr a b)) glued =
        let clash : Clashes C F context.next object.0 name attr.0 a b = told object name attr a b glued in
        (site.room, clash, no_cocone object.0 name attr.0 a b clash)
    glues (Err ends.OutOfMemory) glued = tt
