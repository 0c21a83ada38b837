-- What is known of the first clash of named classes.
use Rattle.std.proofs.Common.{◌≡◌, ◌∙◌, ◌<◌, ◌+◌, ℕ, List, Option, Some, IsSome, length, map, slice_index, refl, sym, ap, subst, arith}
use Rattle.std.proofs.lemmas.List.{length-map}
use Rattle.std.proofs.lemmas.Option.{same_Some, slice_get_within}
use Rattle.rw_schema.specs.declared.atom.Atom.{Atom}
use Rattle.rw_schema.specs.declared.parts.AttrDef.{AttrDef}
use Rattle.rw_schema.specs.Presentation.{ends_of_attribute}
use Rattle.rw_schema.specs.RowLists.{RowLists, list_at}
use Rattle.rw_schema.specs.Signature.{Signature, IsCategory}
use Rattle.rw_classes.specs.Clashes.{FirstOf, IsFirstOf, MergesAt, both_cells}
use Rattle.rw_classes.specs.Merging.{cell_at}
use Rattle.rw_classes.specs.declared.clashes.ClashAt.{ClashAt}
use Rattle.rw_classes.specs.declared.merge.Merged.{Merged}
use Rattle.rw_classes.specs.declared.merge.Merged.TheVariants.{Differ}
use Rattle.rw_delta.specs.ContextLists.{ContextLists}
use Rattle.rw_rule.specs.RuleLists.{RuleLists}
use Rattle.rw_glue.specs.inner.Glued.{AreNamedClasses}
use Rattle.rw_glue.specs.inner.Names.{name_of_first}

-- the first clash of a list of attributes is that of the schema's, where they are these
pub first_of_schema : (listed attributes : List AttrDef) (merged : List Merged) (clash : Option ClashAt) → listed ≡ attributes
    → FirstOf (length listed) (map ends_of_attribute listed) merged clash
    → FirstOf (length (map ends_of_attribute attributes)) (map ends_of_attribute attributes) merged clash
first_of_schema listed attributes merged clash same first =
    subst (λ (n : ℕ). FirstOf n (map ends_of_attribute attributes) merged clash) (sym (length-map attributes ends_of_attribute))
    (subst (λ (list : List AttrDef). FirstOf (length list) (map ends_of_attribute list) merged clash) same first)

-- what is an atom is something
some_atom : (cell : Option Atom) (a : Atom) → cell ≡ Some a → IsSome cell
some_atom cell a is = subst (λ (cell : Option Atom). IsSome cell) (sym is) refl

module _ (C : Signature) (category : IsCategory C) (rule : RuleLists) (context : ContextLists) (kept : List (List ℕ)) (left right : RowLists)
    (numbers firsts : List (List ℕ)) (merged : List Merged) (names : List (List ℕ)) (are : AreNamedClasses C rule context kept left right numbers firsts merged names)
    (clash : ClashAt) (first : IsFirstOf (length C.attributes) C.attributes merged clash)
  where
    -- its object is there
    pub object_within : clash.object.0 < C.objects
    object_within = subst (λ (o : ℕ). o < C.objects) (ap (λ object. object.0) first.holder) (category.holders clash.attr.0 first.ends first.there)

    -- merging the cells of its attribute gave it
    differ_there : MergesAt left right numbers firsts clash.attr.0 first.ends (Differ clash.difference)
    differ_there =
        let known : clash.attr.0 < length merged = subst (λ (n : ℕ). clash.attr.0 < n) (sym are.each) (slice_get_within C.attributes clash.attr.0 first.ends first.there) in
        let found = are.merges clash.attr.0 first.ends known first.there in
        subst (λ each. MergesAt left right numbers firsts clash.attr.0 first.ends each) (same_Some found.0 (Differ clash.difference) (sym found.1 ∙ first.differs)) found.2

    -- both its parts have an atom
    pub first_some : IsSome (cell_at (both_cells left right clash.attr.0) clash.difference.first)
    first_some = some_atom (cell_at (both_cells left right clash.attr.0) clash.difference.first) differ_there.0.0 differ_there.0.2.first_atom

    pub second_some : IsSome (cell_at (both_cells left right clash.attr.0) clash.difference.second)
    second_some = some_atom (cell_at (both_cells left right clash.attr.0) clash.difference.second) differ_there.0.1 differ_there.0.2.second_atom

    -- its class has a name
    pub class_within : clash.difference.class < length (list_at names clash.object.0)
    class_within =
        let object : ℕ = first.ends.object.0 in
        let known : object < C.objects = category.holders clash.attr.0 first.ends first.there in
        let parts = differ_there.0.2 in
        let numbered = (are.classes object known).numbered in
        let all : length (list_at numbers object) ≡ length (list_at left.names object) + length (list_at right.names object) = numbered.each in
        let class : slice_index (list_at numbers object) clash.difference.first < length (list_at firsts object) =
        numbered.within clash.difference.first (omega (arith, parts.order, parts.within, all)) in
        let named : length (list_at names object) ≡ length (list_at firsts object) =
        ap length (are.named.each object known) ∙ length-map (list_at firsts object) (name_of_first rule (slice_index context.next object) (list_at left.names object) object) in
        subst (λ (o : ℕ). clash.difference.class < length (list_at names o)) (ap (λ object. object.0) first.holder)
        (subst (λ (n : ℕ). clash.difference.class < n) (sym named)
        (subst (λ (w : ℕ). w < length (list_at firsts object)) parts.first_class class))
