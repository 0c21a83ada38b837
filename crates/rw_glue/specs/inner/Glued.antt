-- What is made of the two sides, in lists.
use Rattle.std.specs.Prelude.{◌≡◌, ℕ, true, List, [], None, Some, Result, Ok, Err, length}
use Rattle.rw_schema.specs.RowLists.{RowLists, list_at}
use Rattle.rw_schema.specs.Signature.{Signature, IsCategory}
use Rattle.rw_spec.specs.Ascending.{ascends}
use Rattle.rw_spec.specs.Instance.{Instance, IsInstance}
use Rattle.rw_rule.specs.RuleLists.{RuleLists}
use Rattle.rw_classes.specs.ClassLists.{AreClassesBy}
use Rattle.rw_classes.specs.Clashes.{FirstOf, MergesEach, both_cells}
use Rattle.rw_classes.specs.Merging.{cell_at}
use Rattle.rw_classes.specs.declared.clashes.ClashAt.{ClashAt}
use Rattle.rw_classes.specs.declared.merge.Merged.{Merged}
use Rattle.rw_columns.specs.Changes.{ChangeLists}
use Rattle.rw_columns.specs.inner.Filled.{AreAll}
use Rattle.rw_delta.specs.ContextLists.{ContextLists}
use Rattle.rw_redex.specs.Obstructions.{too_large}
use Rattle.rw_glue.specs.Given.{CanGlue}
use Rattle.rw_glue.specs.declared.end.GlueEnd.{GlueEnd}
use Rattle.rw_glue.specs.declared.end.GlueEnd.TheVariants as ends
use Rattle.rw_glue.specs.inner.Changed.{IsMadeOf}
use Rattle.rw_glue.specs.inner.Clashing.{IsClashEnd}
use Rattle.rw_glue.specs.inner.Names.{AreClassNames, AreMoved, ArePlaced}

-- what is known of what is to be glued: the host is an instance whose names ascend, and there is room for the new names
pub record IsSite (C : Signature) (rule : RuleLists) (tuple : List ℕ) (X : Instance) (context : ContextLists) : Type 0 where
  pub category : IsCategory C
  pub host : IsInstance C X
  pub ascend : (object : ℕ) → ascends (X.names object) ≡ true
  pub can : CanGlue C rule tuple X context
  pub room : too_large rule context.next ≡ None

-- the classes of the parts of both sides, the names of the classes, and what merging their cells gave
pub record AreNamedClasses (C : Signature) (rule : RuleLists) (context : ContextLists) (kept : List (List ℕ)) (left right : RowLists)
    (numbers firsts : List (List ℕ)) (merged : List Merged) (names : List (List ℕ)) : Type 0 where
  pub classes : AreClassesBy C.objects left right kept rule.r numbers firsts
  pub lists : length numbers ≡ C.objects
  pub each : length merged ≡ length C.attributes
  pub merges : MergesEach left right numbers firsts C.attributes merged
  pub named : AreAll [] (AreClassNames rule context.next left.names firsts) C.objects names

-- the names that get other names, the names of the parts of the right side, and the change that is made of them
pub record IsChangeBy (C : Signature) (X : Instance) (rule : RuleLists) (context : ContextLists) (left right : RowLists)
    (numbers : List (List ℕ)) (merged : List Merged) (names : List (List ℕ)) (change : ChangeLists) : Type 0 where
  pub moved : List (List (ℕ × ℕ))
  pub placed : List (List ℕ)
  pub moves : AreAll [] (AreMoved left.names numbers names) C.objects moved
  pub places : AreAll [] (ArePlaced left.names numbers names) C.objects placed
  pub made : IsMadeOf C X rule context left right numbers merged moved placed change

-- the change is made of the classes, where no atoms of theirs clash
pub record IsGluedChange (C : Signature) (X : Instance) (rule : RuleLists) (context : ContextLists) (kept : List (List ℕ)) (left right : RowLists)
    (change : ChangeLists) : Type 0 where
  pub numbers : List (List ℕ)
  pub firsts : List (List ℕ)
  pub merged : List Merged
  pub names : List (List ℕ)
  pub are : AreNamedClasses C rule context kept left right numbers firsts merged names
  pub free : FirstOf (length C.attributes) C.attributes merged None
  pub by : IsChangeBy C X rule context left right numbers merged names change

-- the end tells of the first clash of the classes
pub record IsGluedClash (C : Signature) (rule : RuleLists) (context : ContextLists) (kept : List (List ℕ)) (left right : RowLists) (end : GlueEnd) : Type 0 where
  pub numbers : List (List ℕ)
  pub firsts : List (List ℕ)
  pub merged : List Merged
  pub names : List (List ℕ)
  pub clash : ClashAt
  pub are : AreNamedClasses C rule context kept left right numbers firsts merged names
  pub first : FirstOf (length C.attributes) C.attributes merged (Some clash)
  pub tells : IsClashEnd clash (cell_at (both_cells left right clash.attr.0)) (list_at names clash.object.0) end

-- a change that is made of the classes of the two sides, or the first clash of these
abbrev pub IsGlued : Signature → Instance → RuleLists → ContextLists → List (List ℕ) → RowLists → RowLists → Result ChangeLists GlueEnd → Type 0
IsGlued C X rule context kept left right (Ok change) = IsGluedChange C X rule context kept left right change
IsGlued C X rule context kept left right (Err (ends.TooLarge object)) = ⊥
IsGlued C X rule context kept left right (Err (ends.Clash object name attr first second)) =
    IsGluedClash C rule context kept left right (ends.Clash object name attr first second)
IsGlued C X rule context kept left right (Err ends.OutOfMemory) = Unit {0}
