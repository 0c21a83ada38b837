-- What is glued, as a change of the host.
use Rattle.std.specs.Prelude.{◌≡◌, ℕ, List, Some, None, Result, Ok, Err}
use Rattle.rw_schema.specs.Signature.{Signature}
use Rattle.rw_spec.specs.Cocone.{IsCocone}
use Rattle.rw_spec.specs.Instance.{Instance}
use Rattle.rw_spec.specs.Natural.{Map}
use Rattle.rw_terms.specs.declared.code.OpCode.{OpCode}
use Rattle.rw_pattern.specs.MapFaults.{image_of}
use Rattle.rw_rule.specs.RuleLists.{RuleLists}
use Rattle.rw_rule.specs.declared.refusal.Refusal.TheVariants as refusals
use Rattle.rw_columns.specs.Changes.{ChangeLists}
use Rattle.rw_glued.specs.Clash.{Clashes}
use Rattle.rw_local.specs.Answer.{IsAnswer}
use Rattle.rw_redex.specs.Instantiated.{redex_of, right_at}
use Rattle.rw_redex.specs.Obstructions.{too_large}
use Rattle.rw_redex.specs.Verdicts.{step_frame}
use Rattle.rw_glue.specs.declared.end.GlueEnd.{GlueEnd}
use Rattle.rw_glue.specs.declared.end.GlueEnd.TheVariants as ends

-- there is no cocone over the context and the right side, whatever its names
abbrev pub HasNoCocone : Signature → List OpCode → RuleLists → List ℕ → Instance → Type 0
HasNoCocone C codes rule tuple X = (T : Instance) (d s : Map) → IsCocone C (step_frame C codes rule tuple X) T d s → ⊥

-- the change carries X to the double pushout; else there is no room for a name, or two atoms meet and there is no cocone at all
abbrev pub Glues : Signature → List OpCode → RuleLists → List ℕ → Instance → List ℕ → Result ChangeLists GlueEnd → Type 0
Glues C codes rule tuple X next (Ok change) =
    (too_large rule next ≡ None) × IsAnswer C (redex_of rule tuple X) (right_at codes rule tuple X) (image_of rule.r) next change
Glues C codes rule tuple X next (Err (ends.TooLarge object)) = too_large rule next ≡ Some (refusals.TooLarge object)
Glues C codes rule tuple X next (Err (ends.Clash object name attr first second)) =
    (too_large rule next ≡ None) × Clashes C (step_frame C codes rule tuple X) next object.0 name attr.0 first second × HasNoCocone C codes rule tuple X
Glues C codes rule tuple X next (Err ends.OutOfMemory) = Unit {0}
