-- What obstructs a rule at a match, in order.
use Rattle.std.specs.Prelude.{◌≡◌, ℕ, List, Option, Some, None}
use Rattle.rw_schema.specs.First.{or_else}
use Rattle.rw_schema.specs.Signature.{Signature}
use Rattle.rw_spec.specs.Cocone.{Frame}
use Rattle.rw_spec.specs.Instance.{Instance}
use Rattle.rw_pattern.specs.MapFaults.{image_of}
use Rattle.rw_terms.specs.declared.code.OpCode.{OpCode}
use Rattle.rw_rule.specs.RuleLists.{RuleLists}
use Rattle.rw_rule.specs.declared.refusal.Refusal.{Refusal}
use Rattle.rw_rule.specs.declared.refusal.Refusal.TheVariants.{Identification, Dangling, NoValue, TooLarge, Clash}
use Rattle.rw_complement.specs.Context.{context_of, context_map}
use Rattle.rw_complement.specs.Named.{right_frame}
use Rattle.rw_glued.specs.Clash.{Clashes}
use Rattle.rw_redex.specs.Gluing.{identification}
use Rattle.rw_redex.specs.Instantiated.{redex_of, right_at}
use Rattle.rw_redex.specs.Obstructions.{dangling, too_large}
use Rattle.rw_redex.specs.SetValues.{no_value}

-- the first obstruction before atoms are compared: parts that are identified, an arrow that dangles, a set without a value, or
-- too many names
abbrev pub early : Signature → List OpCode → RuleLists → List ℕ → Instance → List ℕ → Option Refusal
early C codes rule tuple X next =
    or_else (identification rule tuple) (or_else (dangling C rule tuple X) (or_else (no_value C codes rule tuple X) (too_large rule next)))

-- the context and the right side at a match, to be glued along what is kept
abbrev pub step_frame : Signature → List OpCode → RuleLists → List ℕ → Instance → Frame
step_frame C codes rule tuple X =
    right_frame (redex_of rule tuple X) (right_at codes rule tuple X) (image_of rule.r) (context_of C (redex_of rule tuple X)) (context_map (redex_of rule tuple X))

-- this is what obstructs the match first: atoms are compared where nothing is in the way before
abbrev pub Obstructs : Signature → List OpCode → RuleLists → List ℕ → Instance → List ℕ → Refusal → Type 0
Obstructs C codes rule tuple X next (Identification object first second) = early C codes rule tuple X next ≡ Some (Identification object first second)
Obstructs C codes rule tuple X next (Dangling arrow part) = early C codes rule tuple X next ≡ Some (Dangling arrow part)
Obstructs C codes rule tuple X next (NoValue part attr) = early C codes rule tuple X next ≡ Some (NoValue part attr)
Obstructs C codes rule tuple X next (TooLarge object) = early C codes rule tuple X next ≡ Some (TooLarge object)
Obstructs C codes rule tuple X next (Clash object name attr first second) =
    (early C codes rule tuple X next ≡ None) × Clashes C (step_frame C codes rule tuple X) next object.0 name attr.0 first second
