-- What it says that nothing obstructs a match before atoms are compared.
use Rattle.std.proofs.Common.{◌≡◌, ℕ, List, None}
use Rattle.rw_schema.specs.First.{or_else}
use Rattle.rw_schema.specs.Signature.{Signature}
use Rattle.rw_schema.proofs.Firsts.{or_else_none}
use Rattle.rw_spec.specs.Instance.{Instance}
use Rattle.rw_terms.specs.declared.code.OpCode.{OpCode}
use Rattle.rw_rule.specs.RuleLists.{RuleLists}
use Rattle.rw_redex.specs.Gluing.{identification}
use Rattle.rw_redex.specs.Obstructions.{dangling, too_large}
use Rattle.rw_redex.specs.SetValues.{no_value}
use Rattle.rw_redex.specs.Verdicts.{early}

-- nothing is identified and no arrow dangles
pub glued_free : (C : Signature) (codes : List OpCode) (rule : RuleLists) (tuple : List ℕ) (X : Instance) (next : List ℕ) → early C codes rule tuple X next ≡ None
    → (identification rule tuple ≡ None) × (dangling C rule tuple X ≡ None)
glued_free C codes rule tuple X next none =
    let last = or_else (no_value C codes rule tuple X) (too_large rule next) in
    let first = or_else_none (identification rule tuple) (or_else (dangling C rule tuple X) last) none in
    (first.0, (or_else_none (dangling C rule tuple X) last first.1).0)
