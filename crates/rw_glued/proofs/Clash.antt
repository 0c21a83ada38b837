-- Where there is a cocone, the atoms of the parts of each class are one.
use Rattle.std.proofs.Common.{◌≡◌, ◌∙◌, ◌<◌, ℕ, slice_index, sym, ap}
use Rattle.rw_schema.specs.Signature.{Signature, IsCategory}
use Rattle.rw_spec.specs.Cocone.{Frame, IsCocone}
use Rattle.rw_spec.specs.Instance.{Instance}
use Rattle.rw_spec.specs.Natural.{Map, IsNatural}
use Rattle.rw_classes.specs.Classes.{Joins, AreClasses}
use Rattle.rw_classes.specs.Places.{count_at, joined_at, either}
use Rattle.rw_classes.proofs.NoCocone.{carried, cocone_joins}
use Rattle.rw_complement.proofs.Tests.{same_some}
use Rattle.rw_glued.specs.Result.{Classing, HaveOneAtom}

-- where there is a cocone, the atoms of the parts of each class are one
pub cocone_has_one_atom : (C : Signature) → IsCategory C → (F : Frame) → IsNatural C F.apex F.left F.to_left → IsNatural C F.apex F.right F.to_right
    → (numbers firsts : Classing) → ((object : ℕ) → object < C.objects → AreClasses (count_at F object) (joined_at F object) (numbers object) (firsts object))
    → (T : Instance) (d s : Map) → IsCocone C F T d s → HaveOneAtom C F numbers
cocone_has_one_atom C category F to_left to_right numbers firsts classes T d s cocone c ends e other a b there within other_within same is other_is =
    let object : ℕ = ends.object.0 in
    let known : object < C.objects = category.holders c ends there in
    let h : ℕ → ℕ = either (F.left.names object) (F.right.names object) (d object) (s object) in
    let joins : Joins (joined_at F object) h = cocone_joins C F object T d s known to_left to_right cocone in
    let meet : h e ≡ h other =
    sym ((classes object known).finest h joins e within) ∙ ap (λ (k : ℕ). h (slice_index (firsts object) k)) same ∙ (classes object known).finest h joins other other_within in
    same_some (T.cell c (h e)) a b (carried C F c ends T d s there cocone e a within is)
    (ap (T.cell c) meet ∙ carried C F c ends T d s there cocone other b other_within other_is)
