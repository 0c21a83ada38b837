-- Where l sends no two parts to one, the context of a sesqui-pushout step is the only one, over any schema, and gives no new names.
use Rattle.std.proofs.Common.{◌≡◌, ◌∙◌, ◌<◌, ℕ, inl, inr, sym, ap, subst, arith}
use Rattle.std.proofs.lemmas.Bool.{cases_lt}
use Rattle.rw_schema.specs.Signature.{Signature, IsCategory}
use Rattle.rw_spec.specs.Instance.{Instance, Has}
use Rattle.rw_spec.specs.Natural.{Map, SameOn}
use Rattle.rw_copies.specs.FinalComplement.{IsIsomorphism, IsFinalComplement}
use Rattle.rw_copies.specs.CopyNames.{IsCopyContext, AreEqualContexts}
use Rattle.rw_complement.specs.Complement.{identity}
use Rattle.rw_copies.proofs.Once.{final_once, same_where_names_stay}
use Rattle.rw_spec.specs.Redex.{Redex}

pub kept_context_once : (C : Signature) → IsCategory C → (R : Redex) → (next : ℕ → ℕ) → ((object g : ℕ) → object < C.objects → Has R.host object g → g < next object)
    → (D : Instance) (k : Map) → IsFinalComplement C R D k identity → (E : Instance) (j i : Map) (end : ℕ → ℕ) → IsCopyContext C R next E j i end
    → AreEqualContexts C R D k identity next E j i end
kept_context_once C category R next hosts D k first E j i end other =
    let maps = final_once C category R D k identity E j i first other.final in
    let u : Map = maps.0 in
    let v : Map = maps.1 in
    let same : IsIsomorphism C R D k identity E j i u v = maps.2 in
    let itself : (object x : ℕ) → object < C.objects → Has D object x → (Has E object x) × (i object x ≡ x) = λ object x below part.
    let image = same.inverse.there object x below part in
    let over : i object (u object x) ≡ x = same.there.over_host object x below part in
    let there : Has E object x = subst (λ (y : ℕ). Has E object y) over ((other.names object below).first (u object x) image) in
    (there, (other.names object below).old x there (hosts object x below (first.to_host.natural.parts object x below part))) in
    let stay : SameOn C D u identity = λ object x below part.
    let own = itself object x below part in
    let back : v object x ≡ x = same.back.over_host object x below own.0 ∙ own.1 in
    ap (u object) (sym back) ∙ same.inverse.goes object x below own.0 in
    let back_stay : SameOn C E v identity = λ object y below part.
    let back = same.inverse.back object y below part in
    sym (stay object (v object y) below back) ∙ same.inverse.goes object y below part in
    let equal = same_where_names_stay C category R D k identity E j i u v first same stay in
    record {
      same = equal.0;
      from_keep = equal.1;
      to_host = equal.2;
      next = λ object below.
          let grows = (other.names object below).grows in
          elim (cases_lt (next object) (end object)) [
            | inl less ↦
                let there = (other.names object below).all (next object) (omega arith) less in
                let in_first : Has D object (next object) = subst (λ (y : ℕ). Has D object y) (back_stay object (next object) below there) (same.inverse.back object (next object) below there) in
                let low = hosts object (next object) below (first.to_host.natural.parts object (next object) below in_first) in
                absurd (omega arith)
            | inr more ↦ omega arith
          ];
    }
