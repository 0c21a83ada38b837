-- What is known of final pullback complements, in one place.
use Rattle.std.proofs.Common.{◌∙◌, ◌<◌, ℕ, Bool, refl, sym, arith}
use Rattle.rw_schema.specs.Signature.{Signature, IsCategory}
use Rattle.rw_spec.specs.Instance.{Instance, Has}
use Rattle.rw_spec.specs.Natural.{Map}
use Rattle.rw_spec.specs.Redex.{Redex}
use Rattle.rw_complement.specs.Complement.{identity}
use Rattle.rw_copies.specs.CopyNames.{AreCopyNames, AreEqualContexts}
use Rattle.rw_copies.specs.KeptSet.{IsLargestKept}
use Rattle.rw_copies.specs.Laws.{CopiesAreCounted, CopyingsAreFinal, FinalComplementsAreIsomorphic, HaveOneCopyContext, LargestKeptAreContexts}
use Rattle.rw_copies.specs.Order.{place_in}
use Rattle.rw_copies.proofs.Context.{some_context}
use Rattle.rw_copies.proofs.Counts.{count_is_product, count_of_more}
use Rattle.rw_copies.proofs.Final.{final_from_copying}
use Rattle.rw_copies.proofs.InjectiveOnce.{kept_context_once}
use Rattle.rw_copies.proofs.KeptSet.{final_from_largest}
use Rattle.rw_copies.proofs.Named.{context_once}
use Rattle.rw_copies.proofs.Once.{final_once}
use Rattle.rw_copies.proofs.Order.{in_order, numbers_of, order_covers, rank_from_order}

-- contexts that equal one context are equal
equal_to_one : (C : Signature) → IsCategory C → (R : Redex) (M : Instance) (m n : Map) (stop : ℕ → ℕ) (D : Instance) (k e : Map) (last : ℕ → ℕ) (E : Instance) (j i : Map) (end : ℕ → ℕ)
    → AreEqualContexts C R M m n stop D k e last → AreEqualContexts C R M m n stop E j i end → AreEqualContexts C R D k e last E j i end
equal_to_one C category R M m n stop D k e last E j i end first second = record {
  same = record {
    names = λ object x below. (
      (λ part. (second.same.names object x below).0 ((first.same.names object x below).1 part)),
      (λ part. (first.same.names object x below).0 ((second.same.names object x below).1 part)),
    );
    values = λ a ends x there part.
        let own = (first.same.names ends.source.0 x (category.sources a ends there)).1 part in
        sym (first.same.values a ends x there own) ∙ second.same.values a ends x there own;
    cells = λ c ends x there part.
        let own = (first.same.names ends.object.0 x (category.holders c ends there)).1 part in
        sym (first.same.cells c ends x there own) ∙ second.same.cells c ends x there own;
  };
  from_keep = λ object z below part. sym (first.from_keep object z below part) ∙ second.from_keep object z below part;
  to_host = λ object x below part.
      let own = (first.same.names object x below).1 part in
      sym (first.to_host object x below own) ∙ second.to_host object x below own;
  next = λ object below. sym (first.next object below) ∙ second.next object below;
}

-- each copying is final
pub copyings_final : CopyingsAreFinal
copyings_final C category order topological R match D k e copying =
    final_from_copying C category (place_in order) (rank_from_order C order topological) R match D k e copying

-- final complements are the same but for names
pub finals_isomorphic : FinalComplementsAreIsomorphic
finals_isomorphic = final_once

-- each redex at an injective match has one context
pub one_context : HaveOneCopyContext
one_context C category order topological R next named =
    let ranked = rank_from_order C order topological in
    let made = some_context C category (place_in order) ranked (numbers_of order) (in_order C order topological) (order_covers C order topological)
    R named.match next named.host_ascends named.keep_ascends named.below in
    record {
      exists = made;
      only = λ D k e last E j i end first second.
          equal_to_one C category R made.0 made.1 made.2 made.3 D k e last E j i end
          (context_once C category (place_in order) ranked R named.match next named.below made.0 made.1 made.2 made.3 made.4 made.5.names D k e last first)
          (context_once C category (place_in order) ranked R named.match next named.below made.0 made.1 made.2 made.3 made.4 made.5.names E j i end second);
    }

-- host parts that stay have their names, and take no new ones
kept_names : (C : Signature) (R : Redex) (next : ℕ → ℕ) → ((object g : ℕ) → object < C.objects → Has R.host object g → g < next object)
    → (in_set : ℕ → ℕ → Bool) (D : Instance) (k : Map) → IsLargestKept C R in_set D k → AreCopyNames C R next D k identity next
kept_names C R next hosts in_set D k kept object below = record {
  grows = omega arith;
  old = λ v part old. refl;
  below = λ v part. hosts object v below (kept.back object v below part).0;
  all = λ v new low. absurd (omega arith);
  first = λ v part. part;
  ascend = λ v w v_part w_part new less. omega arith;
  kept_order = λ y z y_has z_has one less. absurd (omega arith);
  copy_order = λ v w a ends v_part w_part outside one less first. absurd (omega arith);
}

-- where l is injective, the largest kept set is the only context
pub kept_contexts : LargestKeptAreContexts
kept_contexts C category R match injective next hosts in_set D k kept =
    let final = final_from_largest C category R match injective in_set D k kept in
    record {
      context = record { final = final; names = kept_names C R next hosts in_set D k kept };
      only = kept_context_once C category R next hosts D k final;
    }

-- copies are counted
pub copies_counted : CopiesAreCounted
copies_counted C R D e object = record {
  copies = λ g free. count_is_product C R D e object g free;
  names = count_of_more C R D e object;
}
