-- The pullback of tables over one schema.
use Rattle.std.proofs.Common.{◌≡◌, ◌<◌, ℕ, None, List, sym, subst}
use Rattle.rw_schema.specs.RowLists.{RowLists}
use Rattle.rw_schema.specs.Signature.{Signature, IsCategory}
use Rattle.rw_spec.specs.Distinct.{AreDistinct}
use Rattle.rw_spec.specs.Homomorphism.{map_of}
use Rattle.rw_spec.specs.Instance.{IsInstance, instance_of}
use Rattle.rw_spec.specs.Pullback.{Cospan}
use Rattle.rw_spec.specs.Tabled.{Tabled, instance_of_table}
use Rattle.rw_table.specs.TableFaults.{table_fault}
use Rattle.rw_table.proofs.Checked.{names_apart}
use Rattle.rw_table.proofs.TableInstance.{table_instance}
use Rattle.rw_map.specs.Homs.{IsHom}
use Rattle.rw_limits.specs.Pullbacks.{IsPullbackOf, cospan_of, pullback_lists, left_parts, right_parts}
use Rattle.rw_limits.proofs.PullbackLists.{lists_are_pullback, lists_are_sound}

-- the cospan of lists over a schema
abbrev pub cospan_with : Signature → RowLists → RowLists → RowLists → List (List ℕ) → List (List ℕ) → Cospan
cospan_with C left right base f g = record {
  left = instance_of C left;
  right = instance_of C right;
  base = instance_of C base;
  left_map = map_of (instance_of C left) f;
  right_map = map_of (instance_of C right) g;
}

module _ (C : Signature) (left right base : Tabled) (f g : List (List ℕ)) (over_left : left.signature ≡ C) (over_right : right.signature ≡ C) (over_base : base.signature ≡ C) where
  -- the lists of the tables are the cospan of the tables
  pub cospan_same : (left_rows right_rows base_rows : RowLists) → left_rows ≡ left.rows → right_rows ≡ right.rows → base_rows ≡ base.rows
      → cospan_with C left_rows right_rows base_rows f g ≡ cospan_of left right base f g
  cospan_same left_rows right_rows base_rows left_is right_is base_is = λ i. record {
    left = instance_of (sym over_left i) (left_is i);
    right = instance_of (sym over_right i) (right_is i);
    base = instance_of (sym over_base i) (base_is i);
    left_map = map_of (instance_of (sym over_left i) (left_is i)) f;
    right_map = map_of (instance_of (sym over_right i) (right_is i)) g;
  }

  module _ (category : IsCategory left.signature) (left_sound : table_fault left.signature left.rows ≡ None) (right_sound : table_fault right.signature right.rows ≡ None)
      (from_left : IsHom C (instance_of_table left) (instance_of_table base) f) (from_right : IsHom C (instance_of_table right) (instance_of_table base) g) where
    is_left : IsInstance C (instance_of_table left)
    is_left = subst (λ signature. IsInstance signature (instance_of_table left)) over_left (table_instance left.signature left.rows left_sound)

    is_right : IsInstance C (instance_of_table right)
    is_right = subst (λ signature. IsInstance signature (instance_of_table right)) over_right (table_instance right.signature right.rows right_sound)

    apart_left : (object : ℕ) → object < C.objects → AreDistinct ((instance_of_table left).names object)
    apart_left object known = names_apart left.signature left.rows object left_sound

    apart_right : (object : ℕ) → object < C.objects → AreDistinct ((instance_of_table right).names object)
    apart_right object known = names_apart right.signature right.rows object right_sound

    -- the lists of the pullback have no fault
    pub pullback_sound : table_fault C (pullback_lists C (cospan_of left right base f g)) ≡ None
    pullback_sound =
        lists_are_sound C (cospan_of left right base f g) (subst IsCategory over_left category) is_left is_right apart_left apart_right
        from_left.homomorphism.natural from_right.homomorphism.natural

    -- and have the universal property
    pub pullback_universal : (table : Tabled) (p q : List (List ℕ)) → table ≡ record { signature = C; rows = pullback_lists C (cospan_of left right base f g) }
        → p ≡ left_parts C (cospan_of left right base f g) → q ≡ right_parts C (cospan_of left right base f g)
        → IsPullbackOf C (cospan_of left right base f g) (record { table = table; left = p; right = q })
    pullback_universal table p q table_is p_is q_is =
        let S = cospan_of left right base f g in
        let universal = lists_are_pullback C S (subst IsCategory over_left category) is_left is_right apart_left apart_right from_left.homomorphism.natural from_right.homomorphism.natural in
        record {
          table = table_is;
          left = p_is;
          right = q_is;
          universal =
              rw (table_is, p_is, q_is) universal;
        }
