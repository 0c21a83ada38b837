-- What follows from some elements along a finite list of edges, as a test.
use Rattle.std.proofs.Common.{◌≡◌, zero, suc, Bool, true, false, cond, List, [], ◌∷◌, Contains, refl, sym, subst, arith}
use Rattle.std.specs.List.{list_any}
use Rattle.std.proofs.lemmas.Bool.{both_ways}
use Rattle.std.proofs.lemmas.List.Folds.{Any-from_list_any, list_any_at}
use Rattle.rw_spec.proofs.Sequences.{contains_here, contains_later}

-- what is contained is the first item, or later ones contain it
pub first_or_later : {X : Type 0} (Q : X → Type 0) (x : X) (xs : List X) → Q x → ((y : X) → Contains xs y → Q y) → (y : X) → Contains (x ∷ xs) y → Q y
first_or_later Q x xs first later y (zero, within, is) = subst Q is first
first_or_later Q x xs first later y (suc k, within, is) = later y (k, omega (arith, within), is)

-- what is reached from the starts: along an edge more also from its end, where its beginning is reached
abbrev pub reaches : {X : Type 0} → (X → X → Bool) → List (X × X) → List X → X → Bool
reaches is_same [] starts = λ x. list_any (λ y. is_same y x) starts
reaches is_same (edge ∷ edges) starts = cond (reaches is_same edges starts edge.0) (reaches is_same edges (edge.1 ∷ starts)) (reaches is_same edges starts)

module _ {X : Type 0} (is_same : X → X → Bool) (same_is : (x y : X) → is_same x y ≡ true → x ≡ y) (is_itself : (x : X) → is_same x x ≡ true) (P : X → Type 0) where
  -- the test passes for the starts, and with one end of an edge for the other; what P says of the starts, and with one end of an edge
  -- of the other, it says of each element that passes
  pub record IsClosure (edges : List (X × X)) (starts : List X) (test : X → Bool) : Type 0 where
    pub begins : (x : X) → Contains starts x → test x ≡ true
    pub onward : (edge : X × X) → Contains edges edge → test edge.0 ≡ true → test edge.1 ≡ true
    pub each : ((x : X) → Contains starts x → P x) → ((edge : X × X) → Contains edges edge → P edge.0 → P edge.1) → (x : X) → test x ≡ true → P x

  -- without edges it is the starts
  no_edges : (starts : List X) → IsClosure [] starts (λ x. list_any (λ y. is_same y x) starts)
  no_edges starts = record {
    begins = λ x there.
        list_any_at (λ y. is_same y x) starts there.0 x there.1 (subst (λ (y : X). is_same y x ≡ true) (sym there.2) (is_itself x));
    onward = λ edge there passes. absurd (omega (arith, there.1));
    each = λ first onward x passes.
        let found = Any-from_list_any (λ y. is_same y x) starts passes in
        subst P (same_is found.1 x found.4) (first found.1 (found.0, found.2, found.3));
  }

  -- an edge more, from an element that passes or from one that does not
  edge_more : (edge : X × X) (edges : List (X × X)) (starts : List X) (test more : X → Bool) → IsClosure edges starts test → IsClosure edges (edge.1 ∷ starts) more
      → (passes : Bool) → test edge.0 ≡ passes → IsClosure (edge ∷ edges) starts (cond passes more test)
  edge_more edge edges starts test more known onward true passes = record {
    begins = λ x there. onward.begins x (contains_later edge.1 starts x there);
    onward = λ other there.
        first_or_later (λ (other : X × X). more other.0 ≡ true → more other.1 ≡ true) edge edges (λ from. onward.begins edge.1 (contains_here edge.1 starts)) onward.onward other there;
    each = λ first carries x.
        let rest : (other : X × X) → Contains edges other → P other.0 → P other.1 = λ other there. carries other (contains_later edge edges other there) in
        let end : P edge.1 = carries edge (contains_here edge edges) (known.each first rest edge.0 passes) in
        onward.each (first_or_later P edge.1 starts end first) rest x;
  }
  edge_more edge edges starts test more known onward false fails = record {
    begins = known.begins;
    onward = λ other there.
        first_or_later (λ (other : X × X). test other.0 ≡ true → test other.1 ≡ true) edge edges (λ from. absurd (both_ways (test edge.0) fails from)) known.onward other there;
    each = λ first carries x. known.each first (λ other there. carries other (contains_later edge edges other there)) x;
  }

  -- what is reached is the closure
  pub closure : (edges : List (X × X)) (starts : List X) → IsClosure edges starts (reaches is_same edges starts)
  closure [] starts = no_edges starts
  closure (edge ∷ edges) starts =
      edge_more edge edges starts (reaches is_same edges starts) (reaches is_same edges (edge.1 ∷ starts)) (closure edges starts) (closure edges (edge.1 ∷ starts))
      (reaches is_same edges starts edge.0) refl
