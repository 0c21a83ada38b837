-- Trees whose ways are halved, and trees that are joined.
use Rattle.std.proofs.Common.{◌≡◌, ◌≢◌, ◌<◌, ◌≤◌, ℕ, List, [], ◌∷◌, ◌++◌, All, length, set, slice_index, sym, ap, ◌∙◌, subst, inl, inr, arith}
use Rattle.std.proofs.Math.Seq.{take-append_seam, drop-append_seam}
use Rattle.std.proofs.lemmas.Bool.{cases_eq}
use Rattle.std.proofs.lemmas.List.{length-set, get_or-set_same, get_or-set_other}
use Rattle.std.proofs.lemmas.List.Elements.{All-nil, All-cons, All-head, All-append, All-take, All-drop}
use Rattle.rw_classes.specs.Classes.{Joins}
use Rattle.rw_classes.specs.inner.Links.{Descends, Follows, IsShortened, IsRootOf, AreUnited}

-- a write keeps a fact on each number and its parent, if it holds at the place that is written
written : (P : ℕ → ℕ → Type 0) (parents : List ℕ) (place parent : ℕ) → place < length parents → P place parent
    → ((x : ℕ) → x < length parents → x ≢ place → P x (slice_index parents x))
    → (x : ℕ) → x < length (set parents place parent) → P x (slice_index (set parents place parent) x)
written P parents place parent within here others x x_within =
    let x_there : x < length parents = subst (λ (n : ℕ). x < n) (length-set parents place parent) x_within in
    elim (cases_eq x place) [
      | inl same ↦
          let is : slice_index (set parents place parent) x ≡ parent =
          ap (slice_index (set parents place parent)) same ∙ get_or-set_same parents place parent 0 within in
          subst (P x) (sym is) (subst (λ (y : ℕ). P y parent) (sym same) here)
      | inr other ↦ subst (P x) (sym (get_or-set_other parents place x parent 0 other)) (others x x_there other)
    ]

-- what holds of the new parent of a place that is written
at_written : (h : ℕ → ℕ) (parents : List ℕ) (place parent : ℕ) → place < length parents → Follows (set parents place parent) h → h parent ≡ h place
at_written h parents place parent within follows =
    ap h (sym (get_or-set_same parents place parent 0 within)) ∙ follows place (subst (λ (n : ℕ). place < n) (sym (length-set parents place parent)) within)

-- another place than the one that is written has the parent that it had
at_others : (h : ℕ → ℕ) (parents : List ℕ) (place parent : ℕ) → Follows (set parents place parent) h
    → (x : ℕ) → x < length parents → x ≢ place → h (slice_index parents x) ≡ h x
at_others h parents place parent follows x within other =
    ap h (sym (get_or-set_other parents place x parent 0 other)) ∙ follows x (subst (λ (n : ℕ). x < n) (sym (length-set parents place parent)) within)

-- what follows the parents is one at a number and at its parent's parent
pub beyond_shared : (h : ℕ → ℕ) (parents : List ℕ) (place parent beyond : ℕ) → Descends parents → place < length parents → slice_index parents place ≡ parent
    → slice_index parents parent ≡ beyond → Follows parents h → h beyond ≡ h place
beyond_shared h parents place parent beyond descends within is beyond_is follows =
    let parent_least : parent ≤ place = subst (λ (y : ℕ). y ≤ place) is (descends place within) in
    ap h (sym beyond_is) ∙ follows parent (omega arith) ∙ ap h (sym is) ∙ follows place within

-- a number that is not a root may get its parent's parent
pub halved : (parents : List ℕ) (place parent beyond : ℕ) → Descends parents → place < length parents → slice_index parents place ≡ parent → slice_index parents parent ≡ beyond
    → parent ≢ place → IsShortened parents (set parents place beyond)
halved parents place parent beyond descends within is beyond_is below =
    let parent_least : parent ≤ place = subst (λ (y : ℕ). y ≤ place) is (descends place within) in
    let parent_within : parent < length parents = omega arith in
    let beyond_least : beyond ≤ parent = subst (λ (y : ℕ). y ≤ parent) beyond_is (descends parent parent_within) in
    record {
      same = length-set parents place beyond;
      descends = written (λ x y. y ≤ x) parents place beyond within (omega arith) (λ x x_within other. descends x x_within);
      onward = λ h follows.
          written (λ x y. h y ≡ h x) parents place beyond within (beyond_shared h parents place parent beyond descends within is beyond_is follows)
          (λ x x_within other. follows x x_within);
      back = λ h follows x x_within.
          elim (cases_eq x place) [
            | inl same ↦
                let at_place : h beyond ≡ h place = at_written h parents place beyond within follows in
                let at_parent : h beyond ≡ h parent = ap h (sym beyond_is) ∙ at_others h parents place beyond follows parent parent_within below in
                let there : h (slice_index parents place) ≡ h place = ap h is ∙ sym at_parent ∙ at_place in
                subst (λ (y : ℕ). h (slice_index parents y) ≡ h y) (sym same) there
            | inr other ↦ at_others h parents place beyond follows x x_within other
          ];
      roots = λ x x_within own.
          let other : x ≢ place = λ same. below (sym is ∙ ap (slice_index parents) (sym same) ∙ own ∙ same) in
          get_or-set_other parents place x beyond 0 other ∙ own;
    }

-- shortened twice is shortened
pub shortened_more : (old half new : List ℕ) → IsShortened old half → IsShortened half new → IsShortened old new
shortened_more old half new first second = record {
  same = second.same ∙ first.same;
  descends = second.descends;
  onward = λ h follows. second.onward h (first.onward h follows);
  back = λ h follows. first.back h (second.back h follows);
  roots = λ x within own. second.roots x (subst (λ (n : ℕ). x < n) (sym first.same) within) (first.roots x within own);
}

-- a root stays one, of the same tree, where the ways of others are shortened
pub root_kept : (old new : List ℕ) (x root : ℕ) → IsShortened old new → IsRootOf old x root → IsRootOf new x root
root_kept old new x root shortened is_root = record {
  within = subst (λ (n : ℕ). root < n) (sym shortened.same) is_root.within;
  own = shortened.roots root is_root.within is_root.own;
  shared = λ h follows. is_root.shared h (shortened.back h follows);
}

-- h does not tell the two numbers of a pair apart
abbrev SamePair : (ℕ → ℕ) → ℕ × ℕ → Type 0
SamePair h pair = h pair.0 ≡ h pair.1

-- one pair that h does not tell apart
only_pair : (h : ℕ → ℕ) (x y : ℕ) → h x ≡ h y → Joins ((x, y) ∷ []) h
only_pair h x y same = All-cons (SamePair h) (x, y) [] same (All-nil (SamePair h))

-- what follows the parents after a write at a root followed them before
linked_back : (parents : List ℕ) (parent place : ℕ) → place < length parents → slice_index parents place ≡ place
    → (h : ℕ → ℕ) → Follows (set parents place parent) h → Follows parents h
linked_back parents parent place within own h follows x x_within =
    elim (cases_eq x place) [
      | inl same ↦ subst (λ (y : ℕ). h (slice_index parents y) ≡ h y) (sym same) (ap h own)
      | inr other ↦ at_others h parents place parent follows x x_within other
    ]

-- a root gets a lesser or the same root as its parent
pub linked : (parents : List ℕ) (x y lesser greater : ℕ) → Descends parents → IsRootOf parents x greater → IsRootOf parents y lesser → lesser ≤ greater
    → AreUnited ((x, y) ∷ []) parents (set parents greater lesser)
linked parents x y lesser greater descends greater_root lesser_root order = record {
  same = length-set parents greater lesser;
  descends = written (λ child parent. parent ≤ child) parents greater lesser greater_root.within order (λ z within other. descends z within);
  onward = λ h follows joins.
      let pair : h x ≡ h y = All-head (SamePair h) (x, y) [] joins in
      let here : h lesser ≡ h greater = lesser_root.shared h follows ∙ sym pair ∙ sym (greater_root.shared h follows) in
      written (λ child parent. h parent ≡ h child) parents greater lesser greater_root.within here (λ z within other. follows z within);
  back = linked_back parents lesser greater greater_root.within greater_root.own;
  joins = λ h follows.
      let others : Follows parents h = linked_back parents lesser greater greater_root.within greater_root.own h follows in
      let here : h lesser ≡ h greater = at_written h parents greater lesser greater_root.within follows in
      only_pair h x y (sym (greater_root.shared h others) ∙ sym here ∙ lesser_root.shared h others);
}

-- the pair may stand the other way round
pub turned : (x y : ℕ) (old new : List ℕ) → AreUnited ((x, y) ∷ []) old new → AreUnited ((y, x) ∷ []) old new
turned x y old new united = record {
  same = united.same;
  descends = united.descends;
  onward = λ h follows joins. united.onward h follows (only_pair h x y (sym (All-head (SamePair h) (y, x) [] joins)));
  back = united.back;
  joins = λ h follows. only_pair h y x (sym (All-head (SamePair h) (x, y) [] (united.joins h follows)));
}

-- shorter ways join nothing
pub shortened_joins_none : (old new : List ℕ) → IsShortened old new → AreUnited [] old new
shortened_joins_none old new shortened = record {
  same = shortened.same;
  descends = shortened.descends;
  onward = λ h follows joins. shortened.onward h follows;
  back = shortened.back;
  joins = λ h follows. All-nil (SamePair h);
}

-- what is joined by the first pairs and then by others is joined by all
pub united_more : (first others : List (ℕ × ℕ)) (old half new : List ℕ) → AreUnited first old half → AreUnited others half new → AreUnited (first ++ others) old new
united_more first others old half new before after = record {
  same = after.same ∙ before.same;
  descends = after.descends;
  onward = λ h follows joins.
      let first_joins : Joins first h = subst (All (SamePair h)) (take-append_seam first others) (All-take (SamePair h) (length first) (first ++ others) joins) in
      let others_join : Joins others h = subst (All (SamePair h)) (drop-append_seam first others) (All-drop (SamePair h) (length first) (first ++ others) joins) in
      after.onward h (before.onward h follows first_joins) others_join;
  back = λ h follows. before.back h (after.back h follows);
  joins = λ h follows. All-append (SamePair h) first others (before.joins h (after.back h follows)) (after.joins h follows);
}
