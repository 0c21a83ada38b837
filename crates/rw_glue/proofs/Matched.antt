-- The cells of a left pattern's entries, at a match.
use Rattle.std.proofs.Common.{◌≡◌, ◌∙◌, ◌<◌, ℕ, Contains, List, [], ◌∷◌, length, map, slice_index, refl, ap, subst, inl, inr, arith}
use Rattle.std.proofs.lemmas.Bool.{cases_lt}
use Rattle.std.proofs.lemmas.List.{get_or_past, length-map}
use Rattle.std.proofs.lemmas.List.Elements.{All-contains}
use Rattle.rw_schema.specs.declared.ids.ObjectId.{ObjectId}
use Rattle.rw_schema.specs.declared.signature.AttrEnds.{AttrEnds}
use Rattle.rw_schema.specs.Signature.{Signature, holder_of}
use Rattle.rw_spec.specs.Instance.{Instance, Has}
use Rattle.rw_pattern.specs.Matches.{matches}
use Rattle.rw_pattern.specs.PatternLists.{PatternLists, cell_place, holder}
use Rattle.rw_pattern.proofs.PartNames.{has_part}
use Rattle.rw_pattern.proofs.Shapes.{is_pattern}
use Rattle.rw_rule.specs.RuleFaults.{IsRuleOver}
use Rattle.rw_rule.specs.RuleLists.{RuleLists}
use Rattle.rw_redex.specs.RuleParts.{IsOnCell}
use Rattle.rw_redex.proofs.PartNames.{match_long}
use Rattle.rw_redex.proofs.SetKinds.{entries_on_cells, match_of}
use Rattle.rw_glue.specs.inner.Sides.{HasCells}

-- a map of a map
map_of_map : (attributes : List AttrEnds) → map (λ (object : ObjectId). object.0) (map (λ (ends : AttrEnds). ends.object) attributes) ≡ map (λ (ends : AttrEnds). ends.object.0) attributes
map_of_map [] = refl
map_of_map (ends ∷ attributes) = ap (λ rest. ends.object.0 ∷ rest) (map_of_map attributes)

-- an object of which there is a part has a size
pub size_within : (sizes : List ℕ) (object part : ℕ) → part < slice_index sizes object → object < length sizes
size_within sizes object part below =
    elim (cases_lt object (length sizes)) [
      | inl within ↦ within
      | inr past ↦ let none : slice_index sizes object ≡ 0 = get_or_past sizes object 0 past in absurd (omega (arith, none, below))
    ]

-- each entry of the left pattern of a rule is on a cell that a match gives a name
pub has_cells : (C : Signature) (ops : ℕ) (rule : RuleLists) (tuple : List ℕ) (X : Instance) → IsRuleOver C ops rule
    → Contains (matches C rule.goal.left rule.goal.monic X) tuple → HasCells C X rule.goal.left tuple
has_cells C ops rule tuple X over matched =
    let left : PatternLists = rule.goal.left in
    let pattern = over.parts.goal.left in
    let on = entries_on_cells C rule pattern in
    let natural = (match_of C rule tuple X pattern matched).natural in
    let same : (a : ℕ) → holder left a ≡ holder_of C a =
    λ a. ap (λ (holders : List ObjectId). slice_index (map (λ (object : ObjectId). object.0) holders) a) pattern.holders ∙ ap (λ (objects : List ℕ). slice_index objects a) (map_of_map C.attributes) in
    record {
      cells = on;
      holders = ap length pattern.holders ∙ length-map C.attributes (λ (ends : AttrEnds). ends.object);
      whole = match_long C left rule.goal.monic X tuple matched;
      there = λ entry among.
          let cell = All-contains (IsOnCell left) left.cells entry on among in
          subst (λ (object : ℕ). Has X object (slice_index tuple (cell_place left entry))) (same entry.attr.0)
          (natural.parts (holder left entry.attr.0) entry.part
          (rw (← (is_pattern C left (rule.goal.kinds, pattern)).sizes_long) (size_within left.sizes (holder left entry.attr.0) entry.part cell.0)) (has_part left (holder left entry.attr.0) entry.part cell.0));
    }
