-- A variable has a first entry exactly where it has one.
use Rattle.std.proofs.Common.{◌≡◌, ◌∙◌, true, false, ◌||◌, Bool, Bor, Option, Some, None, List, [], ◌∷◌, is_some, option_map, cond, refl, sym, ap}
use Rattle.std.specs.List.{find, list_any}
use Rattle.rw_pattern.specs.declared.cell.PatternCell.{PatternCell}
use Rattle.rw_pattern.specs.Matches.{wants}
use Rattle.rw_rule.proofs.sets.is_bound.Goals as goal

-- a first item that passes is there exactly where one passes
is_some_find : {X : Type 0} (p : X → Bool) (xs : List X) → is_some (find p xs) ≡ list_any p xs
is_some_find p [] = refl
is_some_find p (x ∷ xs) = elim (p x) as (λ b. is_some (cond b (Some x) (find p xs)) ≡ (b || list_any p xs)) [ true ↦ refl | false ↦ is_some_find p xs ]

-- a map leaves what is there
is_some_map : {X Y : Type 0} (f : X → Y) (o : Option X) → is_some (option_map f o) ≡ is_some o
is_some_map f None = refl
is_some_map f (Some x) = refl

pub returns : goal.returns
returns c =
    let p : PatternCell → Bool = λ (entry : PatternCell). wants c.args.variable entry.want in
    c.is_some.ensures ∙ sym (is_some_map (λ (entry : Bor PatternCell). entry.now) c.first_of.result) ∙ ap is_some c.first_of.ensures
    ∙ is_some_find p c.args.left.now.cells
