-- The cells of the classes of all objects, and the first clash of those: what proofs and functions inside the crate speak of.
use Rattle.std.specs.Prelude.{◌==◌, ◌&&◌, ◌||◌, ℕ, Bool, nat_lt, cond, Option, Some, None}
use Rattle.rw_schema.specs.declared.signature.AttrEnds.{AttrEnds}
use Rattle.rw_classes.specs.declared.clashes.ClashAt.{ClashAt}
use Rattle.rw_classes.specs.declared.merge.Merged.{Merged}
use Rattle.rw_classes.specs.declared.merge.Merged.TheVariants.{Firsts, Differ}

-- the clash at an attribute, or none where merging its cells gave none
abbrev pub clash_at : ℕ → AttrEnds → Merged → Option ClashAt
clash_at c ends (Firsts firsts) = None
clash_at c ends (Differ difference) = Some (record { object = ends.object; attr = record { 0 = c }; difference = difference })

-- the clash is at an earlier object, or there at an earlier class
abbrev pub comes_earlier : ClashAt → ClashAt → Bool
comes_earlier clash other =
    nat_lt clash.object.0 other.object.0 || (clash.object.0 == other.object.0 && nat_lt clash.difference.class other.difference.class)

-- the new clash where it comes before the one found, else this
abbrev pub lesser : Option ClashAt → Option ClashAt → Option ClashAt
lesser None new = new
lesser (Some found) None = Some found
lesser (Some found) (Some new) = cond (comes_earlier new found) (Some new) (Some found)
