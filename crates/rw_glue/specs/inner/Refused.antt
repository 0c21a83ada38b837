-- What a refusal tells of.
use Rattle.std.specs.Prelude.{ℕ, Option, None, Some}
use Rattle.rw_schema.specs.declared.ids.AttrId.{AttrId}
use Rattle.rw_schema.specs.declared.ids.ObjectId.{ObjectId}
use Rattle.rw_rule.specs.declared.refusal.Refusal.{Refusal}
use Rattle.rw_rule.specs.declared.refusal.Refusal.TheVariants.{Identification, Dangling, NoValue, TooLarge, Clash}

-- the object whose next name would be too large
abbrev pub object_told : Refusal → Option ObjectId
object_told (Identification object first second) = None
object_told (Dangling arrow part) = None
object_told (NoValue part attr) = None
object_told (TooLarge object) = Some object
object_told (Clash object name attr first second) = None

-- the part and the attribute of a set without a value
abbrev pub set_told : Refusal → Option (ℕ × AttrId)
set_told (Identification object first second) = None
set_told (Dangling arrow part) = None
set_told (NoValue part attr) = Some (part, attr)
set_told (TooLarge object) = None
set_told (Clash object name attr first second) = None
