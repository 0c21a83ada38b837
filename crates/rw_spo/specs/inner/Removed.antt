-- Elements that go, each once, in the order in which they went.
use Rattle.std.specs.Prelude.{◌≡◌, ◌==◌, ◌&&◌, ◌++◌, nat_eq, Bool, List, Option, Some, Contains}
use Rattle.std.specs.Bool.{beq}
use Rattle.std.specs.List.{list_any}
use Rattle.std.specs.Option.{option_eq}
use Rattle.rw_spo.specs.declared.element.Element.{Element}

-- they are one element
abbrev pub is_same : Element → Element → Bool
is_same one other =
    beq one.is_right other.is_right && (option_eq nat_eq one.attribute other.attribute && (one.object == other.object && one.part == other.part))

-- the element is one of those that go
abbrev pub goes : List Element → Element → Bool
goes elements element = list_any (is_same element) elements

-- the element goes, if there is one, and no other one does anew
pub record Marks (old : List Element) (element : Option Element) (new : List Element) : Type 0 where
  pub there : (marked : Element) → element ≡ Some marked → Contains new marked
  pub more : List Element
  pub behind : new ≡ old ++ more
  pub one : (other : Element) → Contains more other → element ≡ Some other
