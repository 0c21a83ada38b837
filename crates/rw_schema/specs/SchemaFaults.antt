-- When lists are a schema, and the first fault of those that are none.
use Rattle.std.specs.Prelude.{◌≡◌, ◌==◌, ℕ, Bool, false, ◌&&◌, not, nat_le, nat_lt, length, take, map, slice_index, List, [], ◌∷◌, Option, Some, None, option_and_then, Result, Ok, Err, if◌then◌else◌}
use Rattle.std.specs.List.{list_any, list_all}
use Rattle.std.specs.Str.{bytes_eq}
use Rattle.rw_schema.specs.declared.ids.ArrowId.{ArrowId}
use Rattle.rw_schema.specs.declared.parts.ArrowDef.{ArrowDef}
use Rattle.rw_schema.specs.declared.parts.AttrDef.{AttrDef}
use Rattle.rw_schema.specs.declared.parts.Equation.{Equation}
use Rattle.rw_schema.specs.declared.section.Section.{Section}
use Rattle.rw_schema.specs.declared.section.Section.TheVariants.{Objects, Arrows, Attributes, Equations}
use Rattle.rw_schema.specs.declared.fault.SchemaFault.{SchemaFault}
use Rattle.rw_schema.specs.declared.fault.SchemaFault.TheVariants.{Limit, Twice, Unknown, Ends, OutOfMemory}
use Rattle.rw_schema.specs.First.{or_else, first_in, fault_unless}
use Rattle.rw_schema.specs.Limits.{most_objects, most_arrows, most_attributes, most_equations, longest_name, longest_path}
use Rattle.rw_schema.specs.Presentation.{Presentation}

-- a name has 1 to 255 bytes
abbrev pub is_name : List ℕ → Bool
is_name name = nat_le 1 (length name) && nat_le (length name) longest_name

-- each side of the equation has at most 32 arrows
abbrev pub has_short_sides : Equation → Bool
has_short_sides equation = nat_le (length equation.left) longest_path && nat_le (length equation.right) longest_path

-- at most 64 objects, 256 arrows, 256 attributes and 256 equations, each name and each path of an equation within its limits
abbrev pub is_within_limits : Presentation → Bool
is_within_limits schema =
    nat_le (length schema.objects) most_objects && nat_le (length schema.arrows) most_arrows
    && nat_le (length schema.attributes) most_attributes && nat_le (length schema.equations) most_equations
    && list_all is_name schema.objects && list_all (λ (arrow : ArrowDef). is_name arrow.name) schema.arrows
    && list_all (λ (attribute : AttrDef). is_name attribute.name) schema.attributes
    && list_all has_short_sides schema.equations

-- the first item whose name an earlier one has
abbrev pub first_twice : {X : Type 0} → (X → List ℕ) → Section → List X → Option SchemaFault
first_twice name section items =
    first_in (λ place item. fault_unless (not (list_any (λ other. bytes_eq (name item) (name other)) (take place items))) (Twice section place)) 0 items

-- the arrow's ends are objects
abbrev pub has_ends : ℕ → ArrowDef → Bool
has_ends objects arrow = nat_lt arrow.source.0 objects && nat_lt arrow.target.0 objects

-- the first arrow with an end that is no object
abbrev pub first_unknown : ℕ → List ArrowDef → Option SchemaFault
first_unknown objects arrows = first_in (λ place arrow. fault_unless (has_ends objects arrow) (Unknown Arrows place)) 0 arrows

-- the attribute belongs to an object
abbrev pub has_holder : ℕ → AttrDef → Bool
has_holder objects attribute = nat_lt attribute.object.0 objects

-- the first attribute of a number that is no object
abbrev pub first_homeless : ℕ → List AttrDef → Option SchemaFault
first_homeless objects attributes = first_in (λ place attribute. fault_unless (has_holder objects attribute) (Unknown Attributes place)) 0 attributes

-- each number of the path is an arrow
abbrev pub has_arrows : ℕ → List ArrowId → Bool
has_arrows arrows path = list_all (λ (arrow : ArrowId). nat_lt arrow.0 arrows) path

-- the equation's object is one, and so is each arrow of both sides
abbrev pub is_of_schema : ℕ → ℕ → Equation → Bool
is_of_schema objects arrows equation =
    nat_lt equation.object.0 objects && has_arrows arrows equation.left && has_arrows arrows equation.right

-- the first equation with a number that names nothing
abbrev pub first_nameless : ℕ → ℕ → List Equation → Option SchemaFault
first_nameless objects arrows equations =
    first_in (λ place equation. fault_unless (is_of_schema objects arrows equation) (Unknown Equations place)) 0 equations

-- where an arrow leads from an object, or none where it does not leave that object
abbrev pub end_of_arrow : List ArrowDef → ℕ → ℕ → Option ℕ
end_of_arrow arrows object arrow =
    if slice_index (map (λ (ends : ArrowDef). ends.source.0) arrows) arrow == object
    then Some (slice_index (map (λ (ends : ArrowDef). ends.target.0) arrows) arrow) else None

-- where a path leads from an object, or none where an arrow does not leave the object that the path has come to
abbrev pub end_of_path : List ArrowDef → ℕ → List ArrowId → Option ℕ
end_of_path arrows object [] = Some object
end_of_path arrows object (arrow ∷ path) = option_and_then (λ next. end_of_path arrows next path) (end_of_arrow arrows object arrow.0)

-- both are there, and they are the same
abbrev pub is_same_end : Option ℕ → Option ℕ → Bool
is_same_end None other = false
is_same_end (Some left) None = false
is_same_end (Some left) (Some right) = left == right

-- both sides lead from the equation's object to one object
abbrev pub sides_meet : List ArrowDef → Equation → Bool
sides_meet arrows equation = is_same_end (end_of_path arrows equation.object.0 equation.left) (end_of_path arrows equation.object.0 equation.right)

-- the first equation whose sides do not
abbrev pub first_apart : List ArrowDef → List Equation → Option SchemaFault
first_apart arrows equations = first_in (λ place equation. fault_unless (sides_meet arrows equation) (Ends place)) 0 equations

abbrev pub object_name : List ℕ → List ℕ
object_name name = name

abbrev pub arrow_name : ArrowDef → List ℕ
arrow_name arrow = arrow.name

abbrev pub attribute_name : AttrDef → List ℕ
attribute_name attribute = attribute.name

-- why the lists are no schema: the first of its conditions that fails, at the least place
abbrev pub schema_fault : Presentation → Option SchemaFault
schema_fault schema =
    or_else (fault_unless (is_within_limits schema) Limit)
    (or_else (first_twice object_name Objects schema.objects)
    (or_else (first_twice arrow_name Arrows schema.arrows)
    (or_else (first_twice attribute_name Attributes schema.attributes)
    (or_else (first_unknown (length schema.objects) schema.arrows)
    (or_else (first_homeless (length schema.objects) schema.attributes)
    (or_else (first_nameless (length schema.objects) (length schema.arrows) schema.equations)
    (first_apart schema.arrows schema.equations)))))))

-- what a build of the lists answers; want of memory may come at any lists
abbrev pub BuildsSchema : Presentation → Result Presentation SchemaFault → Type 0
BuildsSchema lists (Ok schema) = (schema ≡ lists) × (schema_fault lists ≡ None)
BuildsSchema lists (Err OutOfMemory) = Unit {0}
BuildsSchema lists (Err Limit) = schema_fault lists ≡ Some Limit
BuildsSchema lists (Err (Twice section index)) = schema_fault lists ≡ Some (Twice section index)
BuildsSchema lists (Err (Unknown section index)) = schema_fault lists ≡ Some (Unknown section index)
BuildsSchema lists (Err (Ends equation)) = schema_fault lists ≡ Some (Ends equation)
