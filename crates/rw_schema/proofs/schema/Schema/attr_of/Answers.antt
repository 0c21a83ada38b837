-- The attributes' names are found as the attributes are.
use Rattle.std.proofs.Common.{◌≡◌, ◌∙◌, ℕ, List, ap, sym, position, map, Some, None}
use Rattle.std.specs.Str.{bytes_eq}
use Rattle.rw_schema.specs.declared.parts.AttrDef.{AttrDef}
use Rattle.rw_schema.specs.SchemaFaults.{attribute_name}
use Rattle.rw_schema.proofs.Lists.{position_map}
use Rattle.rw_schema.proofs.schema.Schema.attr_of.Goals as goal

-- the place of a name is that of the attribute with the name
same : (name : List ℕ) (names : List (List ℕ)) (attributes : List AttrDef) → names ≡ map attribute_name attributes
    → position (bytes_eq name) names ≡ position (λ attribute. bytes_eq name attribute.name) attributes
same name names attributes are = ap (position (bytes_eq name)) are ∙ position_map (bytes_eq name) attribute_name attributes

pub returns-in_err-place : goal.returns-in_err-place
returns-in_err-place c =
    let was : c.number_of.result ≡ None = c.in_err-place.was in
    let found : None ≡ position (bytes_eq c.args.name.now) c.self.inside.attribute_names = sym was ∙ c.number_of.ensures in
    rw (c.from_residual.ensures, ← c.self.view_is) (found ∙ same c.args.name.now c.self.inside.attribute_names c.self.inside.attributes.items c.self.invariant.3)

pub returns : goal.returns
returns c =
    let was : c.number_of.result ≡ Some c.in_ok-place.place = c.in_ok-place.was in
    let found : Some c.in_ok-place.place ≡ position (bytes_eq c.args.name.now) c.self.inside.attribute_names = sym was ∙ c.number_of.ensures in
    rw (← c.self.view_is) (found ∙ same c.args.name.now c.self.inside.attribute_names c.self.inside.attributes.items c.self.invariant.3)
