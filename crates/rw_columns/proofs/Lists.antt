-- What lists without a fault give to columns.
use Rattle.std.proofs.Common.{◌≡◌, ◌∙◌, ℕ, ◌<◌, true, nat_lt, All, List, Some, None, get_or, option_map, slice_get, slice_index, ap}
use Rattle.std.specs.List.{list_all, Contains}
use Rattle.std.proofs.lemmas.Bool.{and_parts, ltb-true}
use Rattle.std.proofs.lemmas.List.Elements.{Contains-get_or}
use Rattle.std.proofs.lemmas.Option.{slice_get-map}
use Rattle.rw_schema.specs.declared.parts.ArrowDef.{ArrowDef}
use Rattle.rw_schema.specs.declared.parts.AttrDef.{AttrDef}
use Rattle.rw_schema.specs.declared.signature.ArrowEnds.{ArrowEnds}
use Rattle.rw_schema.specs.Presentation.{Presentation, signature_of, ends_of_arrow, ends_of_attribute}
use Rattle.rw_schema.specs.RowLists.{RowLists, list_at}
use Rattle.rw_schema.specs.Signature.{Signature}
use Rattle.rw_spec.specs.Ascending.{ascends}
use Rattle.rw_spec.proofs.Sequences.{list_all_contained}
use Rattle.rw_table.specs.TableFaults.{are_names, table_fault}
use Rattle.rw_table.proofs.Checked.{checked_known, images_named}
use Rattle.rw_table.proofs.Sound.{names_below}

-- names that are contained are below the next name
pub name_in_bound : (bound : ℕ) (names : List ℕ) (x : ℕ) → are_names bound names ≡ true → Contains names x → x < bound
name_in_bound bound names x are there =
    ltb-true x bound (list_all_contained (λ name. nat_lt name bound) names x (and_parts (ascends names) (list_all (λ name. nat_lt name bound) names) are).1 there)

-- the names of each object ascend below its next name
pub names_known : (C : Signature) (rows : RowLists) (object : ℕ) → table_fault C rows ≡ None → object < C.objects
    → are_names (slice_index rows.next object) (list_at rows.names object) ≡ true
names_known C rows object none known = let checked = checked_known C rows none in names_below C rows object checked.shape checked.names known

-- each image is below the next name of the arrow's target
pub images_below : (C : Signature) (rows : RowLists) (a : ℕ) (ends : ArrowEnds) → table_fault C rows ≡ None → slice_get C.arrows a ≡ Some ends
    → ends.target.0 < C.objects → All (λ image. image < slice_index rows.next ends.target.0) (list_at rows.arrows a)
images_below C rows a ends none there known k d within =
    let image = get_or (list_at rows.arrows a) k d in
    name_in_bound (slice_index rows.next ends.target.0) (list_at rows.names ends.target.0) image (names_known C rows ends.target.0 none known)
    (images_named C rows a ends image (checked_known C rows none).range there (Contains-get_or (list_at rows.arrows a) k d within))

-- the ends of an arrow, names apart
pub arrow_there : (schema : Presentation) (a : ℕ) (arrow : ArrowDef) → slice_get schema.arrows a ≡ Some arrow
    → slice_get (signature_of schema).arrows a ≡ Some (ends_of_arrow arrow)
arrow_there schema a arrow there = slice_get-map ends_of_arrow schema.arrows a ∙ ap (option_map ends_of_arrow) there

-- the ends of an attribute, names apart
pub attribute_there : (schema : Presentation) (c : ℕ) (attribute : AttrDef) → slice_get schema.attributes c ≡ Some attribute
    → slice_get (signature_of schema).attributes c ≡ Some (ends_of_attribute attribute)
attribute_there schema c attribute there = slice_get-map ends_of_attribute schema.attributes c ∙ ap (option_map ends_of_attribute) there
