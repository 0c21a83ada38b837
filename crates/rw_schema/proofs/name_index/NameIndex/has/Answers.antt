-- A name is found among the keys as it is among their bytes.
use Rattle.std.proofs.Common.{◌∙◌, sym, string_bytes}
use Rattle.std.specs.Str.{bytes_eq}
use Rattle.rw_schema.proofs.Lists.{list_any_map}
use Rattle.rw_schema.proofs.name_index.NameIndex.has.Goals as goal

pub returns : goal.returns
returns c = rw (← c.self.view_is) (c.contains.ensures ∙ sym (list_any_map (bytes_eq c.args.name.now) string_bytes c.self.inside.index.keys))
