-- A name is found among the keys where it is among their bytes.
use Rattle.std.proofs.Common.{◌∙◌, sym, string_bytes}
use Rattle.std.specs.Str.{bytes_eq}
use Rattle.rw_schema.proofs.Lists.{position_map}
use Rattle.rw_schema.proofs.name_index.NameIndex.number_of.Goals as goal

pub returns : goal.returns
returns c = rw (← c.self.view_is) (c.get_index_of.ensures.index ∙ sym (position_map (bytes_eq c.args.name.now) string_bytes c.self.inside.index.keys))
