-- Sets are on the attributes of their entries.
use Rattle.std.proofs.Common.{ℕ, ◌<◌, List, length}
use Rattle.std.specs.List.{All}
use Rattle.std.proofs.lemmas.List.Elements.{All-map}
use Rattle.rw_terms.specs.OpEntries.{entries}
use Rattle.rw_terms.specs.OpTables.{OpEntry}
use Rattle.rw_rule.specs.declared.set.SetCell.{SetCell}
use Rattle.rw_docpattern.specs.declared.entry.Entry.{Entry}
use Rattle.rw_docpattern.specs.Sets.{set_of, sets_of}
use Rattle.rw_docpattern.proofs.sets.with_sets.Goals as goal

-- the sets are on attributes that are there, where the entries are
sets_within : (count : ℕ) (ops : List OpEntry) (names : List (List ℕ)) (entries : List Entry) → All (λ (entry : Entry). entry.attr.0 < count) entries
    → All (λ (set : SetCell). set.attr.0 < count) (sets_of ops names entries)
sets_within count ops names entries there = All-map (λ (set : SetCell). set.attr.0 < count) (set_of ops names) entries there

pub are_sets-requires : goal.are_sets-requires
are_sets-requires g c =
    rw (c.as_slice.ensures.value, c.in_ok-sets.ensures)
    (sets_within (length c.args.schema.now.attributes) (entries c.args.ops.now) c.args.left.now.variables c.args.draft.entries.items c.requires.sound.attributes)

pub returns-clause-attributes : goal.returns-clause-attributes
returns-clause-attributes g c =
    rw c.in_ok-sets.ensures
    (sets_within (length c.args.schema.now.attributes) (entries c.args.ops.now) c.args.left.now.variables c.args.draft.entries.items c.requires.sound.attributes)
