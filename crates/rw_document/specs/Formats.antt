-- The two formats of a document, and the law that what has a model in format 1 has the same one in format 2.
use Rattle.std.specs.Prelude.{◌≡◌, ℕ, List, codes, Ok}
use Rattle.serde_json.specs.Data.{Data, Members, number, object, put, unsigned}
use Rattle.rw_terms.specs.OpTables.{OpEntry}
use Rattle.rw_document.specs.Documents.{read_document, read_json}
use Rattle.rw_document.specs.Models.{DocumentLists}

-- the object with these members, but that its format is 2
abbrev pub in_format_2 : Members → Data
in_format_2 members = object (put (codes "format") (number (unsigned 2)) members)

-- where a document has a model, the same value with format 2 has the same model
abbrev pub FormatsAgree : Type 0
FormatsAgree = (ops : List OpEntry) (bytes others : List ℕ) (members : Members) (document : DocumentLists)
    → read_json bytes ≡ Ok (object members) → read_json others ≡ Ok (in_format_2 members)
    → read_document ops bytes ≡ Ok document → read_document ops others ≡ Ok document
