-- Numbers of parts as a document has them.
use Rattle.std.specs.Prelude.{ℕ, ◌-◌, ◌^◌, min, List, Option, option_and_then, option_map}
use Rattle.serde_json.specs.Data.{Data}
use Rattle.rw_doc.specs.Chain.{all_some}
use Rattle.rw_doc.specs.Json.{as_list, as_count}

-- the count that a value is; one past 32 bits, as which no part is numbered, is as good as the greatest of 32 bits
abbrev pub as_number : Data → Option ℕ
as_number value = option_map (λ count. min count (2 ^ 32 - 1)) (as_count value)

abbrev pub as_numbers : Data → Option (List ℕ)
as_numbers value = option_and_then (all_some as_number) (as_list value)

abbrev pub as_number_lists : Data → Option (List (List ℕ))
as_number_lists value = option_and_then (all_some as_numbers) (as_list value)
