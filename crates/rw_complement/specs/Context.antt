-- The context of a double pushout, part by part.
use Rattle.std.specs.Prelude.{◌==◌, ◌&&◌, ◌||◌, ℕ, Bool, not, cond, filter, is_none, None}
use Rattle.std.specs.List.{list_any, list_all}
use Rattle.rw_schema.specs.Signature.{Signature, holder_of}
use Rattle.rw_spec.specs.Instance.{Instance}
use Rattle.rw_spec.specs.Natural.{Map}
use Rattle.rw_spec.specs.Redex.{Redex}

-- the part of left stays: it is the image of a part of keep
abbrev pub is_kept : Redex → ℕ → ℕ → Bool
is_kept R object y = list_any (λ z. R.l object z == y) (R.keep.names object)

-- the part of the host is removed: it is the image of a part of left that does not stay
abbrev pub is_removed : Redex → ℕ → ℕ → Bool
is_removed R object w = list_any (λ y. not (is_kept R object y) && R.m object y == w) (R.left.names object)

-- the part of the host is the image of a part of keep
abbrev pub is_under : Redex → ℕ → ℕ → Bool
is_under R object w = list_any (λ z. R.m object (R.l object z) == w) (R.keep.names object)

-- each part of keep that goes to the part of the host has a blank cell
abbrev pub is_blank_over : Redex → ℕ → ℕ → ℕ → Bool
is_blank_over R object c w = list_all (λ z. not (R.m object (R.l object z) == w) || is_none (R.keep.cell c z)) (R.keep.names object)

-- the cell is made blank: parts of keep go to the part of the host, and each of these has a blank cell
abbrev pub is_blanked : Redex → ℕ → ℕ → ℕ → Bool
is_blanked R object c w = is_under R object w && is_blank_over R object c w

-- the host without the parts that are removed, and with the cells blank that are made so
abbrev pub context_of : Signature → Redex → Instance
context_of C R = record {
  names = λ object. filter (λ w. not (is_removed R object w)) (R.host.names object);
  value = R.host.value;
  cell = λ c w. cond (is_blanked R (holder_of C c) c w) None (R.host.cell c w);
}

-- a part of keep goes to its image in the host
abbrev pub context_map : Redex → Map
context_map R object z = R.m object (R.l object z)
