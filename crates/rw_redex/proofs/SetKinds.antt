-- At a match the terms of a rule's sets can be evaluated, and their values are of their attributes' kinds.
use Rattle.std.proofs.Common.{◌≡◌, ℕ, ◌<◌, true, nat_le, pos, unwrap_or, option_map, sum, All, Contains, get_or, List, length, Option, Some, None, slice_get, refl, sym, ap, ◌∙◌}
use Rattle.std.specs.List.{range_with_len}
use Rattle.std.proofs.lemmas.Bool.{and_parts, eqb-true}
use Rattle.std.proofs.lemmas.List.Folds.{Any-from_list_any}
use Rattle.std.proofs.lemmas.Option.{slice_get_within, slice_get-get_or, slice_get-map}
use Rattle.rw_schema.specs.declared.atom.Atom.{Atom}
use Rattle.rw_schema.specs.declared.atom.Atom.TheVariants as atoms
use Rattle.rw_schema.specs.declared.atom.Kind.{Kind}
use Rattle.rw_schema.specs.declared.atom.Kind.TheVariants as variants
use Rattle.rw_schema.specs.declared.signature.AttrEnds.{AttrEnds}
use Rattle.rw_schema.specs.Atoms.{kind_of, is_same_kind}
use Rattle.rw_schema.specs.Signature.{Signature, IsCategory}
use Rattle.rw_schema.proofs.Lists.{list_all_at}
use Rattle.rw_spec.specs.Instance.{Instance, IsInstance, Has}
use Rattle.rw_spec.specs.Natural.{IsNatural}
use Rattle.rw_pattern.specs.declared.cell.PatternCell.{PatternCell}
use Rattle.rw_pattern.specs.declared.cell.Want.{Want}
use Rattle.rw_pattern.specs.declared.cell.Want.TheVariants.{Const, Var}
use Rattle.rw_pattern.specs.Matches.{IsMatch, MeetsCells, atom_wanted, matches, meets_cells, value_of, wants}
use Rattle.rw_pattern.specs.PatternFaults.{fits_variable, has_kind, is_variable_of, IsPatternOver}
use Rattle.rw_pattern.specs.PatternLists.{PatternLists, holder, instance_of_pattern, map_of_tuple, size_of}
use Rattle.rw_pattern.proofs.Naturality.{matches_natural}
use Rattle.rw_pattern.proofs.Over.{cell_attribute, cell_part, holder_count, variables_fit}
use Rattle.rw_pattern.proofs.PartNames.{has_part}
use Rattle.rw_pattern.proofs.Valuations.{meets_from_values, values_from_meets, values_of, values_read}
use Rattle.rw_terms.specs.declared.code.OpCode.{OpCode}
use Rattle.rw_terms.specs.TermKinds.{depth_of, kind_of_term}
use Rattle.rw_terms.specs.Terms.{is_evaluable}
use Rattle.rw_terms.proofs.TermKinds.{HaveKinds, IsOfKind, is_of_kind}
use Rattle.rw_rule.specs.RuleLists.{RuleLists}
use Rattle.rw_rule.specs.Sets.{is_bound, is_kind_of, most_levels}
use Rattle.rw_rule.specs.declared.set.SetCell.{SetCell}
use Rattle.rw_redex.specs.RuleParts.{IsOnCell}
use Rattle.rw_redex.specs.SetValues.{valuation}
use Rattle.rw_redex.proofs.Attributes.{holder_at}
use Rattle.rw_redex.proofs.PartNames.{match_long}
use Rattle.rw_redex.proofs.Ranges.{range_at}
use Rattle.rw_redex.proofs.RuleKnown.{IsKnown}

-- what one kind is has it as its kind
same_kind : (left right : Kind) → is_same_kind left right ≡ true → left ≡ right
same_kind variants.Int variants.Int same = refl
same_kind variants.Int variants.Text same = cc
same_kind variants.Int variants.Bool same = cc
same_kind variants.Text variants.Int same = cc
same_kind variants.Text variants.Text same = refl
same_kind variants.Text variants.Bool same = cc
same_kind variants.Bool variants.Int same = cc
same_kind variants.Bool variants.Text same = cc
same_kind variants.Bool variants.Bool same = refl

-- an attribute that has a kind is there, and is of it
kind_there : (kind : Kind) (found : Option AttrEnds) → has_kind kind found ≡ true → (ends : AttrEnds) × (found ≡ Some ends) × (kind ≡ ends.kind)
kind_there kind None has = cc
kind_there kind (Some ends) has = (ends, refl, same_kind kind ends.kind has)

-- the variable that is wanted
wanted_is : (variable : ℕ) (want : Want) → wants variable want ≡ true → want ≡ Var variable
wanted_is variable (Const atom) same = cc
wanted_is variable (Var other) same = ap Var (sym (eqb-true variable other same))

-- an entry of the variable
pub record IsEntryOf (left : PatternLists) (variable : ℕ) : Type 0 where
  pub place : ℕ
  pub entry : PatternCell
  pub there : slice_get left.cells place ≡ Some entry
  pub want : entry.want ≡ Var variable

-- a variable that is on a cell has an entry
entry_of : (left : PatternLists) (variable : ℕ) → is_bound left variable ≡ true → IsEntryOf left variable
entry_of left variable bound =
    let found = Any-from_list_any (λ (entry : PatternCell). wants variable entry.want) left.cells bound in
    record {
      place = found.0;
      entry = found.1;
      there = slice_get-get_or left.cells found.0 found.1 found.2 ∙ ap Some found.3;
      want = wanted_is variable found.1.want found.4;
    }

-- a match of the left pattern in an instance
pub record IsMet (C : Signature) (rule : RuleLists) (tuple : List ℕ) (X : Instance) : Type 0 where
  pub category : IsCategory C
  pub host : IsInstance C X
  pub left : IsPatternOver C rule.goal.kinds rule.goal.left
  pub natural : IsNatural C (instance_of_pattern rule.goal.left) X (map_of_tuple rule.goal.left tuple)
  pub cells : meets_cells rule.goal.left X tuple ≡ true

-- a tuple among the matches is a match
pub match_of : (C : Signature) (rule : RuleLists) (tuple : List ℕ) (X : Instance) → IsPatternOver C rule.goal.kinds rule.goal.left
    → Contains (matches C rule.goal.left rule.goal.monic X) tuple → IsMatch C rule.goal.left rule.goal.monic X (map_of_tuple rule.goal.left tuple)
match_of C rule tuple X over matched =
    let left : PatternLists = rule.goal.left in
    let long : length tuple ≡ sum left.sizes = match_long C left rule.goal.monic X tuple matched in
    (matches_natural C left rule.goal.monic (rule.goal.kinds, over) X tuple long).0 matched

-- and it meets the cells
pub met_by_match : (C : Signature) (rule : RuleLists) (tuple : List ℕ) (X : Instance) → IsCategory C → IsInstance C X
    → IsPatternOver C rule.goal.kinds rule.goal.left → Contains (matches C rule.goal.left rule.goal.monic X) tuple → IsMet C rule tuple X
met_by_match C rule tuple X category host over matched =
    let is = match_of C rule tuple X over matched in
    record {
      category = category;
      host = host;
      left = over;
      natural = is.natural;
      cells = meets_from_values rule.goal.left X tuple is.values is.cells;
    }

-- the value of a variable with an entry is that of the cell, and of the kind of the variable
value_kind : (C : Signature) (rule : RuleLists) (tuple : List ℕ) (X : Instance) → IsMet C rule tuple X
    → (variable : ℕ) (kind : Kind) → IsEntryOf rule.goal.left variable → slice_get rule.goal.kinds variable ≡ Some kind
    → (atom : Atom) × (value_of rule.goal.left X tuple variable ≡ Some atom) × (kind_of atom ≡ kind)
value_kind C rule tuple X met variable kind known kind_is =
    let left : PatternLists = rule.goal.left in
    let entry : PatternCell = known.entry in
    let attr : ℕ = entry.attr.0 in
    let values : ℕ → Atom = values_of left X tuple in
    let atom : Atom = values variable in
    let meets : MeetsCells left X (map_of_tuple left tuple) values = values_from_meets left X tuple met.cells in
    let fits : is_variable_of (slice_get C.attributes attr) (slice_get rule.goal.kinds variable) ≡ true =
    rw known.want at (list_all_at (λ (entry : PatternCell). fits_variable rule.goal.kinds (slice_get C.attributes entry.attr.0) entry.want) left.cells known.place entry
    (variables_fit C rule.goal.kinds left met.left) known.there) in
    let ends = kind_there kind (slice_get C.attributes attr) (rw kind_is at fits) in
    let object : holder left attr ≡ ends.0.object.0 = holder_at C left attr ends.0 met.left.holders ends.1 in
    let part : entry.part < size_of left (holder left attr) = cell_part C rule.goal.kinds left known.place entry met.left known.there in
    let name : ℕ = map_of_tuple left tuple (holder left attr) entry.part in
    let known_object : holder left attr < C.objects = rw object (met.category.holders attr ends.0 ends.1) in
    let has : Has X ends.0.object.0 name = rw (← object) (met.natural.parts (holder left attr) entry.part known_object (has_part left (holder left attr) entry.part part)) in
    let holds : X.cell attr name ≡ Some atom = meets known.place entry known.there ∙ ap (λ want. Some (atom_wanted values want)) known.want in (
      atom,
      values_read left X tuple values meets known.place variable entry known.there known.want,
      met.host.atoms attr ends.0 name atom ends.1 has holds ∙ sym ends.2,
    )

-- each variable that is on a cell has a value of its kind
variables_known : (C : Signature) (rule : RuleLists) (tuple : List ℕ) (X : Instance) → IsMet C rule tuple X
    → HaveKinds (is_bound rule.goal.left) rule.goal.kinds (valuation rule tuple X)
variables_known C rule tuple X met = λ variable kind bound kind_is.
    let given = value_kind C rule tuple X met variable kind (entry_of rule.goal.left variable bound) kind_is in
    let value : ℕ → Atom = λ variable. unwrap_or (value_of rule.goal.left X tuple variable) (atoms.Int (pos 0)) in
    let there : slice_get (range_with_len 0 (length rule.goal.kinds)) variable ≡ Some variable = range_at (length rule.goal.kinds) variable (slice_get_within rule.goal.kinds variable kind kind_is) in (
      given.0,
      slice_get-map value (range_with_len 0 (length rule.goal.kinds)) variable ∙ ap (option_map value) there
          ∙ ap (λ found. Some (unwrap_or found (atoms.Int (pos 0)))) given.1,
      given.2,
    )

-- the kind that a term has where it fits
fitting_kind : (found : Option AttrEnds) (kind : Option Kind) → is_kind_of found kind ≡ true → (ends : AttrEnds) × (found ≡ Some ends) × (kind ≡ Some ends.kind)
fitting_kind found None fits = cc
fitting_kind found (Some kind) fits = let ends = kind_there kind found fits in (ends.0, ends.1, ap (λ kind. Some kind) ends.2)

-- the set's attribute is there, and its term is of the attribute's kind
pub record IsKnownSet (C : Signature) (codes : List OpCode) (values : List Atom) (set : SetCell) : Type 0 where
  pub ends : AttrEnds
  pub there : slice_get C.attributes set.attr.0 ≡ Some ends
  pub term : IsOfKind codes values set.term ends.kind

-- so it is with each set of a rule at a match
pub set_known : (C : Signature) (codes : List OpCode) (rule : RuleLists) (tuple : List ℕ) (X : Instance) → IsKnown C (length codes) rule → IsMet C rule tuple X
    → (place : ℕ) (set : SetCell) → slice_get rule.sets place ≡ Some set → IsKnownSet C codes (valuation rule tuple X) set
set_known C codes rule tuple X known met place set there =
    let kind : Option Kind = kind_of_term (length codes) rule.goal.kinds set.term in
    let fits = and_parts (is_kind_of (slice_get C.attributes set.attr.0) kind) (nat_le (depth_of set.term) most_levels) (known.fitting place set there) in
    let own = fitting_kind (slice_get C.attributes set.attr.0) kind fits.0 in
    record {
      ends = own.0;
      there = own.1;
      term = is_of_kind (is_bound rule.goal.left) rule.goal.kinds codes (valuation rule tuple X) (variables_known C rule tuple X met)
          set.term (known.bound place set there) own.0.kind own.2;
    }

-- each set's term can be evaluated at a match
pub sets_evaluable : (C : Signature) (codes : List OpCode) (rule : RuleLists) (tuple : List ℕ) (X : Instance) → IsKnown C (length codes) rule → IsMet C rule tuple X
    → All (λ set. is_evaluable codes (valuation rule tuple X) set.term ≡ true) rule.sets
sets_evaluable C codes rule tuple X known met = λ place set within.
    (set_known C codes rule tuple X known met place (get_or rule.sets place set) (slice_get-get_or rule.sets place set within)).term.fits

-- each entry of the left pattern is on a cell
pub entries_on_cells : (C : Signature) (rule : RuleLists) → IsPatternOver C rule.goal.kinds rule.goal.left → All (IsOnCell rule.goal.left) rule.goal.left.cells
entries_on_cells C rule over = λ place entry within.
    let left : PatternLists = rule.goal.left in
    let own : PatternCell = get_or left.cells place entry in
    let there : slice_get left.cells place ≡ Some own = slice_get-get_or left.cells place entry within in (
      cell_part C rule.goal.kinds left place own over there,
      rw (holder_count C rule.goal.kinds left over) (cell_attribute C rule.goal.kinds left place own over there),
    )
