-- The values of lines have no floats, so each has one text.
use Rattle.std.proofs.Common.{◌≡◌, ℕ, false, Option, Some, None, List, [], ◌∷◌, map, refl}
use Rattle.serde_json.specs.Data.{Data}
use Rattle.serde_json.specs.Written.{has_float}
use Rattle.rw_schema.specs.Presentation.{Presentation}
use Rattle.rw_rule.specs.declared.refusal.Refusal.{Refusal}
use Rattle.rw_rule.specs.declared.refusal.Refusal.TheVariants.{Identification, Dangling, NoValue, TooLarge, Clash}
use Rattle.rw_lists.specs.News.{NewsLists}
use Rattle.rw_print.specs.declared.last.End.{End}
use Rattle.rw_print.proofs.PlainAtoms.{no_float_in_atom}
use Rattle.rw_print.specs.Lines.{list_data, tuple_data, matches_data, count_data, refusal_data, refused_data, news_data, applied_data, step_data, check_data, end_data}

-- a list has no float where no item has one
pub no_float_in : {X : Type 0} (value : X → Data) (xs : List X) → ((x : X) → has_float (value x) ≡ false)
    → has_float (list_data (map value xs)) ≡ false
no_float_in value [] none = refl
no_float_in value (x ∷ xs) none = rw (none x) (no_float_in value xs none)

-- a list of numbers has no float
pub no_float_in_counts : (counts : List ℕ) → has_float (list_data (map count_data counts)) ≡ false
no_float_in_counts counts = no_float_in count_data counts (λ count. refl)

-- a list of tuples has no float
pub no_float_in_tuples : (tuples : List (List ℕ)) → has_float (list_data (map tuple_data tuples)) ≡ false
no_float_in_tuples tuples = no_float_in tuple_data tuples no_float_in_counts

-- the line of matches has no float
pub no_float_in_matches : (name : List ℕ) (tuples : List (List ℕ)) → has_float (matches_data name tuples) ≡ false
no_float_in_matches name tuples = rw (no_float_in_tuples tuples) refl

-- an obstruction has no float
no_float_in_refusal : (schema : Presentation) (refusal : Refusal) → has_float (refusal_data schema refusal) ≡ false
no_float_in_refusal schema (Identification id first second) = refl
no_float_in_refusal schema (Dangling arrow part) = refl
no_float_in_refusal schema (NoValue part attr) = refl
no_float_in_refusal schema (TooLarge id) = refl
no_float_in_refusal schema (Clash id name attr first second) = rw (no_float_in_atom first, no_float_in_atom second) refl

-- a tuple with its obstruction has no float
no_float_in_refused : (schema : Presentation) (refused : List ℕ × Refusal) → has_float (refused_data schema refused) ≡ false
no_float_in_refused schema refused = rw (no_float_in_counts refused.0, no_float_in_refusal schema refused.1) refl

-- the news of a list has no float
no_float_in_news : (news : ℕ × NewsLists) → has_float (news_data news) ≡ false
no_float_in_news news = rw (no_float_in_tuples news.1.gone, no_float_in_tuples news.1.new) refl

-- a tuple or null has no float
no_float_in_applied : (applied : Option (List ℕ)) → has_float (applied_data applied) ≡ false
no_float_in_applied None = refl
no_float_in_applied (Some tuple) = no_float_in_counts tuple

-- the line of a step has no float
pub no_float_in_step : (schema : Presentation) (place : ℕ) (rule : List ℕ) (applied : Option (List ℕ)) (lists : List (ℕ × NewsLists))
    (refused : List (List ℕ × Refusal)) → has_float (step_data schema place rule applied lists refused) ≡ false
no_float_in_step schema place rule applied lists refused =
    let in_lists : has_float (list_data (map news_data lists)) ≡ false = no_float_in news_data lists no_float_in_news in
    let in_refused : has_float (list_data (map (refused_data schema) refused)) ≡ false =
    no_float_in (refused_data schema) refused (no_float_in_refused schema) in
    rw (in_lists, no_float_in_applied applied, in_refused) refl

-- the line of a check has no float
pub no_float_in_check : (lists sizes : List ℕ) → has_float (check_data lists sizes) ≡ false
no_float_in_check lists sizes = rw (no_float_in_counts lists, no_float_in_counts sizes) refl

-- the line of an end has no float
pub no_float_in_end : (end : End) (fuel : ℕ) (lists sizes : List ℕ) → has_float (end_data end fuel lists sizes) ≡ false
no_float_in_end end fuel lists sizes = rw (no_float_in_counts lists, no_float_in_counts sizes) refl
