-- The differences of kept lists: the tuples that left each list, and those that entered it.
use Rattle.std.specs.Prelude.{ℕ, Bool, true, false, not, ◌&&◌, filter, map, List, [], ◌∷◌, if◌then◌else◌}
use Rattle.std.specs.List.{list_any}
use Rattle.std.specs.Str.{bytes_eq}
use Rattle.rw_schema.specs.First.{flat_map_in}
use Rattle.rw_schema.specs.RowLists.{list_at}
use Rattle.rw_lists.specs.declared.news.ListNews.{ListNews}
use Rattle.rw_lists.specs.declared.news.ListsNews.{ListsNews}

-- the tuples that left a list, and those that entered it
pub record NewsLists : Type 0 where
  pub gone : List (List ℕ)
  pub new : List (List ℕ)

-- the tuple is in the list
abbrev pub is_in : List (List ℕ) → List ℕ → Bool
is_in tuples tuple = list_any (bytes_eq tuple) tuples

-- the tuples of the one list that are not in the other, in order
abbrev pub without : List (List ℕ) → List (List ℕ) → List (List ℕ)
without tuples others = filter (λ tuple. not (is_in others tuple)) tuples

-- the difference of two lists
abbrev pub difference : List (List ℕ) → List (List ℕ) → NewsLists
difference before after = record { gone = without before after; new = without after before }

abbrev pub has_none : List (List ℕ) → Bool
has_none [] = true
has_none (tuple ∷ tuples) = false

-- the list's number and difference, where a tuple left it or entered it
abbrev pub numbered : ℕ → NewsLists → List (ℕ × NewsLists)
numbered list news = if has_none news.gone && has_none news.new then [] else (list, news) ∷ []

-- the number and the difference of the list there, where a tuple left it or entered it
abbrev pub news_at : List (List (List ℕ)) → ℕ → List (List ℕ) → List (ℕ × NewsLists)
news_at afters list before = numbered list (difference before (list_at afters list))

-- of each list with a tuple gone or new, by ascending number, its number and its difference
abbrev pub differences : List (List (List ℕ)) → List (List (List ℕ)) → List (ℕ × NewsLists)
differences befores afters = flat_map_in (news_at afters) 0 befores

-- the lists of what a call gives
abbrev pub lists_of_news : ListNews → NewsLists
lists_of_news news = record { gone = news.gone.items; new = news.new.items }

abbrev pub lists_of_entry : ℕ × ListNews → ℕ × NewsLists
lists_of_entry entry = (entry.0, lists_of_news entry.1)

abbrev pub numbered_lists : ListsNews → List (ℕ × NewsLists)
numbered_lists news = map lists_of_entry news.lists.items
