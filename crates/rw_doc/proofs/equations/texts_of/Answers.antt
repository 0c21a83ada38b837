-- The items are texts exactly where each of them is one.
use Rattle.std.proofs.Common.{◌∙◌, sym}
use Rattle.rw_doc.proofs.TextLists.{all_are_texts, one_is_no_text}
use Rattle.rw_doc.proofs.equations.texts_of.Goals as goal

pub returns-then-are_texts : goal.returns-then-are_texts
returns-then-are_texts c = rw (← c.in_ok-items.ensures) (sym (all_are_texts c.in_ok-items.items.now (sym c.are_texts.ensures ∙ c.if-are_texts.true)))

pub returns-else-are_texts : goal.returns-else-are_texts
returns-else-are_texts c = rw (← c.in_ok-items.ensures) (sym (one_is_no_text c.in_ok-items.items.now (sym c.are_texts.ensures ∙ c.if-are_texts.false)))
