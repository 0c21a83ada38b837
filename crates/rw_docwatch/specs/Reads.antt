-- What is read of watches, as contracts see it.
use Rattle.rw_docwatch.specs.declared.heads.WatchForm as forms
use Rattle.rw_docwatch.specs.declared.heads.WatchHead as heads
use Rattle.rw_docwatch.specs.Heads.{WatchForm, WatchHead}

abbrev pub form_of_watch : forms.WatchForm → WatchForm
form_of_watch form = record { name = form.name; monic = form.monic.items }

abbrev pub head_of_watch : heads.WatchHead → WatchHead
head_of_watch head = record { name = head.name; monic = head.monic.items }
