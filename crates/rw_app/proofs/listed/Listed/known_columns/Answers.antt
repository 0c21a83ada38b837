-- The schema presents a category.
use Rattle.std.proofs.Common.{subst, sym}
use Rattle.rw_schema.specs.Signature.{Signature, IsCategory}
use Rattle.rw_app.proofs.listed.Listed.known_columns.Goals as goal

pub returns-clause-category : goal.returns-clause-category
returns-clause-category c = subst (λ (C : Signature). IsCategory C) (sym c.args.self.now.over) c.arrow_list-arrows.ensures.category
