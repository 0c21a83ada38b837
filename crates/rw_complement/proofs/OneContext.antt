-- What is known of all pushout complements of a redex, in one place.
use Rattle.rw_complement.specs.OneContext.{HaveOneContext}
use Rattle.rw_complement.specs.Complement.{identity}
use Rattle.rw_complement.specs.Context.{context_of, context_map}
use Rattle.rw_complement.proofs.Apart.{can_be_glued}
use Rattle.rw_complement.proofs.Complement.{context_is_complement}
use Rattle.rw_complement.proofs.Least.{context_is_least, only_context}

-- there is a complement where the gluing condition holds and nowhere else, and the context is the only least one
pub one_context : HaveOneContext
one_context C category R redex = record {
  exists = (
    λ can. (context_of C R, context_map R, identity, context_is_complement C category R redex can),
    λ some. can_be_glued C category R redex some.0 some.1 some.2 some.3,
  );
  least = context_is_least C category R redex;
  only = only_context C category R;
}
