-- Which elements stay does not depend on the values of the right side.
use Rattle.std.proofs.Common.{ℕ, List, Option}
use Rattle.rw_schema.specs.declared.atom.Atom.{Atom}
use Rattle.rw_schema.specs.Signature.{Signature}
use Rattle.rw_spec.specs.Instance.{Instance}
use Rattle.rw_partial.specs.SubInstance.{Elements}
use Rattle.rw_partial.specs.SinglePushout.{Fits, IsLargestPair}
use Rattle.rw_rule.specs.RuleLists.{RuleLists}
use Rattle.rw_spo.specs.PairContexts.{valued}

-- a pair fits with other values
fits_valued : (C : Signature) (rule : RuleLists) (tuple : List ℕ) (X : Instance) (values others : ℕ → ℕ → Option Atom) (D R : Elements)
    → Fits C (valued rule tuple X values) D R → Fits C (valued rule tuple X others) D R
fits_valued C rule tuple X values others D R fits = record {
  host = fits.host;
  right = record { values = fits.right.values; holders = fits.right.holders };
  sets = fits.sets;
  parts = fits.parts;
  cells = fits.cells;
}

-- the largest pair is the largest with other values
pub largest_valued : (C : Signature) (rule : RuleLists) (tuple : List ℕ) (X : Instance) (values others : ℕ → ℕ → Option Atom) (D R : Elements)
    → IsLargestPair C (valued rule tuple X values) D R → IsLargestPair C (valued rule tuple X others) D R
largest_valued C rule tuple X values others D R largest = record {
  fits = fits_valued C rule tuple X values others D R largest.fits;
  host = λ E Q fits. largest.host E Q (fits_valued C rule tuple X others values E Q fits);
  right = λ E Q fits.
      let inside = largest.right E Q (fits_valued C rule tuple X others values E Q fits) in
      record { parts = inside.parts; cells = inside.cells };
}
