use Rattle.std.proofs.Common.{refl, ℕ, List, subst, arith}
use Rattle.std.specs.Io.KnownBytes.{Appends}
use Rattle.rw_app.specs.Endings.{AppendsPart}
use Rattle.rw_app.proofs.Complete.{part_written}
use Rattle.rw_app.proofs.run.write_usage.Goals as goal
use Rattle.rw_app.proofs.run.write_usage.Goals.{in-Ok, in-Err-Fault}

pub returns-clause-ends : goal.returns-clause-ends
returns-clause-ends g c =
    let held = g.K.Sink.held c.args.sink.now in
    let now = g.K.Sink.held c.write_all.new.sink in
    elim c.match-write_all.branch [
      | in-Ok w ↦ rw w.result-is ((refl, refl), subst (λ (text : List ℕ). Appends held now text) c.as_bytes.ensures.value w.in-Ok.ensures.bytes)
      | in-Err-Fault w ↦
          let part : AppendsPart held now c.as_bytes.result.now = part_written _ held now _ w.in-Err-Fault.ensures.bytes in
          rw w.result-is ((refl, refl), omega (arith, w.in-Err-Fault.ensures.faults), subst (λ (text : List ℕ). AppendsPart held now text) c.as_bytes.ensures.value part)
    ]
