use Rattle.std.proofs.Common.{arith, ◌∙◌}
use Rattle.std.proofs.lemmas.Grind.{common_steps}
use Rattle.cla_io.proofs.Growth.{grows_on}
use Rattle.cla_io.proofs.put.put_all.Goals as goal

pub loop-done-preserved : goal.loop-done-preserved
loop-done-preserved g c =
    let wrote = c.in_ok-done.ensures in
    let before = c.loop-done.invariant in
    record {
      within = grind (arith, common_steps, wrote.writes.1);
      so_far = grows_on _ _ _ _ _ _ before.so_far wrote.writes.2;
      later = omega (arith, wrote.later);
      steady = wrote.steady ∙ before.steady;
      kept = g.met.O.Sink.kept_on _ _ _ before.kept wrote.kept;
      no_fault = wrote.cause ∙ before.no_fault;
      empty = λ none. absurd (omega (arith, none));
    }
