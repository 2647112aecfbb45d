use Rattle.std.proofs.Common.{◌≡◌, ◌<◌, ◌+◌, ◌*◌, ◌∙◌, ℕ, length, take, drop, max, min, sym, ap, arith}
use Rattle.std.proofs.lemmas.List.{ext_get_or, length-take-le, length-drop, get_or-take, get_or-drop}
use Rattle.cla_rows.proofs.RunBounds.{runs_few, at_run, stretch_is, stretch_there, edge_even}
use Rattle.cla_runs.proofs.WalkSteps.{coded_on}
use Rattle.cla_runs.proofs.run_rows.RunRows.codes_into.Goals.{After-edge}
use Rattle.cla_runs.proofs.run_rows.RunRows.codes_into.Goals as goal

pub ended_by-s-requires : goal.ended_by-s-requires
ended_by-s-requires c = (_, _, _, c.self.invariant.runs)

pub overflow_mul-s : goal.overflow_mul-s
overflow_mul-s c =
    let is = rw (← c.ended_by-s.ensures) at (at_run c.self.invariant.runs c.args.a) in
    omega (arith, is.there, runs_few c.self.invariant.runs, c.self.invariant.few)

pub loop-self-init : goal.loop-self-init
loop-self-init c =
    let kept = rw c.self.view_is at c.self.invariant in
    let is = rw (← c.ended_by-s.ensures) at (at_run kept.runs c.args.a) in
    record {
      there = omega (arith, is.there);
      coded = record {
        done =
            λ j there before. absurd (omega (arith, before, edge_even kept.runs c.ended_by-s.result, is.from));
      };
    }

-- stretch s begins before the last of these rows, so it is there
there : (c : After-edge) → c.edge.result < c.args.a + length c.args.into.now →
    c.loop-self.s < 2 * length c.self.inside.runs.keys.items + 1
there c before =
    let kept = rw c.self.view_is at c.self.invariant in
    stretch_there kept.runs c.loop-self.s (c.args.a + length c.args.into.now) c.loop-self.invariant.there
    (omega (arith, before, c.edge.ensures)) c.requires

pub code-requires : goal.code-requires
code-requires c = there (goal.at.code-requires c).After-edge c.loop-self-test.true

pub loop-self-preserved : goal.loop-self-preserved
loop-self-preserved c =
    let kept = rw c.self.view_is at c.self.invariant in
    let s = there (goal.at.loop-self-preserved c).After-edge c.loop-self-test.true in
    let b = c.args.a + length c.args.into.now in
    let begin = c.max-begin.ensures ∙ ap (λ (x : ℕ). max x c.args.a) c.edge-in-loop-self.ensures in
    let end = c.max-end.ensures ∙ ap (λ (x : ℕ). max x c.max-begin.result) (c.min.ensures
    ∙ ap (λ (x : ℕ). min x b) c.edge-in-loop-self-2.ensures) in
    let given = rw (c.code.ensures, c.rest.ensures) at c.give_code.ensures.given in
    record {
      there = omega (arith, s);
      coded = coded_on b c.max-begin.result c.max-end.result c.give_code.new.into
          (stretch_is kept.runs (omega arith) c.loop-self.s s) c.loop-self.invariant.coded
          c.give_code.auto.into (omega (arith, c.loop-self.auto.into)) begin end given c.give_code.ensures.before;
    }

pub loop-self-smaller : goal.loop-self-smaller
loop-self-smaller c = omega (arith, there (goal.at.loop-self-smaller c).After-edge c.loop-self-test.true)

pub returns : goal.returns
returns c =
    let codes = c.args.self.now.codes in
    let a = c.args.a in
    let m = length c.args.into.now in
    let size : length c.loop-self.into ≡ m = c.loop-self.auto.into in
    ext_get_or 0 c.loop-self.into (take m (drop a codes)) (size
    ∙ sym (length-take-le m (drop a codes) (omega (arith, length-drop a codes, c.requires))))
    (λ j lt. (let row : j < m = rw size at lt in
    c.loop-self.invariant.coded.done j lt (omega (arith, row, c.loop-self-test.false, c.edge.ensures))
    ∙ sym (get_or-take m (drop a codes) j 0 row ∙ get_or-drop a codes j 0)))
