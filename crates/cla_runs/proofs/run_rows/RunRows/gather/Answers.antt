use Rattle.std.proofs.Common.{◌≡◌, ◌<◌, ◌+◌, ◌*◌, length, map, pos, refl, ap, ◌∙◌, arith}
use Rattle.cla_rows.specs.RunBounds.{IsStretch, edge}
use Rattle.cla_runs.specs.Walks.{AreGatheredTo}
use Rattle.cla_layout.specs.Groups.{gathered_to}
use Rattle.cla_rows.proofs.RunBounds.{stretch_is, edge_last}
use Rattle.cla_runs.proofs.run_rows.RunRows.gather.Given.{Over}
use Rattle.cla_runs.proofs.run_rows.RunRows.gather.Goals.{After-edge-in-loop-s}
use Rattle.cla_runs.proofs.run_rows.RunRows.gather.Goals as goal

-- the rows of stretch s, where those before them are gathered
stretch : (g : Over) (c : After-edge-in-loop-s g) →
    IsStretch c.args.self.now.codes c.code-k.result c.edge.result c.edge-in-loop-s.result
stretch g c =
    let kept = rw c.self.view_is at c.self.invariant in
    let s : c.loop-s.s < 2 * length c.self.inside.runs.keys.items + 1 =
    omega (arith, c.loop-s-test.true, c.len.ensures) in
    rw (c.code-k.ensures, c.rest.ensures, c.edge.ensures, c.edge-in-loop-s.ensures)
    (stretch_is kept.runs (omega arith) c.loop-s.s s)

so_far : (g : Over) (c : After-edge-in-loop-s g) → AreGatheredTo c.edge.result c.args.self.now.codes
    (map g.N.Number.value c.args.rows.now) c.loop-s.into
so_far g c = rw c.edge.ensures c.loop-s.invariant

pub gather_between-requires : goal.gather_between-requires
gather_between-requires g c =
    let kept = rw c.self.view_is at c.self.invariant in
    let at = (goal.at.gather_between-requires g c).After-edge-in-loop-s in
    let here = stretch g at in
    record {
      bits = c.requires.bits;
      few = omega (arith, c.requires.rows, kept.few);
      within = omega (arith, here.within, c.requires.rows);
      place = λ some. omega (
        arith,
        here.same c.edge.result (omega arith) some,
        kept.in_tuples c.edge.result (omega (arith, some, here.within)),
        c.requires.tuples,
        c.loop-s.auto.into,
        c.fill.ensures.len,
      );
      sums = (c.args.self.now.codes, so_far g at);
    }

pub loop-s-init : goal.loop-s-init
loop-s-init g c =
    let kept = rw c.self.view_is at c.self.invariant in
    rw kept.runs.first (record {
      sum = λ k there. c.fill.ensures.clones k (pos 0) (omega (arith, there, c.fill.ensures.len)) refl
          ∙ c.zero.ensures;
    })

pub loop-s-preserved : goal.loop-s-preserved
loop-s-preserved g c =
    let at = (goal.at.loop-s-preserved g c).After-edge-in-loop-s in
    rw (← c.edge-in-loop-s.ensures) (c.gather_between.ensures _ (stretch g at) (so_far g at))

pub returns : goal.returns
returns g c =
    let kept = rw c.self.view_is at c.self.invariant in
    let items = map g.N.Number.value c.args.rows.now in
    let end : c.loop-s.s ≡ 2 * length c.self.inside.runs.keys.items + 1 =
    omega (arith, c.loop-s-test.false, c.loop-s.auto.s-end, c.len.ensures) in
    let all = ap (edge c.self.inside.runs.begins.items c.self.inside.runs.ends.items) end ∙ edge_last kept.runs in
    λ k there. c.loop-s.invariant.sum k (omega (arith, there, c.loop-s.auto.into, c.fill.ensures.len))
    ∙ ap (gathered_to c.args.self.now.codes items k) all
