use Rattle.std.proofs.Common.{◌≡◌, ◌<◌, ◌+◌, ◌*◌, length, refl, ap, ◌∙◌, arith}
use Rattle.cla_rows.specs.RunBounds.{IsStretch, edge}
use Rattle.cla_runs.specs.Walks.{AreJoinedTo}
use Rattle.cla_rows.proofs.RunBounds.{stretch_is, edge_last}
use Rattle.cla_runs.proofs.WalkSteps.{fits_on}
use Rattle.cla_runs.proofs.run_rows.RunRows.join_each.Given.{Over}
use Rattle.cla_runs.proofs.run_rows.RunRows.join_each.Goals.{After-edge-in-loop-s}
use Rattle.cla_runs.proofs.run_rows.RunRows.join_each.Goals as goal

-- the rows of stretch s, where those before them are joined
stretch : (g : Over) (c : After-edge-in-loop-s g) →
    IsStretch c.args.self.now.codes c.code.result c.edge.result c.edge-in-loop-s.result
stretch g c =
    let kept = rw c.self.view_is at c.self.invariant in
    let s : c.loop-s.s < 2 * length c.self.inside.runs.keys.items + 1 =
    omega (arith, c.loop-s-test.true, c.len.ensures) in
    rw (c.code.ensures, c.rest.ensures, c.edge.ensures, c.edge-in-loop-s.ensures)
    (stretch_is kept.runs (omega arith) c.loop-s.s s)

so_far : (g : Over) (c : After-edge-in-loop-s g) →
    AreJoinedTo c.edge.result g.J.Join.join c.args.self.now.codes c.args.parts.now c.args.into.now c.loop-s.into
so_far g c = rw c.edge.ensures c.loop-s.invariant

pub join_between-requires : goal.join_between-requires
join_between-requires g c =
    let at = (goal.at.join_between-requires g c).After-edge-in-loop-s in
    let here = stretch g at in
    record {
      order = here.order;
      within = omega (arith, here.within, c.loop-s.auto.into, c.requires.rows);
      fits = fits_on g.J.Join.can_join here (so_far g at) c.part_of-part.ensures c.requires.rows c.requires.fits;
    }

pub loop-s-init : goal.loop-s-init
loop-s-init g c =
    let kept = rw c.self.view_is at c.self.invariant in
    record { done = λ i before. absurd (omega (arith, before, kept.runs.first)); left = λ i past. refl }

pub loop-s-preserved : goal.loop-s-preserved
loop-s-preserved g c =
    let at = (goal.at.loop-s-preserved g c).After-edge-in-loop-s in
    rw (← c.edge-in-loop-s.ensures) (c.join_between.ensures _ _ _ _ (stretch g at) c.part_of-part.ensures (so_far g at))

pub returns : goal.returns
returns g c =
    let kept = rw c.self.view_is at c.self.invariant in
    let end : c.loop-s.s ≡ 2 * length c.self.inside.runs.keys.items + 1 =
    omega (arith, c.loop-s-test.false, c.loop-s.auto.s-end, c.len.ensures) in
    let all = ap (edge c.self.inside.runs.begins.items c.self.inside.runs.ends.items) end ∙ edge_last kept.runs in
    λ i row. c.loop-s.invariant.done i (omega (arith, row, all))
