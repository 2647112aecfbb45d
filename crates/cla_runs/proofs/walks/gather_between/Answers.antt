use Rattle.std.proofs.Common.{◌≡◌, ◌+ℤ◌, ℤ, pos, map, ap, sym, ◌∙◌, arith}
use Rattle.std.proofs.lemmas.List.{get_or_default}
use Rattle.cla_layout.specs.Groups.{at, gathered_to}
use Rattle.cla_group.proofs.Gathered.{gathered_here, gathered_size}
use Rattle.cla_runs.proofs.WalkSteps.{gathered_on}
use Rattle.cla_runs.proofs.walks.gather_between.Goals as goal

pub loop-i-init : goal.loop-i-init
loop-i-init g c =
    let sums = c.requires.sums in
    let place = c.requires.place c.if-a-b.false in
    let here : c.index-into-k.result ≡ at c.args.into.now c.args.k =
    c.index-into-k.is ∙ get_or_default c.args.into.now c.args.k c.index-into-k.result (pos 0) place in
    let size = gathered_size _ g.N.Number.value g.met.N.Number.in_range c.requires.bits sums.0 c.args.rows.now c.args.k
    c.args.a
    (omega (arith, c.if-a-b.false, c.requires.within)) in
    record { size = rw (here ∙ sums.1.sum c.args.k place) size; so_far = λ codes stretch is. here ∙ is }

pub loop-i-preserved : goal.loop-i-preserved
loop-i-preserved g c =
    let items = map g.N.Number.value c.args.rows.now in
    let i = c.loop-i.i in
    record {
      size = c.with_item-total.ensures.size;
      so_far = λ codes stretch is.
          c.with_item-total.ensures.sum ∙ ap (λ (z : ℤ). z +ℤ at items i) (c.loop-i.invariant.so_far codes stretch is)
          ∙ sym
          (gathered_here codes items c.args.k i
          (stretch.same i (omega (arith, c.loop-i.auto.i)) c.loop-i-test.true));
    }

pub returns-then-a-b : goal.returns-then-a-b
returns-then-a-b g c =
    λ codes stretch so_far. (let e : c.args.a ≡ c.args.b = omega (arith, stretch.order, c.if-a-b.true) in
    rw e at so_far)

pub returns : goal.returns
returns g c = λ codes stretch so_far.
    (let end : c.loop-i.i ≡ c.args.b = omega (arith, c.loop-i-test.false, c.loop-i.auto.i-end, stretch.order) in
    let place = c.requires.place c.if-a-b.false in
    gathered_on c.loop-i.total so_far stretch place
    (c.loop-i.invariant.so_far codes stretch (so_far.sum c.args.k place)
    ∙ ap (gathered_to codes (map g.N.Number.value c.args.rows.now) c.args.k) end))
