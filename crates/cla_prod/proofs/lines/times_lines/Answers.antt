use Rattle.std.proofs.Common.{◌≡◌, ◌+◌, ◌-◌, ◌*◌, ℕ, length, refl, ap, sym, ◌∙◌, arith}
use Rattle.std.proofs.Math.Nat.{mul-le-mul_right}
use Rattle.cla_layout.specs.Values.{values_of}
use Rattle.cla_coded.specs.Parts.{parts_of}
use Rattle.cla_prod.specs.Lines.{line_times}
use Rattle.cla_prod.proofs.LinesRead.{line_length, line_size, lines_few}
use Rattle.cla_prod.proofs.LinesWritten.{line_step, behind_line, put_length}
use Rattle.cla_prod.proofs.lines.times_lines.Goals as goal

pub times_line_of-requires-clause-lines : goal.times_line_of-requires-clause-lines
times_line_of-requires-clause-lines g c = record {
  count = c.requires.lines.count;
  inner = c.requires.lines.inner;
  written = refl;
  few = c.requires.lines.few;
  whole = c.requires.lines.whole;
}

pub times_line_of-requires-clause-product : goal.times_line_of-requires-clause-product
times_line_of-requires-clause-product g c =
    let lines = c.args.lines in
    let l = c.loop-l.l in
    line_length l lines.count lines.outer ((l + 1) * lines.outer - l * lines.outer) c.loop-l.exact
    c.loop-l-test.true
    (c.loop-l.auto.exact ∙ c.requires.lines.written) (line_size l lines.outer)

pub times_line_of-requires-clause-room : goal.times_line_of-requires-clause-room
times_line_of-requires-clause-room g c =
    let parts = parts_of g.G.Group.codes g.G.Group.dictionary c.args.parts.now in
    let few = lines_few g.N.Number.BITS parts c.args.lines c.args.m.now (length c.args.exact.now) c.loop-l.l
    c.requires.lines
    (omega (arith, c.loop-l-test.true)) in
    rw c.loop-l.invariant.counts (record {
      mults = omega (arith, c.requires.room.mults, few);
      maps = omega
          (arith, c.requires.room.maps);
    })

pub loop-l-preserved : goal.loop-l-preserved
loop-l-preserved g c =
    let lines = c.args.lines in
    let parts = parts_of g.G.Group.codes g.G.Group.dictionary c.args.parts.now in
    let l = c.loop-l.l in
    let n = (l + 1) * lines.outer - l * lines.outer in
    let old = c.loop-l.exact in
    let new = c.times_line_of.new.product in
    let there = c.loop-l-test.true in
    let long : length old ≡ lines.count * lines.outer = c.loop-l.auto.exact ∙ c.requires.lines.written in
    let written = line_length l lines.count lines.outer n old there long (line_size l lines.outer) in
    let size : length new ≡ lines.outer = c.times_line_of.auto.product ∙ written in
    let up_to = mul-le-mul_right {m = l + 1} {n = lines.count} lines.outer (omega (arith, there)) in
    let more : c.args.meter.now.mults + l * values_of parts + values_of parts ≡ c.args.meter.now.mults +
    (l + 1) * values_of parts = omega arith in
    record {
      done = line_step l lines.count lines.outer n (line_times parts lines c.args.m.now) old new
          there long (line_size l lines.outer) size c.times_line_of.ensures.product
          c.loop-l.invariant.done;
      zeros = λ p past within.
          behind_line l lines.count lines.outer n p old new there long (line_size l lines.outer) size past
          ∙ c.loop-l.invariant.zeros p (omega (arith, past))
          (omega (
            arith,
            within,
            put_length (l * lines.outer) n old new
                (omega (arith, up_to, long, line_size l lines.outer)) (size ∙ sym (line_size l lines.outer)),
          ));
      counts = rw (c.times_line_of.ensures.counts, c.loop-l.invariant.counts)
          (ap (λ (k : ℕ). record c.args.meter.now { mults = k }) more);
    }
