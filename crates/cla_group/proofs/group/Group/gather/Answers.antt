use Rattle.std.proofs.Common.{◌<◌, length, arith, sym}
use Rattle.cla_layout.proofs.Bounds.{rows_few}
use Rattle.cla_group.proofs.group.Group.gather.Goals as goal

pub gather_row-requires : goal.gather_row-requires
gather_row-requires g c =
    let codes = g.Self.Group.codes c.args.self.now in
    let laws = g.met.Self.Group.laws c.args.self.now in
    let row : c.loop-i.i < length codes = omega (arith, c.loop-i-test.true, c.rows-i-end.ensures) in
    let below = laws.in_tuples c.loop-i.i row in
    record {
      bits = c.requires.bits;
      few = omega (arith, rows_few _ _ _ _ laws, c.requires.rows);
      row = omega (arith, row, c.requires.rows);
      place = omega (arith, below, c.code_at-k.ensures, c.loop-i.auto.into, c.fill.ensures.len, c.requires.tuples);
      so_far = (codes, sym c.code_at-k.ensures, c.loop-i.invariant.so_far);
    }

pub loop-i-preserved : goal.loop-i-preserved
loop-i-preserved g c = record {
  so_far = c.gather_row.ensures (g.Self.Group.codes c.args.self.now) (sym c.code_at-k.ensures)
      c.loop-i.invariant.so_far;
}
