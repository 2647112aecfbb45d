use Rattle.std.proofs.Common.{◌≡◌, ◌∙◌, false, true, sym, ap, arith}
use Rattle.cla_spec.specs.Matrix.{entry}
use Rattle.cla_market.specs.Texts.{is_zero_value}
use Rattle.cla_mtx.proofs.TextLaws.{column_step}
use Rattle.cla_mtx.proofs.writer.count_in_column.Goals.{then-not-is_zero, else-not-is_zero}
use Rattle.cla_mtx.proofs.writer.count_in_column.Goals as goal

pub loop-i-preserved : goal.loop-i-preserved
loop-i-preserved g c =
    let m = c.args.m.now in
    let before = c.loop-i.invariant in
    let is : is_zero_value (entry m c.loop-i.i c.args.j) ≡ c.is_zero.result = ap is_zero_value (sym c.entry.ensures)
    ∙ sym c.is_zero.ensures in
    elim c.if-not-is_zero.branch [
      | then-not-is_zero w ↦ record {
        counted = column_step m c.args.j c.loop-i.i c.loop-i.count c.if-not-is_zero.count false
            (is ∙ w.if-not-is_zero.true) before.counted w.count-is;
        few = omega (arith, before.few, w.count-is);
      }
      | else-not-is_zero w ↦ record {
        counted = column_step m c.args.j c.loop-i.i c.loop-i.count c.if-not-is_zero.count true
            (is ∙ w.if-not-is_zero.false) before.counted (w.count-is ∙ omega arith);
        few = omega (arith, before.few, w.count-is);
      }
    ]
