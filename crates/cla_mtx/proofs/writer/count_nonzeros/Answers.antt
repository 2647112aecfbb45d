use Rattle.std.proofs.Common.{◌∙◌, pos, ap, arith}
use Rattle.cla_mtx.proofs.TextLaws.{columns_step, more_columns}
use Rattle.cla_mtx.proofs.writer.count_nonzeros.Goals as goal

pub loop-j-preserved : goal.loop-j-preserved
loop-j-preserved g c =
    let m = c.args.m.now in
    let j = c.loop-j.j in
    let before = c.loop-j.invariant in
    record {
      counted = c.plus-count.ensures
          ∙ columns_step m j c.loop-j.count c.count.result before.counted
          (c.count.ensures ∙ ap pos c.count_in_column.ensures);
      few = omega (arith, more_columns m j, before.few, c.count_in_column.ensures, c.count_in_column.type_inv);
    }
