use Rattle.std.proofs.Common.{◌<◌, ◌∙◌, rules, arith}
use Rattle.std.proofs.lemmas.Result.{err_from_is_err_and}
use Rattle.cla_print.proofs.PieceLaws.{none_put, piece_on, piece_fails}
use Rattle.cla_mtx.specs.Texts.{cell_text}
use Rattle.cla_mtx.proofs.writer.put_column.Goals as goal

pub loop-i-init : goal.loop-i-init
loop-i-init g c = record {
  parted = none_put c.args.buffer.now (g.O.Sink.told c.args.out.now);
  later = search rules;
  steady = search rules;
  kept = g.met.O.Sink.kept_itself _;
  no_fault = search rules;
}

pub loop-i-preserved : goal.loop-i-preserved
loop-i-preserved g c =
    let before = c.loop-i.invariant in
    let put = c.in_ok-put_cell.ensures in
    record {
      parted =
          piece_on c.args.buffer.now (cell_text c.args.m.now c.args.j) c.loop-i.i _ _ _ _ _ before.parted put.parts;
      later = omega (arith, put.later);
      steady = put.steady ∙ before.steady;
      kept = g.met.O.Sink.kept_on _ _ _ before.kept put.kept;
      no_fault = put.cause ∙ before.no_fault;
    }

pub returns-in_err-put_cell-clause-parts : goal.returns-in_err-put_cell-clause-parts
returns-in_err-put_cell-clause-parts g c =
    let told = g.O.Sink.told in
    let below : c.loop-i.i < c.args.m.now.rows = omega (arith, c.loop-i-test.true, c.rows-i-end.ensures) in
    rw (err_from_is_err_and c.from_residual.result c.from_residual.ensures.1).1
    (piece_fails c.args.buffer.now (cell_text c.args.m.now c.args.j) c.loop-i.i c.args.m.now.rows (told c.args.out.now)
    (told c.loop-i.out)
    (told c.put_cell.new.out) c.loop-i.buffer below c.loop-i.invariant.parted c.in_err-put_cell.ensures.parts)
