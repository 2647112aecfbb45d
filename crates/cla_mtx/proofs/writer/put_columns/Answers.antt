use Rattle.std.proofs.Common.{◌<◌, ◌∙◌, rules, arith}
use Rattle.std.proofs.lemmas.Result.{err_from_is_err_and}
use Rattle.cla_print.proofs.PieceLaws.{none_put, piece_on, piece_fails}
use Rattle.cla_mtx.specs.Texts.{column_text}
use Rattle.cla_mtx.proofs.writer.put_columns.Goals as goal

pub loop-j-init : goal.loop-j-init
loop-j-init g c = record {
  parted = none_put c.args.buffer.now (g.O.Sink.told c.args.out.now);
  later = search rules;
  steady = search rules;
  kept = g.met.O.Sink.kept_itself _;
  no_fault = search rules;
}

pub loop-j-preserved : goal.loop-j-preserved
loop-j-preserved g c =
    let before = c.loop-j.invariant in
    let put = c.in_ok-put_column.ensures in
    record {
      parted = piece_on c.args.buffer.now (column_text c.args.m.now) c.loop-j.j _ _ _ _ _ before.parted put.parts;
      later = omega (arith, put.later);
      steady = put.steady ∙ before.steady;
      kept = g.met.O.Sink.kept_on _ _ _ before.kept put.kept;
      no_fault = put.cause ∙ before.no_fault;
    }

pub returns-in_err-put_column-clause-parts : goal.returns-in_err-put_column-clause-parts
returns-in_err-put_column-clause-parts g c =
    let told = g.O.Sink.told in
    let below : c.loop-j.j < c.args.m.now.cols = omega (arith, c.loop-j-test.true, c.cols-j-end.ensures) in
    rw (err_from_is_err_and c.from_residual.result c.from_residual.ensures.1).1
    (piece_fails c.args.buffer.now (column_text c.args.m.now) c.loop-j.j c.args.m.now.cols (told c.args.out.now)
    (told c.loop-j.out)
    (told c.put_column.new.out) c.loop-j.buffer below c.loop-j.invariant.parted c.in_err-put_column.ensures.parts)
