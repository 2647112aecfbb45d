use Rattle.std.proofs.lemmas.Result.{err_from_is_err_and}
use Rattle.cla_market.specs.Texts.{matrix_market_text}
use Rattle.cla_print.proofs.PartLaws.{front_puts, flush_puts}
use Rattle.cla_mtx.proofs.writer.put_text.Goals as goal

pub returns-in_err-put_lines-clause-puts : goal.returns-in_err-put_lines-clause-puts
returns-in_err-put_lines-clause-puts g c =
    let told = g.O.Sink.told in
    rw (err_from_is_err_and c.from_residual-in_err-put_lines.result c.from_residual-in_err-put_lines.ensures.1).1
    (front_puts (matrix_market_text c.args.m.now) (told c.args.out.now) (told c.put_lines.new.out)
    (rw c.in_ok-buffer.ensures at c.in_err-put_lines.ensures.parts))

pub returns-clause-puts : goal.returns-clause-puts
returns-clause-puts g c =
    flush_puts _ _ _ _ _ _ (rw c.in_ok-buffer.ensures at c.in_ok-put_lines.ensures.parts) c.flush.ensures.puts
