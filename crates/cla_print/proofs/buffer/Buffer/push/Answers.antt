use Rattle.std.proofs.lemmas.Result.{err_from_is_err_and}
use Rattle.cla_print.proofs.PartLaws.{front_put}
use Rattle.cla_print.proofs.buffer.Buffer.push.Goals as goal

pub returns-in_err-flush-clause-parts : goal.returns-in_err-flush-clause-parts
returns-in_err-flush-clause-parts g c =
    let told = g.O.Sink.told in
    rw (err_from_is_err_and c.from_residual.result c.from_residual.ensures.1).1
    (front_put c.args.self.now c.args.piece.now (told c.args.out.now) (told c.flush.new.out)
    c.in_err-flush.ensures.puts)
