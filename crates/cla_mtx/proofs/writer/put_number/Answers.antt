use Rattle.std.proofs.Common.{[], ◌∷◌}
use Rattle.std.proofs.lemmas.Result.{err_from_is_err_and}
use Rattle.cla_spec.specs.Numbers.{decimal_of}
use Rattle.cla_mtx.proofs.PartLaws.{first_fails, put_behind}
use Rattle.cla_mtx.proofs.writer.put_number.Goals as goal

pub returns-in_err-push-clause-parts : goal.returns-in_err-push-clause-parts
returns-in_err-push-clause-parts g c =
    let told = g.O.Sink.told in
    rw (err_from_is_err_and c.from_residual.result c.from_residual.ensures.1).1
    (first_fails c.args.buffer.now (decimal_of c.args.n) (c.args.end ∷ []) (told c.args.out.now) (told c.push.new.out)
    (rw c.put-len.ensures.text at c.in_err-push.ensures.parts))

pub returns-clause-parts : goal.returns-clause-parts
returns-clause-parts g c =
    let told = g.O.Sink.told in
    put_behind c.args.buffer.now (decimal_of c.args.n) (c.args.end ∷ []) (told c.args.out.now) (told c.push.new.out)
    (told c.push-2.new.out) c.push.new.self c.push-2.new.self c.push-2.result
    (rw c.put-len.ensures.text at c.in_ok-push.ensures.parts) c.push-2.ensures.parts
