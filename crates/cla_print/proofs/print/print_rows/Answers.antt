use Rattle.std.proofs.Common.{length}
use Rattle.std.proofs.lemmas.Result.{err_from_is_err_and}
use Rattle.cla_layout.specs.Groups.{cell_of}
use Rattle.cla_print.specs.Texts.{rows_text}
use Rattle.cla_print.proofs.PartLaws.{front_puts, flush_puts}
use Rattle.cla_print.proofs.print.print_rows.Goals as goal

pub returns-in_err-put_rows-clause-puts : goal.returns-in_err-put_rows-clause-puts
returns-in_err-put_rows-clause-puts g c =
    let put = c.in_err-put_rows.ensures in
    let told = g.O.Sink.told in
    let cells = cell_of (g.G.Group.codes c.args.g.now) (g.G.Group.dictionary c.args.g.now) in
    let text = rows_text (length (g.G.Group.codes c.args.g.now)) (g.G.Group.columns c.args.g.now) cells in
    rw (err_from_is_err_and c.from_residual-in_err-put_rows.result c.from_residual-in_err-put_rows.ensures.1).1
    (front_puts text (told c.args.out.now) (told c.put_rows.new.out) (rw c.in_ok-buffer.ensures at put.parts))

pub returns-clause-puts : goal.returns-clause-puts
returns-clause-puts g c =
    let put = c.in_ok-put_rows.ensures in
    flush_puts _ _ _ _ _ _ (rw c.in_ok-buffer.ensures at put.parts) c.flush.ensures.puts
