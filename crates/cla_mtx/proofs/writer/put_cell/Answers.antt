use Rattle.std.proofs.Common.{◌≡◌, ◌++◌, ◌∙◌, List, ℕ, false, sym, ap, subst}
use Rattle.cla_spec.specs.Matrix.{entry}
use Rattle.cla_market.specs.Texts.{is_zero_value}
use Rattle.cla_print.specs.Parting.{Parts}
use Rattle.cla_mtx.proofs.TextLaws.{cell_is}
use Rattle.cla_mtx.proofs.writer.put_cell.Goals as goal

pub returns-clause-parts : goal.returns-clause-parts
returns-clause-parts g c =
    let m = c.args.m.now in
    let told = g.O.Sink.told in
    let is : is_zero_value (entry m c.args.i c.args.j) ≡ false = ap is_zero_value (sym c.entry-value.ensures)
    ∙ sym c.is_zero.ensures ∙ c.if-is_zero.false in
    subst (λ (t : List ℕ). Parts (c.args.buffer.now ++ t) (told c.args.out.now) (told c.put_numbers.new.out)
    c.put_numbers.new.buffer c.put_numbers.result)
    (cell_is m c.args.i c.args.j c.count.result c.count-2.result c.wide.result is c.count.ensures c.count-2.ensures
    (c.wide.ensures ∙ c.entry-value.ensures)) c.put_numbers.ensures.parts
