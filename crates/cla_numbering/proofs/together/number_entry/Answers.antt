use Rattle.std.proofs.Common.{arith}
use Rattle.cla_numbering.proofs.TogetherLemmas.{row-more}
use Rattle.cla_numbering.proofs.together.number_entry.Goals as goal

pub returns : goal.returns
returns c = λ places is _. row-more places c.args.place c.number_place-code.result c.args.column.now _ is
    (omega (arith, c.if-place-len.false, c.len.ensures)) (omega (arith, c.requires.few))
    c.number_place-code.ensures.code c.number_place-code.ensures.table c.number_place-code.ensures.next
    c.in_ok-push.ensures.items
