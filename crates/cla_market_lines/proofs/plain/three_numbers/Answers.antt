use Rattle.std.proofs.Common.{pos}
use Rattle.cla_market_lines.specs.Plain.{signed}
use Rattle.cla_market_lines.proofs.PlainLaws.{three_is, plain_then}
use Rattle.cla_market_lines.proofs.plain.three_numbers.Goals as goal

pub returns : goal.returns
returns c =
    let a = plain_then 32 c.in_ok-row.row c.args.bytes.now c.in_ok-row.more.now c.in_ok-row.ensures in
    let b = plain_then 32 c.in_ok-col.col c.in_ok-row.more.now c.in_ok-col.last.now c.in_ok-col.ensures in
    three_is c.args.bytes.now c.in_ok-row.more.now c.in_ok-col.last.now c.in_ok-minus.rest.now (pos c.in_ok-row.row)
    (pos c.in_ok-col.col) (signed c.in_ok-minus.minus c.in_ok-minus.size) a b c.in_ok-minus.ensures
