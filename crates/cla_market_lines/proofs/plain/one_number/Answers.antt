use Rattle.cla_market_lines.specs.Plain.{signed}
use Rattle.cla_market_lines.proofs.PlainLaws.{one_is}
use Rattle.cla_market_lines.proofs.plain.one_number.Goals as goal

pub returns : goal.returns
returns c = one_is c.args.bytes.now c.in_ok-minus.rest.now (signed c.in_ok-minus.minus c.in_ok-minus.size)
    c.in_ok-minus.ensures
