use Rattle.std.proofs.Common.{drop, arith}
use Rattle.cla_tokens.proofs.DigitValues.{value_grows}
use Rattle.cla_tokens.proofs.number.digits_value.Goals as goal

pub returns-then-held : goal.returns-then-held
returns-then-held c = omega (
  arith,
  value_grows c.loop-digit.held (drop c.loop-digit.digit-index c.args.digits.now),
  c.loop-digit.invariant.0,
  c.if-held.true,
)
