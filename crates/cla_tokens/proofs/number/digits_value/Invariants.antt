use Rattle.std.proofs.Common.{◌≡◌, ◌<◌, ◌^◌, drop}
use Rattle.cla_tokens.specs.Values.{value_from, value}
use Rattle.cla_tokens.proofs.number.digits_value.Given as goal

abbrev pub invariant-loop-digit : goal.invariant-loop-digit
invariant-loop-digit l = (value_from l.held (drop l.digit-index l.digits) ≡ value l.digits) × (l.held < 2 ^ 60)
