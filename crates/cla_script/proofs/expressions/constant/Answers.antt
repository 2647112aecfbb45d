use Rattle.std.proofs.Common.{◌≤◌, arith}
use Rattle.std.proofs.Math.Pow.{pow_mono}
use Rattle.cla_script.proofs.expressions.constant.Goals as goal

pub returns-in_default : goal.returns-in_default
returns-in_default g c = omega (
  arith,
  pow_mono (let h : g.N.Number.BITS ≤ 48 = omega (arith, c.requires.most) in h),
  c.in_default.ensures,
)
