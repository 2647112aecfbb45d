use Rattle.std.proofs.Common.{◌<◌, ◌≤◌, ◌^◌, pow_mono, arith}
use Rattle.cla_market_lines.proofs.entry.one.Goals as goal

pub unreachable-requires : goal.unreachable-requires
unreachable-requires g c =
    let bits = g.N.Number.BITS in
    let two : 2 ^ 1 ≤ 2 ^ bits = pow_mono c.requires.least in
    let small : 1 < 2 ^ bits = omega (arith, two) in
    let some = c.in-None.ensures.cause.1 (c.requires, small) in
    absurd cc
