use Rattle.std.proofs.Common.{◌≡◌, ◌-◌, ◌*◌, ◌/◌, ◌%◌, ◌^◌, ◌≤◌, min, ℕ, ◌==◌, ap, ◌∙◌, arith}
use Rattle.std.specs.Int.{bit_at}
use Rattle.std.proofs.lemmas.Nat.Bits.{ones_shl, ones_shr, bit_at_and}
use Rattle.cla_pack_reader.proofs.BitLaws.{bits_meet}
use Rattle.cla_pack_reader.proofs.bits.bits_between.Goals as goal

pub returns : goal.returns
returns c k small =
    let place = c.args.place in
    let low = c.saturating_sub-low.result in
    let high = c.min-high.result in
    let low_is : low ≡ c.args.begin - place * 64 = omega (arith, c.saturating_sub-low.ensures) in
    let high_is : high ≡ min (c.args.end - place * 64) 64 = omega (arith, c.min-high.ensures) in
    let within : low ≤ 64 = omega (arith, low_is, c.requires.before) in
    let left = ones_shl 64 low within in
    let right = ones_shr 64 (64 - high) (omega arith) in
    let width : 64 - (64 - high) ≡ high = omega (arith, high_is) in
    ap (λ (b : ℕ). b == 1) (bit_at_and ((2 ^ 64 - 1) * 2 ^ low % 2 ^ 64) ((2 ^ 64 - 1) / 2 ^ (64 - high)) k
    ∙ (λ i. min (bit_at (left i) k) (bit_at ((right ∙ ap (λ (m : ℕ). 2 ^ m - 1) width) i) k)))
    ∙ bits_meet c.args.begin c.args.end place low high k low_is high_is c.requires.before small
