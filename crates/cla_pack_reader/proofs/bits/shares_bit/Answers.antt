use Rattle.std.proofs.Common.{rules, w64, ◌≡◌, ◌<◌, ◌^◌, min, ℕ, bit_and, sym, ap, ◌∙◌, arith}
use Rattle.std.specs.Int.{bit_at, trailing_zeros}
use Rattle.std.proofs.lemmas.Nat.Bits.{bit_at_and, bit_at-zero, bit_at-lt, bit_at-trailing_zeros}
use Rattle.cla_pack_reader.proofs.bits.shares_bit.Goals as goal

pub returns-clause-some : goal.returns-clause-some
returns-clause-some c h =
    let both = bit_and c.args.word c.args.other in
    let small : both < 2 ^ 64 = search rules in
    let some : 0 < both = search rules in
    let t = bit_at-trailing_zeros w64 both some small in
    let k = trailing_zeros w64 both in
    let meet : min (bit_at c.args.word k) (bit_at c.args.other k) ≡ 1 =
    sym (bit_at_and c.args.word c.args.other k) ∙ t.1 in (
      k,
      t.0,
      omega (arith, meet, bit_at-lt c.args.word k),
      omega (arith, meet, bit_at-lt c.args.other k),
    )

pub returns-clause-none : goal.returns-clause-none
returns-clause-none c h k set =
    let both = bit_and c.args.word c.args.other in
    let none : both ≡ 0 = search rules in
    let meet : min (bit_at c.args.word k) (bit_at c.args.other k) ≡ 0 =
    sym (bit_at_and c.args.word c.args.other k) ∙ ap (λ (n : ℕ). bit_at n k) none ∙ bit_at-zero k in
    omega (arith, meet, set)
