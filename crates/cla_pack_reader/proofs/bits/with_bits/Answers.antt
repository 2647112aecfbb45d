use Rattle.std.proofs.Common.{◌==◌, ℕ, ap, ◌∙◌}
use Rattle.std.specs.Int.{bit_at}
use Rattle.std.proofs.lemmas.Nat.Bits.{bit_at_or, bit_at-lt}
use Rattle.cla_pack_reader.proofs.BitLaws.{either_bit}
use Rattle.cla_pack_reader.proofs.bits.with_bits.Goals as goal

pub returns : goal.returns
returns c k = ap (λ (m : ℕ). m == 1) (bit_at_or c.args.word c.args.other k)
    ∙ either_bit (bit_at c.args.word k) (bit_at c.args.other k) (bit_at-lt c.args.word k) (bit_at-lt c.args.other k)
