use Rattle.std.proofs.Common.{◌≡◌, length, sym, ◌∙◌, arith}
use Rattle.std.proofs.lemmas.Grind.{common_steps}
use Rattle.cla_io.proofs.NumberLaws.{eight_bytes}
use Rattle.cla_io.proofs.numbers.number_in.Goals as goal

pub returns-in_default-clause-number : goal.returns-in_default-clause-number
returns-in_default-clause-number c =
    let eight : length c.args.bytes.now ≡ 8 = grind (arith, common_steps) in
    c.from_le_bytes-in_default.ensures ∙ sym (eight_bytes c.args.bytes.now eight)
