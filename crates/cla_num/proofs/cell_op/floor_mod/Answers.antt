use Rattle.std.proofs.Common.{rules, ◌≡◌, pos, ◌-ℤ◌, FitsSigned, Some, arith}
use Rattle.std.proofs.lemmas.Grind.{common_steps}
use Rattle.std.specs.Int.{w128}
use Rattle.cla_num.specs.Cells.{remainder}
use Rattle.cla_num.proofs.cell_op.floor_mod.Goals as goal

pub returns-in_default : goal.returns-in_default
returns-in_default c =
    let fits : FitsSigned w128 (pos 0 -ℤ c.rem_euclid.result) = search rules in
    let is : remainder c.args.a c.args.b ≡ Some (pos 0 -ℤ c.rem_euclid.result) = grind (arith, common_steps) in
    grind (arith, common_steps, fits, is)
