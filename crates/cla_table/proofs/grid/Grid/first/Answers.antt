use Rattle.std.proofs.Common.{◌<◌, ◌^◌, arith}
use Rattle.cla_table.proofs.PlaceLaws.{cleared}
use Rattle.cla_table.proofs.grid.Grid.first.Goals as goal

pub returns : goal.returns
returns c = let small : c.args.row < 2 ^ 32 = omega arith in cleared c.args.self.shift c.args.row small
