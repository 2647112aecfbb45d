use Rattle.std.proofs.Common.{arith}
use Rattle.std.proofs.Math.Nat.{mul_comm}
use Rattle.cla_spec.proofs.Entries.{cell_within}
use Rattle.cla_coded.proofs.dense.Shape.place.Goals as goal

pub returns-then-self-clause-within : goal.returns-then-self-clause-within
returns-then-self-clause-within c =
    let s = c.args.self in
    omega (arith, cell_within s.cols s.rows c.args.j c.args.i c.requires.col c.requires.row, mul_comm s.rows s.cols)

pub returns-else-self-clause-within : goal.returns-else-self-clause-within
returns-else-self-clause-within c = cell_within c.args.self.rows c.args.self.cols c.args.i c.args.j c.requires.row
    c.requires.col
