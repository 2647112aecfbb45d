use Rattle.std.proofs.Common.{arith}
use Rattle.cla_codes.proofs.codes.CodesGroup.first_row.Goals as goal

pub first_row-requires : goal.first_row-requires
first_row-requires g c = (omega arith, rw c.deref.ensures (c.args.self.now.is.used c.args.k c.requires.tuple))
