use Rattle.std.proofs.Common.{arith}
use Rattle.cla_codes.proofs.codes.CodesGroup.occurrences.Goals as goal

pub occurrences-requires : goal.occurrences-requires
occurrences-requires g c = (omega arith, rw c.deref.ensures (c.args.self.now.is.used c.args.k c.requires.tuple))
