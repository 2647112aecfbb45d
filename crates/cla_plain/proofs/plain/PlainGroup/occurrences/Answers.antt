use Rattle.std.proofs.Common.{length, sym}
use Rattle.cla_layout.proofs.Counting.{occurs_once}
use Rattle.cla_plain.proofs.plain.PlainGroup.occurrences.Goals as goal

pub returns : goal.returns
returns g c = sym (occurs_once (length c.args.self.now.dictionary.tuples) c.args._k c.requires.tuple)
