use Rattle.std.proofs.Common.{arith}
use Rattle.cla_numbering.proofs.entries.number_entries.Goals as goal

pub number_by_value-requires-clause-within : goal.number_by_value-requires-clause-within
number_by_value-requires-clause-within g c = λ i there. omega (arith, c.greatest_place-greatest.ensures i there)
