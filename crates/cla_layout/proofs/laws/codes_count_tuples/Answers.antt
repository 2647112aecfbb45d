use Rattle.cla_layout.proofs.PartValues.{codes_count_tuples}
use Rattle.cla_layout.proofs.laws.codes_count_tuples.Goals as goal

pub returns : goal.returns
returns c n codes are = codes_count_tuples n codes are
