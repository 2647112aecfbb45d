use Rattle.cla_layout.proofs.PartValues.{values_few}
use Rattle.cla_layout.proofs.laws.values_are_few.Goals as goal

pub returns : goal.returns
returns c bits layout q whole = values_few bits layout q whole
