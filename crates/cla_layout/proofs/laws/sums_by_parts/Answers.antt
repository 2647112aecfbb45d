use Rattle.cla_layout.proofs.PartSums.{cells_by_parts}
use Rattle.cla_layout.proofs.laws.sums_by_parts.Goals as goal

pub returns : goal.returns
returns c bits layout f whole = cells_by_parts bits layout f whole
