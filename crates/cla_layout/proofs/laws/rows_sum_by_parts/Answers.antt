use Rattle.cla_layout.proofs.PartSums.{row_by_parts}
use Rattle.cla_layout.proofs.laws.rows_sum_by_parts.Goals as goal

pub returns : goal.returns
returns c bits layout f i whole = row_by_parts bits layout f i whole
