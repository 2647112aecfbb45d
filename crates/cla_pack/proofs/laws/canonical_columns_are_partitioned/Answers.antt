use Rattle.cla_pack.proofs.LayoutsBy.{columns_parted}
use Rattle.cla_pack.proofs.laws.canonical_columns_are_partitioned.Goals as goal

pub returns : goal.returns
returns c bits layout kinds is = columns_parted bits layout kinds is
