use Rattle.cla_grouping.proofs.Partition.{cut-partition}
use Rattle.cla_grouping.proofs.laws.cuts_part_columns.Goals as goal

pub returns : goal.returns
returns c m some = cut-partition m some
