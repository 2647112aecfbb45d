use Rattle.std.proofs.Common.{length}
use Rattle.cla_layout.proofs.Regroup.{regroup_weighted}
use Rattle.cla_layout.proofs.group_laws.weighted_sums_regroup.Goals as goal

pub returns : goal.returns
returns c n codes weights f are = regroup_weighted f codes weights n (length codes) are.in_tuples
