use Rattle.cla_layout.proofs.Regroup.{regroup}
use Rattle.cla_layout.proofs.group_laws.sums_regroup.Goals as goal

pub returns : goal.returns
returns c n codes f are = regroup f codes n are.in_tuples
