use Rattle.cla_grouping.proofs.TupleLemmas.{joins-agree}
use Rattle.cla_grouping.proofs.laws.joins_agree.Goals as goal

pub returns : goal.returns
returns c m first second = joins-agree m first second
