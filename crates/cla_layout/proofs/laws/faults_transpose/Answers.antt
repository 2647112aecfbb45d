use Rattle.cla_layout.proofs.PartFirsts.{fault_transposed}
use Rattle.cla_layout.proofs.laws.faults_transpose.Goals as goal

pub returns : goal.returns
returns c rows cols place fault first is = fault_transposed rows cols place fault first is
