use Rattle.cla_meaning.proofs.Faults.{no_fault, fault_is}
use Rattle.cla_meaning.proofs.laws.faults_are_first.Goals as goal

pub returns : goal.returns
returns c = record { none = no_fault; first = fault_is }
