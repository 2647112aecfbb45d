use Rattle.cla_layout.proofs.PartFirsts.{fault_by_parts}
use Rattle.cla_layout.proofs.laws.faults_by_parts.Goals as goal

pub returns : goal.returns
returns c bits layout place fault firsts whole rises same each =
    fault_by_parts bits layout place fault firsts whole rises same each
