use Rattle.std.proofs.Common.{◌≡◌, true}
use Rattle.cla_layout.proofs.Regroup.{faults_regroup}
use Rattle.cla_layout.proofs.group_laws.faults_regroup.Goals as goal

pub returns : goal.returns
returns c n width codes fails are = faults_regroup n width codes (λ k c. fails k c ≡ true) are
