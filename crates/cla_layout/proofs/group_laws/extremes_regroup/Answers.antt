use Rattle.std.proofs.Common.{◌≡◌, true}
use Rattle.cla_layout.proofs.Regroup.{extremes_regroup}
use Rattle.cla_layout.proofs.group_laws.extremes_regroup.Goals as goal

pub returns : goal.returns
returns c n codes before f v are = extremes_regroup n codes (λ x y. before x y ≡ true) f v are
