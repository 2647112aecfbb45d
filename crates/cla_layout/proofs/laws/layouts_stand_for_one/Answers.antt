use Rattle.cla_layout.proofs.Matrices.{one_matrix}
use Rattle.cla_layout.proofs.laws.layouts_stand_for_one.Goals as goal

pub returns : goal.returns
returns c bits layout m whole shaped standing = one_matrix bits layout m whole shaped standing
