use Rattle.cla_layout.proofs.Matrices.{transposed_twice}
use Rattle.cla_layout.proofs.laws.transposed_twice.Goals as goal

pub returns : goal.returns
returns c m shaped = transposed_twice m shaped
