use Rattle.cla_layout.proofs.Matrices.{stands, well_made}
use Rattle.cla_layout.proofs.laws.layouts_stand.Goals as goal

pub returns : goal.returns
returns c bits layout whole = (stands bits layout whole, well_made bits layout whole)
