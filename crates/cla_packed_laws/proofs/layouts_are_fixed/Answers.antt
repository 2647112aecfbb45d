use Rattle.cla_packed_laws.proofs.Fixed.{layout_fixed}
use Rattle.cla_packed_laws.proofs.layouts_are_fixed.Goals as goal

pub returns : goal.returns
returns c bits layout other kinds is also matrix columns = layout_fixed bits layout other kinds is also matrix columns
