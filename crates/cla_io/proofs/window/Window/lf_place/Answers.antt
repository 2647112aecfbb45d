use Rattle.cla_io.proofs.TakenLines.{lf_found}
use Rattle.cla_io.proofs.window.Window.lf_place.Goals as goal

pub returns : goal.returns
returns c = lf_found _ _ (rw c.as_slice.ensures at c.memchr.ensures)
