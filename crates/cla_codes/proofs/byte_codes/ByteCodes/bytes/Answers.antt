use Rattle.cla_codes.proofs.CodeBytes.{kept_written}
use Rattle.cla_codes.proofs.byte_codes.ByteCodes.bytes.Goals as goal

pub returns : goal.returns
returns g c =
    let r = c.self.inside in
    rw (← c.self.view_is, c.deref.ensures.value) (kept_written g.row.W r.bytes.items r.rows c.self.invariant.size)
