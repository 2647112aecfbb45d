use Rattle.std.proofs.Common.{sym}
use Rattle.cla_codes.proofs.CodeBytes.{codes_count}
use Rattle.cla_codes.proofs.byte_codes.ByteCodes.len.Goals as goal

pub returns : goal.returns
returns g c = let r = c.self.inside in rw (← c.self.view_is) (sym (codes_count g.row.W r.bytes.items r.rows))
