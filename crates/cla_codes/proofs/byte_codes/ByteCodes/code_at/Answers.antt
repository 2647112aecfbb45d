use Rattle.std.proofs.Common.{◌<◌, ◌∙◌, length, sym}
use Rattle.cla_codes.proofs.CodeBytes.{codes_count, code_in, bytes_within}
use Rattle.cla_codes.proofs.byte_codes.ByteCodes.code_at.Goals as goal
use Rattle.cla_codes.proofs.byte_codes.ByteCodes.code_at.Goals.{After-deref}

pub read_code-requires-clause-within : goal.read_code-requires-clause-within
read_code-requires-clause-within g c =
    let r = c.self.inside in
    let row : c.args.i < r.rows = rw (codes_count g.row.W r.bytes.items r.rows) at (rw (← c.self.view_is) at c.requires)
    in
    rw c.deref.ensures.value (bytes_within g.row.W r.rows c.args.i (length r.bytes.items) row c.self.invariant.size)

pub returns : goal.returns
returns g c =
    let r = c.self.inside in
    let row : c.args.i < r.rows = rw (codes_count g.row.W r.bytes.items r.rows) at (rw (← c.self.view_is) at c.requires)
    in
    rw (← c.self.view_is) (rw c.deref.ensures.value at c.read_code.ensures
    ∙ sym (code_in g.row.W r.bytes.items r.rows c.args.i row))
