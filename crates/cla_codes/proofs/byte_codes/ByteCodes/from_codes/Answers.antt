use Rattle.std.proofs.Common.{arith}
use Rattle.cla_codes.proofs.CodeBytes.{written_read}
use Rattle.cla_codes.proofs.byte_codes.ByteCodes.from_codes.Goals as goal

pub from_bytes-requires : goal.from_bytes-requires
from_bytes-requires g c =
    let written = c.in_ok-bytes.ensures in
    let same = written_read g.row.W c.args.codes.now c.in_ok-bytes.bytes.items written in
    (omega arith, (written.size, (rw same c.requires.below, (c.requires.few, c.requires.fits))))

pub returns : goal.returns
returns g c =
    rw (written_read g.row.W c.args.codes.now c.in_ok-bytes.bytes.items c.in_ok-bytes.ensures) at c.from_bytes.ensures
