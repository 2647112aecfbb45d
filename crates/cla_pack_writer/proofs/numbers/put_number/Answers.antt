use Rattle.std.proofs.Common.{◌∙◌, take, ap, arith}
use Rattle.cla_pack_writer.proofs.Pieces.{low_bytes}
use Rattle.cla_pack_writer.proofs.Sending.{sent_as}
use Rattle.cla_pack_writer.proofs.numbers.put_number.Goals as goal

pub returns : goal.returns
returns g c = sent_as (ap (take c.args.bytes) c.to_le_bytes.ensures
    ∙ low_bytes c.args.bytes c.args.n c.requires (omega arith)) c.put.ensures
