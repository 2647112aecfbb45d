use Rattle.std.proofs.Common.{refl, arith}
use Rattle.cla_packed_laws.proofs.Files.{file_form}
use Rattle.cla_packed_laws.proofs.Canonical.{canonical_from}
use Rattle.cla_packed_laws.proofs.read_is_written.Goals as goal

pub returns : goal.returns
returns c limit file l fits e = (let t = (file_form 8 47 (omega arith, refl)).takes limit file l fits e in
    (canonical_from l t.0, t.1, t.2))
