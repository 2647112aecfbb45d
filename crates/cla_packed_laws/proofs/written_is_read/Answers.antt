use Rattle.std.proofs.Common.{refl, arith}
use Rattle.cla_packed_laws.proofs.Files.{file_form}
use Rattle.cla_packed_laws.proofs.Canonical.{file_from}
use Rattle.cla_packed_laws.proofs.written_is_read.Goals as goal

pub returns : goal.returns
returns c limit l h small = (file_form 8 47 (omega arith, refl)).again limit l (file_from l h) small
